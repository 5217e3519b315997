-- Conses that wait for the end of their list before their line is written.
use Rattle.std.specs.Prelude.{◌≡◌, ℕ, ◌+◌, ◌<◌, ◌≤◌, ◌^◌, List, [], ◌∷◌, ◌++◌, length}
use Rattle.lisp_graph.specs.declared.object.Value.{Value}
use Rattle.lisp_graph.specs.declared.object.Value.TheVariants.{Ref}
use Rattle.lisp_graph.specs.declared.object.Body.TheVariants.{Cons}
use Rattle.lisp_graph.specs.declared.object.Object.{Object}
use Rattle.lisp_graph.specs.declared.world.AreaRule.{AreaRule}
use Rattle.world_text.specs.declared.writing.object_writer.ObjectWriter.{ObjectWriter}
use Rattle.world_text.specs.writing.Spelling.{WorldLine, ConsLine}
use Rattle.world_text.specs.writing.File.{object_lines_of, text_of}

-- a cons of charge 3 with this number, whose cdr is the next object
abbrev pub link : ℕ → ℕ → Value → Object
link area number car = record { area = area; charge = 3; body = Cons car (Ref (number + 1)) }

-- such conses with these cars, numbered from this one on
abbrev pub links : ℕ → ℕ → List Value → List Object
links area number [] = []
links area number (car ∷ cars) = link area number car ∷ links area (number + 1) cars

-- their lines if they are in no group
abbrev pub link_lines : ℕ → ℕ → List Value → List WorldLine
link_lines area number [] = []
link_lines area number (car ∷ cars) = ConsLine area car (Ref (number + 1)) ∷ link_lines area (number + 1) cars

-- the text of the objects so far if these follow
abbrev pub text_with : List AreaRule → ObjectWriter → List Object → List ℕ
text_with areas writer more = writer.text ++ text_of areas (object_lines_of 0 writer.first (links writer.area writer.first writer.cars.items ++ more))

-- the number of the next object
abbrev pub next_number : ObjectWriter → ℕ
next_number writer = writer.first + length writer.cars.items

-- at most 1,024 conses wait, and there are at most 2^32 objects before the next
pub record IsWriter (writer : ObjectWriter) : Type 0 where
  pub waiting : length writer.cars.items ≤ 1024
  pub few : next_number writer ≤ 2 ^ 32

-- an object was added
pub record Adds (areas : List AreaRule) (object : Object) (old new : ObjectWriter) : Type 0 where
  pub text : (more : List Object) → text_with areas new more ≡ text_with areas old (object ∷ more)
  pub next : next_number new ≡ next_number old + 1
  pub waiting : length new.cars.items ≤ 1024

-- there is room for one more cons of this area
pub record HasRoomFor (areas : List AreaRule) (area : ℕ) (old new : ObjectWriter) : Type 0 where
  pub text : (object : Object) (more : List Object) → object.area ≡ area → text_with areas new (object ∷ more) ≡ text_with areas old (object ∷ more)
  pub next : next_number new ≡ next_number old
  pub of_area : new.area ≡ area
  pub waiting : length new.cars.items < 1024

-- no cons waits any longer: those that did are in no group
pub record WritesAll (areas : List AreaRule) (old new : ObjectWriter) : Type 0 where
  pub text : new.text ≡ old.text ++ text_of areas (link_lines old.area old.first old.cars.items)
  pub none : new.cars.items ≡ []
  pub next : new.first ≡ next_number old
  pub of_area : new.area ≡ old.area

-- the lines of these objects, and no others, were written after this text, or their conses wait
pub record AreWritten (areas : List AreaRule) (start : List ℕ) (objects : List Object) (writer : ObjectWriter) : Type 0 where
  pub text : (more : List Object) → text_with areas writer more ≡ start ++ text_of areas (object_lines_of 0 0 (objects ++ more))
  pub next : next_number writer ≡ length objects
  pub waiting : length writer.cars.items ≤ 1024
