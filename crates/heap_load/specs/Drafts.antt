-- The objects of a world while a machine is loaded with them: each is made with the parts that are known by then, and gets the others afterwards.
use Rattle.std.specs.Prelude.{◌≡◌, ℕ, ◌==◌, nat_lt, Bool, true, false, if◌then◌else◌, List, ◌++◌, length, sum_by, take, drop, Option, Some, None}
use Rattle.lisp_graph.specs.declared.object.Value.{Value}
use Rattle.lisp_graph.specs.declared.object.Value.TheVariants.{Fix, Nil, Ref}
use Rattle.lisp_graph.specs.declared.object.Body.{Body}
use Rattle.lisp_graph.specs.declared.object.Body.TheVariants.{Cons, Block}
use Rattle.lisp_graph.specs.declared.object.Object.{Object}
use Rattle.lisp_graph.specs.declared.world.World.{World}

-- the car of a cons, and nil for a block
abbrev pub car_of : Body → Value
car_of (Cons car cdr) = car
car_of (Block code fields) = Nil

-- the cdr of a cons, and nil for a block
abbrev pub cdr_of : Body → Value
cdr_of (Cons car cdr) = cdr
cdr_of (Block code fields) = Nil

-- the code of a block and its number of fields, and none for a cons
abbrev pub header_of : Body → Option (ℕ × ℕ)
header_of (Cons car cdr) = None
header_of (Block code fields) = Some (code, length fields)

-- whether a part of the object with this number is known when the object is made: it isn't a reference, or refers to an object before it
abbrev pub is_known : ℕ → Value → Bool
is_known number (Ref name) = nat_lt name number
is_known number Nil = true
is_known number (Fix i) = true

-- the part as it is made: nil if it isn't known
abbrev pub known_part : ℕ → Value → Value
known_part number value = if is_known number value then value else Nil

-- the object with this number as it is made first: of the same area, charge, kind, code and number of fields; a cell of a list has its cdr from the beginning, and a pair each part that is known by then
pub record IsDraft (number : ℕ) (whole draft : Object) (cell : Bool) : Type 0 where
  pub area : draft.area ≡ whole.area
  pub charge : draft.charge ≡ whole.charge
  pub header : header_of draft.body ≡ header_of whole.body
  pub cell_cdr : cell ≡ true → cdr_of draft.body ≡ cdr_of whole.body
  pub car : cell ≡ false → is_known number (car_of whole.body) ≡ true → car_of draft.body ≡ car_of whole.body
  pub cdr : cell ≡ false → is_known number (cdr_of whole.body) ≡ true → cdr_of draft.body ≡ cdr_of whole.body

-- the world with these objects
abbrev pub with_objects : World → List Object → World
with_objects world objects = record world { objects = objects }

-- the first `count` objects have their parts, and the others are drafts
abbrev pub filled : ℕ → List Object → List Object → List Object
filled count whole drafts = take count whole ++ drop count drafts

-- what the objects of an area are charged together
abbrev pub charge_in : ℕ → List Object → ℕ
charge_in area objects = sum_by (λ object. if object.area == area then object.charge else 0) objects
