-- The lines of a world file.
use Rattle.std.specs.Prelude.{ℕ, zero, suc, ◌+◌, ◌-◌, List, [], ◌∷◌, ◌++◌, true, if◌then◌else◌, take, map, flat_map}
use Rattle.store_word.specs.declared.space.Space.{Space}
use Rattle.lisp_graph.specs.declared.object.Value.{Value}
use Rattle.lisp_graph.specs.declared.object.Value.TheVariants.{Nil}
use Rattle.lisp_graph.specs.declared.object.Body.{Body}
use Rattle.lisp_graph.specs.declared.object.Body.TheVariants.{Cons, Block}
use Rattle.lisp_graph.specs.declared.object.Object.{Object}
use Rattle.lisp_graph.specs.declared.world.AreaRule.{AreaRule}
use Rattle.lisp_graph.specs.Groups.{group_size, is_nil, to_tail}
use Rattle.world_text.specs.writing.Spelling.{WorldLine, FormatLine, SpaceLine, AreaLine, CapacityLine, ConsLine, BlockLine, RunLine, RootLine, ClosingLine, spelled}

abbrev pub car_of : Body → Value
car_of (Cons car cdr) = car
car_of (Block code fields) = Nil

-- Lines

-- the line of one object
abbrev pub object_line : ℕ → Body → WorldLine
object_line area (Cons car cdr) = ConsLine area car cdr
object_line area (Block code fields) = BlockLine area code fields

-- the line of the first of these objects, which begins a group of this size, or no group if the size is 0
abbrev pub line_of_size : ℕ → Object → List Object → WorldLine
line_of_size zero object objects = object_line object.area object.body
line_of_size (suc more) object objects = RunLine object.area (map (λ one. car_of one.body) (take (suc more) (object ∷ objects)))

-- the lines of these objects, numbered from this one on; the first `skip` objects are in an earlier line
abbrev pub object_lines_of : ℕ → ℕ → List Object → List WorldLine
object_lines_of skip number [] = []
object_lines_of (suc skip) number (object ∷ objects) = object_lines_of skip (number + 1) objects
object_lines_of zero number (object ∷ objects) =
    let size = group_size (to_tail object.area number (object ∷ objects)) in
    line_of_size size object objects ∷ object_lines_of (size - 1) (number + 1) objects

-- a line for each register from this one on whose value isn't nil
abbrev pub root_lines_of : ℕ → List Value → List WorldLine
root_lines_of register [] = []
root_lines_of register (value ∷ values) = if is_nil value then root_lines_of (register + 1) values else RootLine register value ∷ root_lines_of (register + 1) values

-- the lines before the objects, in format 2
abbrev pub head_lines : Space → List AreaRule → List WorldLine
head_lines space areas = FormatLine true ∷ SpaceLine space ∷ map AreaLine areas ++ CapacityLine (take space.levels space.capacity) ∷ []

-- the lines of the file of a world
abbrev pub file_lines : Space → List AreaRule → List Object → List Value → List WorldLine
file_lines space areas objects roots = head_lines space areas ++ object_lines_of 0 0 objects ++ root_lines_of 0 roots ++ ClosingLine true ∷ []

-- lines, each with its line feed
abbrev pub text_of : List AreaRule → List WorldLine → List ℕ
text_of areas lines = flat_map (λ line. spelled areas line ++ 10 ∷ []) lines

-- What a dump writes of what it numbered, and compiling of the world that it read.
abbrev pub file_text : Space → List AreaRule → List Object → List Value → List ℕ
file_text space areas objects roots = text_of areas (file_lines space areas objects roots)
