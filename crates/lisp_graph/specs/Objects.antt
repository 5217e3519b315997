-- The objects of a world, as a list holds them in cells.
use Rattle.std.specs.Prelude.{ℕ, ◌%◌, ◌^◌, ◌<◌, ⊤, List, [], slice_index_or, Option, Some, None}
use Rattle.std.specs.Int.{cast_signed, w32}
use Rattle.lisp_graph.specs.declared.object.Value.{Value}
use Rattle.lisp_graph.specs.declared.object.Value.TheVariants as V
use Rattle.lisp_graph.specs.declared.object.Body.{Body}
use Rattle.lisp_graph.specs.declared.object.Body.TheVariants as B
use Rattle.lisp_graph.specs.declared.object.Object.{Object}
use Rattle.lisp_graph.specs.declared.objects.Kind.{Kind}
use Rattle.lisp_graph.specs.declared.objects.Kind.TheVariants as K
use Rattle.lisp_graph.specs.declared.objects.Shape.{Shape}
use Rattle.lisp_graph.specs.declared.objects.Shape.TheVariants as S
use Rattle.lisp_graph.specs.declared.objects.Cell.{Cell}
use Rattle.lisp_graph.specs.declared.objects.BodyRef.{BodyRef}
use Rattle.lisp_graph.specs.declared.objects.BodyRef.TheVariants as R
use Rattle.lisp_graph.specs.declared.objects.ObjectRef.{ObjectRef}

-- What contracts see of a borrowed object

-- what an object is made of, with the list of its fields in place of the borrowed list
abbrev pub body_copied : BodyRef → Body
body_copied (R.Cons car cdr) = B.Cons car cdr
body_copied (R.Block code fields) = B.Block code fields.now

-- an object, with the list of its fields in place of the borrowed list
abbrev pub object_copied : ObjectRef → Object
object_copied object = record { area = object.area; charge = object.charge; body = body_copied object.body }

-- a cons of any charge
abbrev pub cons_object : ℕ → ℕ → Value → Value → Object
cons_object area charge car cdr = record { area = area; charge = charge; body = B.Cons car cdr }

-- the car and the cdr of a cons
abbrev pub cons_parts : Body → Option (Value × Value)
cons_parts (B.Cons car cdr) = Some (car, cdr)
cons_parts (B.Block code fields) = None

-- What a cell holds

-- the value of this kind with this number: the low 32 bits are those of a number
abbrev pub value_in : Kind → ℕ → Value
value_in K.Fix number = V.Fix (cast_signed w32 (number % 2 ^ 32))
value_in K.Nil number = V.Nil
value_in K.Ref number = V.Ref number

-- what an object of this shape with these two numbers is made of: the fields of a block have the first as their place, and the low 16 bits of the second are its code
abbrev pub shaped_body : List (List Value) → Shape → ℕ → ℕ → Body
shaped_body blocks (S.Cons car cdr) first second = B.Cons (value_in car first) (value_in cdr second)
shaped_body blocks S.Block first second = B.Block (second % 2 ^ 16) (slice_index_or blocks first [])

-- what the object in a cell is made of
abbrev pub body_in : List (List Value) → Cell → Body
body_in blocks cell = shaped_body blocks cell.shape cell.first cell.second

-- the object in a cell
abbrev pub object_in : List (List Value) → Cell → Object
object_in blocks cell = record { area = cell.area; charge = cell.charge; body = body_in blocks cell }

-- the number of a block is that of one of the first `count` blocks
abbrev pub HasShape : ℕ → Shape → ℕ → Type 0
HasShape count (S.Cons car cdr) first = ⊤
HasShape count S.Block first = first < count

-- a cell of a list with this many blocks
abbrev pub IsCell : ℕ → Cell → Type 0
IsCell count cell = HasShape count cell.shape cell.first
