-- What a program sees: the values of its registers, and the objects that they lead to.
use Rattle.std.specs.Prelude.{◌≡◌, ℕ, ◌<◌, ◌≤◌, Bool, true, false, ◌==◌, ◌||◌, List, [], ◌∷◌, length, slice_index_or, ⊤}
use Rattle.std.specs.List.{All}
use Rattle.std.specs.Ordering.{int_eq}
use Rattle.lisp_graph.specs.declared.object.Value.{Value}
use Rattle.lisp_graph.specs.declared.object.Value.TheVariants as V
use Rattle.lisp_graph.specs.declared.object.Body.{Body}
use Rattle.lisp_graph.specs.declared.object.Body.TheVariants as B
use Rattle.lisp_graph.specs.declared.object.Object.{Object}
use Rattle.lisp_graph.specs.declared.reply.Reply.{Reply}
use Rattle.lisp_graph.specs.declared.reply.Reply.TheVariants as R

-- a value for each register, and the objects in the order of their names
pub record Graph : Type 0 where
  pub registers : List Value
  pub objects : List Object

-- what is read as the object past the last name
abbrev pub no_object : Object
no_object = record { area = 0; charge = 0; body = B.Block 0 [] }

-- the object with this name
abbrev pub object_at : List Object → ℕ → Object
object_at objects name = slice_index_or objects name no_object

-- the value of a register, and the value in a field
abbrev pub value_at : List Value → ℕ → Value
value_at values index = slice_index_or values index V.Nil

-- whether two values are equal; references are equal if their names are
abbrev pub same_value : Value → Value → Bool
same_value (V.Fix i) (V.Fix j) = int_eq i j
same_value V.Nil V.Nil = true
same_value (V.Ref m) (V.Ref n) = m == n
same_value _ _ = false

-- the reply that shows an object of this body
abbrev pub shown_body : Body → Reply
shown_body (B.Cons car cdr) = R.Cons
shown_body (B.Block code fields) = R.Block code (length fields)

-- the reply that shows a value
abbrev pub shown : List Object → Value → Reply
shown objects (V.Fix number) = R.Number number
shown objects V.Nil = R.Nil
shown objects (V.Ref name) = shown_body (object_at objects name).body

-- whether a value refers to the object with this name
abbrev pub is_ref : ℕ → Value → Bool
is_ref name (V.Ref other) = other == name
is_ref name V.Nil = false
is_ref name (V.Fix number) = false

-- whether one of these values refers to the object with this name
unfoldable pub refers_in : ℕ → List Value → Bool
refers_in name [] = false
refers_in name (value ∷ values) = is_ref name value || refers_in name values

-- whether a part of an object refers to the object with this name
abbrev pub body_refers : ℕ → Body → Bool
body_refers name (B.Cons car cdr) = is_ref name car || is_ref name cdr
body_refers name (B.Block code fields) = refers_in name fields

-- Graphs in which no reference dangles

-- a value refers to no object except the first `count`
abbrev pub RefersBelow : ℕ → Value → Type 0
RefersBelow count (V.Ref name) = name < count
RefersBelow count V.Nil = ⊤
RefersBelow count (V.Fix number) = ⊤

-- nor does any part of an object
abbrev pub PartsReferBelow : ℕ → Body → Type 0
PartsReferBelow count (B.Cons car cdr) = RefersBelow count car × RefersBelow count cdr
PartsReferBelow count (B.Block code fields) = All (RefersBelow count) fields

-- how many parts an object has
abbrev pub width : Body → ℕ
width (B.Cons car cdr) = 2
width (B.Block code fields) = length fields

-- an object of a graph with this many objects: its parts refer only to them, and it has at most 2,047 parts
pub record IsObject (count : ℕ) (object : Object) : Type 0 where
  pub refers : PartsReferBelow count object.body
  pub wide : width object.body ≤ 2047

-- each reference is to an object of the graph, and no block has more than 2,047 fields
pub record IsGraph (graph : Graph) : Type 0 where
  pub registers : All (RefersBelow (length graph.objects)) graph.registers
  pub objects : All (IsObject (length graph.objects)) graph.objects

-- the same number of registers, and no fewer objects
pub record Lasts (old new : Graph) : Type 0 where
  pub registers : length new.registers ≡ length old.registers
  pub objects : length old.objects ≤ length new.objects
