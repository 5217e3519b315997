-- The fields of a block.
use Rattle.std.specs.Prelude.{ℕ, ◌<◌, length, slice_set}
use Rattle.lisp_graph.specs.declared.object.Value.{Value}
use Rattle.lisp_graph.specs.declared.object.Body.{Body}
use Rattle.lisp_graph.specs.declared.object.Body.TheVariants as B

-- a block with a field of this index
abbrev pub HasField : Body → ℕ → Type 0
HasField (B.Cons car cdr) index = ⊥
HasField (B.Block code fields) index = index < length fields

-- with another value in a field of a block
abbrev pub with_field : Body → ℕ → Value → Body
with_field (B.Cons car cdr) index value = B.Cons car cdr
with_field (B.Block code fields) index value = B.Block code (slice_set fields index value)
