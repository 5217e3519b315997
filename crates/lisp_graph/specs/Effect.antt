-- What a command of the program does to the graph if there is room, and which charge it wants.
use Rattle.std.specs.Prelude.{◌≡◌, ℕ, suc, ◌+◌, ◌-◌, ◌*◌, max, min, if◌then◌else◌, nat_lt, nat_le, List, [], ◌∷◌, ◌++◌, length, map, replicate, slice_set, Option, Some, None, IsSome, IsSomeAnd, pos}
use Rattle.lisp_graph.specs.declared.object.Value.{Value}
use Rattle.lisp_graph.specs.declared.object.Value.TheVariants as V
use Rattle.lisp_graph.specs.declared.object.Body.{Body}
use Rattle.lisp_graph.specs.declared.object.Body.TheVariants as B
use Rattle.lisp_graph.specs.declared.object.Object.{Object}
use Rattle.lisp_graph.specs.declared.command.Command.{Command}
use Rattle.lisp_graph.specs.declared.command.Command.TheVariants as C
use Rattle.lisp_graph.specs.declared.reply.Reply.{Reply}
use Rattle.lisp_graph.specs.declared.reply.Reply.TheVariants as R
use Rattle.lisp_graph.specs.Graph.{Graph, object_at, value_at, same_value, shown}

-- the words that a command wants charged to an area
pub record Wanted : Type 0 where
  pub area : ℕ
  pub charge : ℕ

-- the reply, the graph after the command, and what an allocation wants
pub record Effect : Type 0 where
  pub reply : Reply
  pub graph : Graph
  pub wanted : Option Wanted

-- Changes of a graph

-- with another value in a register
abbrev pub with_register : Graph → ℕ → Value → Graph
with_register graph to value = record graph { registers = slice_set graph.registers to value }

-- with another object under a name
abbrev pub with_object : Graph → ℕ → Object → Graph
with_object graph name object = record graph { objects = slice_set graph.objects name object }

-- with another body of the object under a name, which keeps its area and its charge
abbrev pub with_body : Graph → ℕ → Body → Graph
with_body graph name body = with_object graph name (record (object_at graph.objects name) { body = body })

-- What is made

-- a cons made by `cons`
abbrev pub pair_of : ℕ → Value → Value → Object
pair_of area car cdr = record { area = area; charge = 2; body = B.Cons car cdr }

-- a cons made by `list`
abbrev pub cell_of : ℕ → Value → Value → Object
cell_of area car cdr = record { area = area; charge = 3; body = B.Cons car cdr }

-- a block made by `make`
abbrev pub block_of : ℕ → ℕ → ℕ → Object
block_of area code length = record { area = area; charge = suc length; body = B.Block code (replicate length V.Nil) }

-- the cdr of the cons with this name in a list, if these cars follow it: the next cons, or nil
abbrev pub link : ℕ → List Value → Value
link name [] = V.Nil
link name (car ∷ cars) = V.Ref (suc name)

-- the conses of a list, with consecutive names from this one on
unfoldable pub list_from : ℕ → ℕ → List Value → List Object
list_from area name [] = []
list_from area name (car ∷ cars) = cell_of area car (link name cars) ∷ list_from area (suc name) cars

-- how many fields a block gets when it grows: the number wanted or, if that is greater, 2 * length + 1, at most 2,047
abbrev pub grown_length : ℕ → ℕ → ℕ
grown_length length wanted = max wanted (min (2 * length + 1) 2047)

-- a block with more fields: the old ones, followed by nil
abbrev pub grown_block : ℕ → ℕ → List Value → ℕ → Object
grown_block area code fields count = record { area = area; charge = suc count; body = B.Block code (fields ++ replicate (count - length fields) V.Nil) }

-- Kinds of effects

-- a command that allocates nothing
abbrev pub answered : Reply → Graph → Effect
answered reply graph = record { reply = reply; graph = graph; wanted = None }

-- objects get the next names, and the register refers to the first of them
abbrev pub made : Graph → ℕ → ℕ → ℕ → List Object → Effect
made graph to area charge objects = record {
  reply = R.Fine;
  graph = record { registers = slice_set graph.registers to (V.Ref (length graph.objects)); objects = graph.objects ++ objects };
  wanted = Some (record { area = area; charge = charge });
}

-- a block keeps its name, code and old fields, and gets at least the fields wanted; one that has them already is unchanged
abbrev pub grown : Graph → ℕ → ℕ → List Value → ℕ → Effect
grown graph name code fields wanted =
    let area = (object_at graph.objects name).area in
    let count = grown_length (length fields) wanted in
    if nat_le wanted (length fields) then answered R.Fine graph
    else record {
      reply = R.Fine;
      graph = with_object graph name (grown_block area code fields count);
      wanted = Some (record { area = area; charge = suc count });
    }

-- Cases

-- `found` of the parts of a cons; `other` for a block
abbrev pub when_cons_body : {A : Type 0} → Body → (Value → Value → A) → A → A
when_cons_body (B.Cons car cdr) found other = found car cdr
when_cons_body (B.Block code fields) found other = other

-- `found` of the name and the parts of the cons that a value refers to; `other` for any other value
abbrev pub when_cons : {A : Type 0} → List Object → Value → (ℕ → Value → Value → A) → A → A
when_cons objects (V.Ref name) found other = when_cons_body (object_at objects name).body (found name) other
when_cons objects V.Nil found other = other
when_cons objects (V.Fix number) found other = other

-- `found` of the code and the fields of a block; `other` for a cons
abbrev pub when_block_body : {A : Type 0} → Body → (ℕ → List Value → A) → A → A
when_block_body (B.Block code fields) found other = found code fields
when_block_body (B.Cons car cdr) found other = other

-- `found` of the name, the code and the fields of the block that a value refers to; `other` for any other value
abbrev pub when_block : {A : Type 0} → List Object → Value → (ℕ → ℕ → List Value → A) → A → A
when_block objects (V.Ref name) found other = when_block_body (object_at objects name).body (found name) other
when_block objects V.Nil found other = other
when_block objects (V.Fix number) found other = other

-- `found` if there is a field of this index; otherwise the refusal of an index that is too large
abbrev pub when_field : Graph → List Value → ℕ → Effect → Effect
when_field graph fields index found = if nat_lt index (length fields) then found else answered (R.NoField (length fields)) graph

-- The effect of each command

-- a value is written to a register, and is shown
abbrev pub fetched : Graph → ℕ → Value → Effect
fetched graph to value = answered (shown graph.objects value) (with_register graph to value)

-- an object gets other parts
abbrev pub stored : Graph → ℕ → Body → Effect
stored graph name body = answered R.Fine (with_body graph name body)

-- The effect of a command of the program. All registers are read before one is written. The other commands have none.
abbrev pub effect : Graph → Command → Option Effect
effect graph (C.Set to value) = Some (answered R.Fine (with_register graph to value))
effect graph (C.Move to from) = Some (answered R.Fine (with_register graph to (value_at graph.registers from)))
effect graph (C.Cons to area car cdr) =
    Some (made graph to area 2 (pair_of area (value_at graph.registers car) (value_at graph.registers cdr) ∷ []))
effect graph (C.List to area items) =
    Some (made graph to area (3 * length items) (list_from area (length graph.objects) (map (value_at graph.registers) items)))
effect graph (C.Make to area code count) = Some (made graph to area (suc count) (block_of area code count ∷ []))
effect graph (C.Grow target count) =
    Some (when_block graph.objects (value_at graph.registers target)
    (λ name code fields. grown graph name code fields count)
    (answered R.WrongType graph))
effect graph (C.Car to from) =
    Some (when_cons graph.objects (value_at graph.registers from)
    (λ name car cdr. fetched graph to car)
    (answered R.WrongType graph))
effect graph (C.Cdr to from) =
    Some (when_cons graph.objects (value_at graph.registers from)
    (λ name car cdr. fetched graph to cdr)
    (answered R.WrongType graph))
effect graph (C.Rplaca target from) =
    Some (when_cons graph.objects (value_at graph.registers target)
    (λ name car cdr. stored graph name (B.Cons (value_at graph.registers from) cdr))
    (answered R.WrongType graph))
effect graph (C.Rplacd target from) =
    Some (when_cons graph.objects (value_at graph.registers target)
    (λ name car cdr. stored graph name (B.Cons car (value_at graph.registers from)))
    (answered R.WrongType graph))
effect graph (C.Get to from index) =
    Some (when_block graph.objects (value_at graph.registers from)
    (λ name code fields. when_field graph fields index (fetched graph to (value_at fields index)))
    (answered R.WrongType graph))
effect graph (C.Put target index from) =
    Some (when_block graph.objects (value_at graph.registers target)
    (λ name code fields. when_field graph fields index (stored graph name (B.Block code (slice_set fields index (value_at graph.registers from)))))
    (answered R.WrongType graph))
effect graph (C.Size of) =
    Some (when_block graph.objects (value_at graph.registers of)
    (λ name code fields. answered (R.Number (pos (length fields))) graph)
    (answered R.WrongType graph))
effect graph (C.Eq left right) =
    Some (answered (if same_value (value_at graph.registers left) (value_at graph.registers right) then R.True else R.Nil) graph)
effect graph (C.Flip what) = None
effect graph (C.Scavenge count) = None
effect graph C.Reclaim = None
effect graph (C.PageOut count) = None
effect graph C.Stats = None
effect graph C.Dump = None

-- a command of the program has this reply, and the graph after it is `new`
abbrev pub Answers : Graph → Command → Reply → Graph → Type 0
Answers graph command reply new = IsSomeAnd (effect graph command) (λ effect. (reply ≡ effect.reply) × (new ≡ effect.graph))

-- a command wants words
abbrev pub Allocates : Graph → Command → Type 0
Allocates graph command = IsSomeAnd (effect graph command) (λ effect. IsSome effect.wanted)
