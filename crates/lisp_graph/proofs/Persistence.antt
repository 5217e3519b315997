-- No command removes a register or an object.
use Rattle.std.proofs.Common.{◌≡◌, ℕ, ◌*◌, suc, List, length, Bool, true, false, Option, Some, None, refl, sym, subst, pos, set, arith, length-append, length-set}
use Rattle.std.specs.Prelude.{if◌then◌else◌, nat_lt, nat_le, Result, Ok, Err, IfOk, OnErr}
use Rattle.std.specs.Option.{IfSome, IsSomeAnd}
use Rattle.lisp_graph.specs.declared.object.Value.{Value}
use Rattle.lisp_graph.specs.declared.object.Value.TheVariants as V
use Rattle.lisp_graph.specs.declared.object.Body.{Body}
use Rattle.lisp_graph.specs.declared.object.Body.TheVariants as B
use Rattle.lisp_graph.specs.declared.object.Object.{Object}
use Rattle.lisp_graph.specs.declared.command.Command.{Command}
use Rattle.lisp_graph.specs.declared.command.Command.TheVariants as C
use Rattle.lisp_graph.specs.declared.reply.Reply.{Reply}
use Rattle.lisp_graph.specs.declared.reply.Reply.TheVariants as R
use Rattle.lisp_graph.specs.Graph.{Graph, Lasts, object_at, value_at}
use Rattle.lisp_graph.specs.Effect.{Answers, Effect, effect, with_register, with_object, made, when_cons, when_cons_body, when_block, when_block_body, when_field, stored, fetched, answered}

lasts : (graph : Graph) → Lasts graph graph
lasts graph = record { registers = refl; objects = omega arith }

with_register_lasts : (graph : Graph) (to : ℕ) (value : Value) → Lasts graph (with_register graph to value)
with_register_lasts graph to value = record { registers = length-set graph.registers to value; objects = omega arith }

with_object_lasts : (graph : Graph) (name : ℕ) (object : Object) → Lasts graph (with_object graph name object)
with_object_lasts graph name object = record { registers = refl; objects = omega (arith, length-set graph.objects name object) }

made_lasts : (graph : Graph) (to area charge : ℕ) (objects : List Object) → Lasts graph (made graph to area charge objects).graph
made_lasts graph to area charge objects = record {
  registers = length-set graph.registers to (V.Ref (length graph.objects));
  objects = omega (arith, length-append graph.objects objects);
}

if_lasts : (graph : Graph) (test : Bool) (this other : Effect) → Lasts graph this.graph → Lasts graph other.graph → Lasts graph (if test then this else other).graph
if_lasts graph true this other t o = t
if_lasts graph false this other t o = o

cons_lasts : (graph : Graph) (value : Value) (found : ℕ → Value → Value → Effect) (other : Effect) → ((name : ℕ) (car cdr : Value) → Lasts graph (found name car cdr).graph)
    → Lasts graph other.graph → Lasts graph (when_cons graph.objects value found other).graph
cons_lasts graph (V.Ref name) found other f o = in_body (object_at graph.objects name).body
  where
    in_body : (body : Body) → Lasts graph (when_cons_body body (found name) other).graph
    in_body (B.Cons car cdr) = f name car cdr
    in_body (B.Block code fields) = o
cons_lasts graph V.Nil found other f o = o
cons_lasts graph (V.Fix number) found other f o = o

block_lasts : (graph : Graph) (value : Value) (found : ℕ → ℕ → List Value → Effect) (other : Effect)
    → ((name code : ℕ) (fields : List Value) → Lasts graph (found name code fields).graph) → Lasts graph other.graph → Lasts graph (when_block graph.objects value found other).graph
block_lasts graph (V.Ref name) found other f o = in_body (object_at graph.objects name).body
  where
    in_body : (body : Body) → Lasts graph (when_block_body body (found name) other).graph
    in_body (B.Cons car cdr) = o
    in_body (B.Block code fields) = f name code fields
block_lasts graph V.Nil found other f o = o
block_lasts graph (V.Fix number) found other f o = o

pub effect_lasts : (graph : Graph) (command : Command) → IfSome (effect graph command) (λ effect. Lasts graph effect.graph)
effect_lasts graph (C.Set to value) = with_register_lasts graph to value
effect_lasts graph (C.Move to from) = with_register_lasts graph to _
effect_lasts graph (C.Cons to area car cdr) = made_lasts graph to area 2 _
effect_lasts graph (C.List to area items) = made_lasts graph to area (3 * length items) _
effect_lasts graph (C.Make to area code count) = made_lasts graph to area (suc count) _
effect_lasts graph (C.Grow target count) =
    block_lasts graph (value_at graph.registers target) _ (answered R.WrongType graph)
    (λ name code fields. if_lasts graph (nat_le count (length fields)) (answered R.Fine graph) _ (lasts graph) (with_object_lasts graph name _)) (lasts graph)
effect_lasts graph (C.Car to from) =
    cons_lasts graph (value_at graph.registers from) (λ name car cdr. fetched graph to car) (answered R.WrongType graph) (λ name car cdr. with_register_lasts graph to car) (lasts graph)
effect_lasts graph (C.Cdr to from) =
    cons_lasts graph (value_at graph.registers from) (λ name car cdr. fetched graph to cdr) (answered R.WrongType graph) (λ name car cdr. with_register_lasts graph to cdr) (lasts graph)
effect_lasts graph (C.Rplaca target from) =
    cons_lasts graph (value_at graph.registers target) (λ name car cdr. stored graph name (B.Cons (value_at graph.registers from) cdr)) (answered R.WrongType graph)
    (λ name car cdr. with_object_lasts graph name _) (lasts graph)
effect_lasts graph (C.Rplacd target from) =
    cons_lasts graph (value_at graph.registers target) (λ name car cdr. stored graph name (B.Cons car (value_at graph.registers from))) (answered R.WrongType graph)
    (λ name car cdr. with_object_lasts graph name _) (lasts graph)
effect_lasts graph (C.Get to from index) =
    block_lasts graph (value_at graph.registers from) (λ name code fields. when_field graph fields index (fetched graph to (value_at fields index))) (answered R.WrongType graph)
    (λ name code fields. if_lasts graph (nat_lt index (length fields)) _ _ (with_register_lasts graph to (value_at fields index)) (lasts graph)) (lasts graph)
effect_lasts graph (C.Put target index from) =
    block_lasts graph (value_at graph.registers target)
    (λ name code fields. when_field graph fields index (stored graph name (B.Block code (set fields index (value_at graph.registers from))))) (answered R.WrongType graph)
    (λ name code fields. if_lasts graph (nat_lt index (length fields)) _ _ (with_object_lasts graph name _) (lasts graph)) (lasts graph)
effect_lasts graph (C.Size of) =
    block_lasts graph (value_at graph.registers of) (λ name code fields. answered (R.Number (pos (length fields))) graph) (answered R.WrongType graph) (λ name code fields. lasts graph) (lasts graph)
effect_lasts graph (C.Eq left right) = lasts graph
effect_lasts graph (C.Flip what) = tt
effect_lasts graph (C.Scavenge count) = tt
effect_lasts graph C.Reclaim = tt
effect_lasts graph (C.PageOut count) = tt
effect_lasts graph C.Stats = tt
effect_lasts graph C.Dump = tt

-- the same after an answer, and after a refusal
pub answer_lasts : {E : Type 0} (result : Result Reply E) (old new : Graph) (command : Command)
    → IfOk result (λ reply. Answers old command reply new) → OnErr result (new ≡ old) → Lasts old new
answer_lasts (Ok reply) old new command answers err = after (effect old command) (effect_lasts old command) answers
  where
    after : (o : Option Effect) → IfSome o (λ effect. Lasts old effect.graph) → IsSomeAnd o (λ effect. (reply ≡ effect.reply) × (new ≡ effect.graph)) → Lasts old new
    after None k a = absurd a
    after (Some effect) k a = subst (Lasts old) (sym a.1) k
answer_lasts (Err error) old new command answers err = subst (Lasts old) (sym err) (lasts old)
