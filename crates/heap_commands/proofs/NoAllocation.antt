-- The state after a command that allocates nothing.
use Rattle.std.proofs.Common.{◌≡◌, ◌≢◌, ℕ, inr, refl, List, Some, IsTrue, arith, sym, subst}
use Rattle.store_word.specs.Words.{Parts}
use Rattle.lisp_graph.specs.declared.command.Command.{Command}
use Rattle.lisp_graph.specs.declared.reply.Reply.{Reply}
use Rattle.lisp_graph.specs.declared.reply.Reply.TheVariants as R
use Rattle.lisp_graph.specs.Effect.{answered, effect}
use Rattle.mem_port.specs.Store.{Store, StoresNothing}
use Rattle.area_space.specs.Table.{Table}
use Rattle.block_store.specs.lisp_meaning.State.{State}
use Rattle.block_store.specs.lisp_meaning.Flip.{graph_of}
use Rattle.block_store.specs.lisp_meaning.Roles.{RoleMap}
use Rattle.block_store.specs.lisp_meaning.Step.{owed_by}
use Rattle.heap_state.specs.Represents.{Represents}
use Rattle.heap_state.specs.Performs.{Performs}
use Rattle.heap_state.specs.Reads.{IsDone, reads}
use Rattle.heap_state.specs.Settled.{IsSettled}
use Rattle.heap_state.proofs.PageMarks.{marks_of}
use Rattle.heap_state.proofs.CommandEffects.{Leaves, counted_represented, leaves_read, leaves_same, wider_represented}

-- this is the reply, and the graph is unchanged
pub performs_same : (m m' : Store) (t t' : Table) (registers registers' : List Parts) (c : Command) (reply : Reply)
    → ((k : RoleMap) (s : State) → Represents m t registers k s → effect (graph_of s) c ≡ Some (answered reply (graph_of s))) → reply ≢ R.Fault → (IsDone reply → (i : ℕ) → IsTrue (reads c i) → IsSettled t' registers' i)
    → Leaves m t registers m' t' registers' → Performs m t registers m' t' registers' c reply
performs_same m m' t t' registers registers' c reply is sure settled x = record {
  performed = λ k s b reach. inr (record {
    effect_of = answered reply (graph_of s);
    is = is k s b;
    reply = refl;
    sure = sure;
    represented = counted_represented m m' t t' registers' k s s (owed_by c reply) 0 (owed_by c reply) (wider_represented m m' t t' registers' k s s 0 (owed_by c reply) (omega arith) (x.represented k s b reach));
  });
  preserves = x.preserves;
  others = x.others;
  stays_fresh = x.stays_fresh;
  marks = marks_of c reply x.marks;
  settled = settled;
}

-- Nothing was stored, in the same table
pub leaves_there : (m m' : Store) (t t' : Table) (registers : List Parts) → StoresNothing m m' → t' ≡ t → Leaves m t registers m' t' registers
leaves_there m m' t t' registers stays same = subst (λ (u : Table). Leaves m t registers m' u registers) (sym same) (leaves_same m m' t registers stays)

-- the same after registers were settled
pub leaves_still : (m m1 m2 : Store) (t t1 t2 : Table) (registers registers1 : List Parts) → Leaves m t registers m1 t1 registers1 → StoresNothing m1 m2 → t2 ≡ t1 → Leaves m t registers m2 t2 registers1
leaves_still m m1 m2 t t1 t2 registers registers1 left stays same = subst (λ (u : Table). Leaves m t registers m2 u registers1) (sym same) (leaves_read m m1 m2 t t1 registers registers1 left stays)
