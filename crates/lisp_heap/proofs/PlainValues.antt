-- A register gets a value that isn't a reference.
use Rattle.std.proofs.Common.{◌≡◌, ℕ, ◌<◌, ◌⊎◌, inr, refl, List, length, slice_set, Some, arith}
use Rattle.store_word.specs.Words.{Parts}
use Rattle.lisp_graph.specs.declared.command.Command.TheVariants as C
use Rattle.lisp_graph.specs.declared.object.Value.{Value}
use Rattle.lisp_graph.specs.declared.object.Value.TheVariants as V
use Rattle.lisp_graph.specs.declared.reply.Reply.TheVariants as R
use Rattle.lisp_graph.specs.Commands.{IsPlain}
use Rattle.lisp_graph.specs.Effect.{answered, with_register}
use Rattle.mem_port.specs.Store.{Store}
use Rattle.area_space.specs.Table.{Table}
use Rattle.word_graph.specs.lisp_meaning.State.{State}
use Rattle.word_graph.specs.lisp_meaning.Flip.{graph_of}
use Rattle.word_graph.specs.lisp_meaning.Roles.{RoleMap, value_of}
use Rattle.word_graph.specs.lisp_meaning.Sound.{IsAllowed, Reach}
use Rattle.heap_state.specs.transporter.Preserving.{FreshOn}
use Rattle.heap_state.proofs.transporter.PageMarks.{marks-same}
use Rattle.heap_state.proofs.transporter.ScannedWords.{preserves-same}
use Rattle.heap_state.specs.Represents.{Represents}
use Rattle.heap_state.specs.RepresentsLater.{RepresentsLater}
use Rattle.heap_state.specs.Performs.{AnswersOn, FaultsOn, Performs}
use Rattle.heap_state.proofs.StateChanges.{register_set}
use Rattle.heap_state.proofs.CommandEffects.{counted_represented, set_others}
use Rattle.heap_commands.specs.cdr_lists.Words.{plain}
use Rattle.lisp_heap.specs.Words.{content_of}

plain_value : (k : RoleMap) (v : Value) → IsPlain v → value_of k.role (content_of v) ≡ Some v
plain_value k (V.Fix n) is = refl
plain_value k V.Nil is = refl
plain_value k (V.Ref n) is = absurd is

plain_fresh : (t : Table) (v : Value) → FreshOn t (content_of v)
plain_fresh t (V.Fix n) b is old = absurd (cc (is))
plain_fresh t V.Nil b is old = absurd (cc (is))
plain_fresh t (V.Ref n) b is old = absurd (cc (is))

pub plain_allowed : (to : ℕ) (v : Value) → IsPlain v → IsAllowed (C.Set to v)
plain_allowed to (V.Fix n) is name = refl
plain_allowed to V.Nil is name = refl
plain_allowed to (V.Ref n) is name = absurd is

sure : R.Fine ≡ R.Fault → ⊥
sure e = cc

pub set_performs : (m : Store) (t : Table) (registers : List Parts) (to : ℕ) (v : Value) → to < length registers → IsPlain v → Performs m t registers m t (slice_set registers to (plain (content_of v))) (C.Set to v) R.Fine
set_performs m t registers to v low is = record {
  performed = performed;
  preserves = preserves-same;
  others = set_others t registers to (plain (content_of v)) low (plain_fresh t v);
  stays_fresh = λ fresh words. words;
  marks = marks-same;
  settled = λ done i reads. absurd (cc (reads));
}
  where
    performed : (k : RoleMap) (s : State) → Represents m t registers k s → Reach s s.phase → FaultsOn m t m t (slice_set registers to (plain (content_of v))) (C.Set to v) R.Fine k s ⊎ AnswersOn m t m t (slice_set registers to (plain (content_of v))) (C.Set to v) R.Fine k s
    performed k s b reach =
        let next : State = record s { registers = slice_set s.registers to v } in
        let represented : RepresentsLater m t m t (slice_set registers to (plain (content_of v))) k s next 0 = record {
          map = k;
          represents = register_set m t registers k s to (plain (content_of v)) v b low (plain_value k v is);
          refines = λ kind a n e. e;
          work = omega arith;
        } in
        inr (record {
          effect_of = answered R.Fine (with_register (graph_of s) to v);
          is = refl;
          reply = refl;
          sure = sure;
          represented = counted_represented m m t t (slice_set registers to (plain (content_of v))) k s next 0 0 0 represented;
        })
