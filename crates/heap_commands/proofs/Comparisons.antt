-- Registers are read, and nothing is stored.
use Rattle.std.proofs.Common.{◌≡◌, ℕ, ◌<◌, ◌⊎◌, inl, inr, Bool, true, false, if◌then◌else◌, refl, sym, ◌∙◌, ap, subst, List, length, get_or, slice_set, arith}
use Rattle.std.proofs.lemmas.List.{get_or_default}
use Rattle.store_word.specs.Words.{Parts, null_word}
use Rattle.lisp_graph.specs.declared.command.Command.TheVariants as C
use Rattle.lisp_graph.specs.declared.reply.Reply.{Reply}
use Rattle.lisp_graph.specs.declared.reply.Reply.TheVariants as R
use Rattle.lisp_graph.specs.declared.object.Value.TheVariants as V
use Rattle.lisp_graph.specs.Effect.{answered, with_register}
use Rattle.lisp_graph.specs.Graph.{same_value, value_at}
use Rattle.mem_port.specs.Store.{Store, StoresNothing}
use Rattle.area_space.specs.Table.{Table}
use Rattle.block_store.specs.lisp_meaning.State.{State}
use Rattle.block_store.specs.lisp_meaning.Flip.{graph_of}
use Rattle.block_store.specs.lisp_meaning.Roles.{RoleMap}
use Rattle.block_store.specs.lisp_meaning.Interpretation.{interpretation}
use Rattle.block_store.specs.lisp_meaning.Sound.{Reach}
use Rattle.block_store.specs.transporter.Settling.{RefersToOld}
use Rattle.block_store.specs.transporter.Preserving.{RegistersPreserved}
use Rattle.block_store.proofs.transporter.PageMarks.{marks-same}
use Rattle.block_store.proofs.transporter.ScannedWords.{fresh-value, preserves-same}
use Rattle.heap_state.specs.Consistent.{RepresentsState}
use Rattle.heap_state.specs.Represents.{Represents}
use Rattle.heap_state.specs.RepresentsLater.{RepresentsLater}
use Rattle.heap_state.specs.Performs.{AnswersOn, FaultsOn, Performs}
use Rattle.heap_state.specs.Settled.{IsSettled}
use Rattle.heap_state.specs.Words.{CanCompare, SameWord}
use Rattle.heap_state.proofs.StateChanges.{read_on, register_set}
use Rattle.heap_state.proofs.SettledRegister.{settled_on}
use Rattle.heap_state.proofs.WordValues.{can_compare, same_words}
use Rattle.heap_state.proofs.CommandEffects.{Leaves, counted_represented, leaves_same, set_others}
use Rattle.heap_commands.proofs.ConsRegisters.{only_one, only_two, value_there}

-- Whether two values are equal

truth : Bool → Reply
truth same = if same then R.True else R.Nil

not_fault : (same : Bool) → truth same ≡ R.Fault → ⊥
unfolding truth
not_fault true e = cc
not_fault false e = cc

module _ (m m' : Store) (t : Table) (registers : List Parts) (left right : ℕ) (left_in : left < length registers) (right_in : right < length registers) (first second : Parts) (first_is : first ≡ get_or registers left first) (second_is : second ≡ get_or registers right second) where
  pub comparable : RepresentsState m t registers → CanCompare m.words first.content second.content
  comparable x =
      can_compare m t (interpretation x.map x.state) x.represents.kept first.content second.content (get_or x.state.registers left V.Nil) (get_or x.state.registers right V.Nil)
      (value_there m t registers left left_in first first_is x.map x.state x.represents) (value_there m t registers right right_in second second_is x.map x.state x.represents)

  pub compared_performs : (same : Bool) (reply : Reply) → SameWord m.words first.content second.content same → reply ≡ (if same then R.True else R.Nil) → StoresNothing m m' → IsSettled t registers left → IsSettled t registers right
      → Performs m t registers m' t registers (C.Eq left right) reply
  unfolding truth
  compared_performs same reply is tells stays left_settled right_settled = subst (λ (r : Reply). Performs m t registers m' t registers (C.Eq left right) r) (sym tells) (record {
    performed = performed;
    preserves = leaves.preserves;
    others = leaves.others;
    stays_fresh = leaves.stays_fresh;
    marks = leaves.marks;
    settled = λ done i read. elim (only_two left right i read) [
      | inl e ↦ subst (IsSettled t registers) (sym e) left_settled
      | inr e ↦ subst (IsSettled t registers) (sym e) right_settled
    ];
  })
    where
      leaves : Leaves m t registers m' t registers
      leaves = leaves_same m m' t registers stays

      performed : (k : RoleMap) (s : State) → Represents m t registers k s → Reach s s.phase → FaultsOn m t m' t registers (C.Eq left right) (truth same) k s ⊎ AnswersOn m t m' t registers (C.Eq left right) (truth same) k s
      performed k s b reach =
          let values = same_words m t (interpretation k s) b.kept first.content second.content (value_at s.registers left) (value_at s.registers right) same
          (value_there m t registers left left_in first first_is k s b) (value_there m t registers right right_in second second_is k s b) is in
          inr (record {
            effect_of = answered (truth (same_value (value_at s.registers left) (value_at s.registers right))) (graph_of s);
            is = refl;
            reply = ap truth values;
            sure = not_fault same;
            represented = counted_represented m m' t t registers k s s 0 0 0 (read_on m m' t registers k s b stays);
          })

-- A register's value is copied to another

pub moved_performs : (m : Store) (t : Table) (registers : List Parts) (to from : ℕ) (word : Parts) → RepresentsState m t registers → to < length registers → from < length registers → get_or registers from null_word ≡ word → (RefersToOld t word → ⊥)
    → Performs m t registers m t (slice_set registers to word) (C.Move to from) R.Fine
moved_performs m t registers to from word consistent to_in from_in read young = record {
  performed = performed;
  preserves = preserves-same;
  others = others;
  stays_fresh = λ fresh words. words;
  marks = marks-same;
  settled = λ done i is. subst (IsSettled t (slice_set registers to word)) (sym (only_one from i is)) (settled_on t t registers (slice_set registers to word) from (preserves-same {m = m}).grows others from_in settled);
}
  where
    settled : IsSettled t registers from
    settled old = young (subst (RefersToOld t) read old)

    word_is : word ≡ get_or registers from word
    word_is = sym read ∙ get_or_default registers from null_word word from_in

    others : RegistersPreserved t registers (slice_set registers to word)
    others = set_others t registers to word to_in (fresh-value consistent.map.role t word.content (get_or consistent.state.registers from V.Nil) (value_there m t registers from from_in word word_is consistent.map consistent.state consistent.represents) young)

    sure : R.Fine ≡ R.Fault → ⊥
    sure e = cc

    performed : (k : RoleMap) (s : State) → Represents m t registers k s → Reach s s.phase → FaultsOn m t m t (slice_set registers to word) (C.Move to from) R.Fine k s ⊎ AnswersOn m t m t (slice_set registers to word) (C.Move to from) R.Fine k s
    performed k s b reach =
        let next : State = record s { registers = slice_set s.registers to (value_at s.registers from) } in
        let represented : RepresentsLater m t m t (slice_set registers to word) k s next 0 = record {
          map = k;
          represents = register_set m t registers k s to word (value_at s.registers from) b to_in (value_there m t registers from from_in word word_is k s b);
          refines = λ kind a n e. e;
          work = omega arith;
        } in
        inr (record {
          effect_of = answered R.Fine (with_register (graph_of s) to (value_at s.registers from));
          is = refl;
          reply = refl;
          sure = sure;
          represented = counted_represented m m t t (slice_set registers to word) k s next 0 0 0 represented;
        })
