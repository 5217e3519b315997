-- A field is written.
use Rattle.std.proofs.Common.{◌≡◌, ◌≢◌, ℕ, ◌<◌, ◌≤◌, ◌⊎◌, inl, inr, true, false, refl, sym, ◌∙◌, ap, subst, List, length, get_or, slice_set, Some, IsTrue, arith}
use Rattle.std.specs.Prelude.{◌==◌}
use Rattle.std.proofs.lemmas.Bool.{eqb-true, lt-ltb, le-ltb, cases_Bool}
use Rattle.std.proofs.lemmas.List.{get_or_read}
use Rattle.store_word.specs.Words.{Parts, null_word, tag_of}
use Rattle.store_word.specs.declared.word.Tag.TheVariants.{Struct as StructTag}
use Rattle.lisp_graph.specs.declared.object.Value.{Value}
use Rattle.lisp_graph.specs.declared.object.Body.TheVariants.{Block}
use Rattle.lisp_graph.specs.declared.command.Command.TheVariants as C
use Rattle.lisp_graph.specs.declared.reply.Reply.TheVariants as R
use Rattle.lisp_graph.specs.Graph.{Graph, value_at}
use Rattle.lisp_graph.specs.Effect.{Effect, answered, effect, stored, when_field}
use Rattle.mem_port.specs.Store.{Store, StoresNothing}
use Rattle.area_space.specs.Table.{Table}
use Rattle.block_store.specs.lisp_meaning.State.{State}
use Rattle.block_store.specs.lisp_meaning.Changes.{put_body}
use Rattle.block_store.specs.lisp_meaning.Flip.{graph_of}
use Rattle.block_store.specs.lisp_meaning.Roles.{RoleMap}
use Rattle.block_store.specs.lisp_meaning.Interpretation.{interpretation}
use Rattle.block_store.specs.transporter.Preserving.{NoOldAddresses, PreservesScanned}
use Rattle.block_store.specs.Headers.{TellsLength}
use Rattle.block_store.specs.declared.fault.BlockFault.{BlockFault}
use Rattle.block_store.specs.declared.fault.BlockFault.TheVariants.{NotABlock, NoField, Swap}
use Rattle.block_store.specs.Fields.{CanSet, SetsField}
use Rattle.heap_state.specs.Consistent.{RepresentsState}
use Rattle.heap_state.specs.Marks.{MarksByStoring}
use Rattle.heap_state.specs.Represents.{Represents}
use Rattle.heap_state.specs.RepresentsLater.{RepresentsLater}
use Rattle.heap_state.specs.Performs.{AnswersOn, Performs}
use Rattle.heap_state.specs.Reads.{reads, reply_of}
use Rattle.heap_state.specs.Settled.{IsSettled}
use Rattle.heap_state.proofs.SettledRegister.{registers_same}
use Rattle.heap_state.proofs.CommandEffects.{Leaves, counted_represented, leaves_same, performs_fault, performs_refused}
use Rattle.heap_commands.proofs.NoAllocation.{performs_same}
use Rattle.heap_commands.specs.Refusals.{reply_to}
use Rattle.heap_commands.specs.Growth.{IsBlock}
use Rattle.heap_commands.proofs.RegisterReferences.{other_word, register_means, struct_block, with_block}
use Rattle.heap_commands.proofs.Sizes.{told_length}

-- the index is that of a field, or of none

pub field_found : (graph : Graph) (fields : List Value) (index : ℕ) (found : Effect) → index < length fields → when_field graph fields index found ≡ found
field_found graph fields index found low = rw (lt-ltb index (length fields) low) refl

pub field_lacks : (graph : Graph) (fields : List Value) (index : ℕ) (found : Effect) → length fields ≤ index → when_field graph fields index found ≡ answered (R.NoField (length fields)) graph
field_lacks graph fields index found past = rw (le-ltb index (length fields) past) refl

-- what can be written
pub can_set : (m : Store) (t : Table) (registers : List Parts) (target from : ℕ) (block word : Parts) → block ≡ get_or registers target block → word ≡ get_or registers from word → RepresentsState m t registers → target < length registers → from < length registers → IsSettled t registers from → CanSet m t block.content word
can_set m t registers target from block word block_is word_is x target_low from_low settled = record {
  it = interpretation x.map x.state;
  kept = x.represents.kept;
  value = value_at x.state.registers target;
  value_is = register_means m t x.map x.state registers x.represents target block block_is target_low;
  new = value_at x.state.registers from;
  new_is = register_means m t x.map x.state registers x.represents from word word_is from_low;
  young = subst (λ (w : Parts). Rattle.block_store.specs.transporter.Settling.RefersToOld t w → ⊥) (sym (get_or_read registers from word from_low word_is null_word)) settled;
}

module _ (m m' : Store) (t t' : Table) (registers : List Parts) (target index from : ℕ) (block word : Parts) (block_is : block ≡ get_or registers target block) (word_is : word ≡ get_or registers from word) (target_low : target < length registers) (from_low : from < length registers) (same : t' ≡ t) where
  effect_there : (k : RoleMap) (s : State) (b : Represents m t registers k s) (x : IsBlock s (value_at s.registers target))
      → effect (graph_of s) (C.Put target index from) ≡ Some (when_field (graph_of s) x.fields index (stored (graph_of s) x.name (Block x.code (slice_set x.fields index (value_at s.registers from)))))
  effect_there k s b x =
      ap (λ (e : Effect). Some e) (with_block s.store.objects (value_at s.registers target) x.name x.code x.fields x.value x.body
      (λ n code fields. when_field (graph_of s) fields index (stored (graph_of s) n (Block code (slice_set fields index (value_at s.registers from))))) (answered R.WrongType (graph_of s)))

  module _ (stays : StoresNothing m m') where
    left : Leaves m t registers m' t' registers
    left = subst (λ (u : Table). Leaves m t registers m' u registers) (sym same) (leaves_same m m' t registers stays)

    put_faulted : Performs m t registers m' t' registers (C.Put target index from) R.Fault
    put_faulted = performs_fault m m' t t' registers registers (C.Put target index from) refl left

    put_refused : tag_of block.content ≢ StructTag → Performs m t registers m' t' registers (C.Put target index from) R.WrongType
    put_refused tag = performs_refused m m' t t' registers registers (C.Put target index from) (λ k s b.
        ap (λ (e : Effect). Some e) (other_word m t k s registers b block.content (value_at s.registers target) (register_means m t k s registers b target block block_is target_low) tag
        (λ n code fields. when_field (graph_of s) fields index (stored (graph_of s) n (Block code (slice_set fields index (value_at s.registers from))))) (answered R.WrongType (graph_of s)))) left

    put_lacks : (count : ℕ) → (tag_of block.content ≢ StructTag → ⊥) → TellsLength m t block.content count → count ≤ index → Performs m t registers m' t' registers (C.Put target index from) (R.NoField count)
    put_lacks count struct tells past = performs_same m m' t t' registers registers (C.Put target index from) (R.NoField count) effect_is (λ e. cc) (λ done. absurd done) left
      where
        effect_is : (k : RoleMap) (s : State) → Represents m t registers k s → effect (graph_of s) (C.Put target index from) ≡ Some (answered (R.NoField count) (graph_of s))
        effect_is k s b =
            let x = struct_block m t k s registers b block.content (value_at s.registers target) (register_means m t k s registers b target block block_is target_low) struct in
            let size = told_length m t registers k s b target count block block_is target_low tells x in
            effect_there k s b x
            ∙ ap (λ (e : Effect). Some e) (field_lacks (graph_of s) x.fields index (stored (graph_of s) x.name (Block x.code (slice_set x.fields index (value_at s.registers from)))) (omega arith))
            ∙ ap (λ (n : ℕ). Some (answered (R.NoField n) (graph_of s))) (sym size)

    pub put_failed : (fault : BlockFault) → (fault ≡ NotABlock → tag_of block.content ≢ StructTag) → (tag_of block.content ≢ StructTag → fault ≡ NotABlock) → ((count : ℕ) → fault ≡ NoField count → TellsLength m t block.content count × (count ≤ index))
        → Performs m t registers m' t' registers (C.Put target index from) (reply_of (reply_to fault))
    put_failed NotABlock other same lacks = put_refused (other refl)
    put_failed (NoField count) other same lacks = put_lacks count (λ ne. let e = same ne in cc) (lacks count refl).0 (lacks count refl).1
    put_failed (Swap swap) other same lacks = put_faulted

  module _ (struct : tag_of block.content ≢ StructTag → ⊥) (count : ℕ) (tells : TellsLength m t block.content count) (low : index < count) (sets : SetsField m t m' block.content index word.content) (preserves : PreservesScanned m t m' t') (stays_fresh : NoOldAddresses m t → NoOldAddresses m' t') (marks : MarksByStoring R.Fine m t m' t')
      (target_settled : IsSettled t registers target) (from_settled : IsSettled t registers from) where
    put_answers : (k : RoleMap) (s : State) → Represents m t registers k s → AnswersOn m t m' t' registers (C.Put target index from) R.Fine k s
    put_answers k s b =
        let refers = register_means m t k s registers b target block block_is target_low in
        let x = struct_block m t k s registers b block.content (value_at s.registers target) refers struct in
        let size = told_length m t registers k s b target count block block_is target_low tells x in
        let after = sets (interpretation k s) x.name x.code x.fields (value_at s.registers from) b.kept (refers ∙ ap (λ (v : Value). Some v) x.value) x.body (register_means m t k s registers b from word word_is from_low) in
        let s' : State = record s { store = put_body s.store x.name (Block x.code (slice_set x.fields index (value_at s.registers from))) } in
        let represented : RepresentsLater m t m' t registers k s s' 0 = record {
          map = k;
          represents = record { kept = after.kept; count = b.count; means = b.means; aims = b.aims };
          refines = λ kind a n e. e;
          work = (let old = after.old in omega arith);
        } in
        record {
          effect_of = stored (graph_of s) x.name (Block x.code (slice_set x.fields index (value_at s.registers from)));
          is = effect_there k s b x ∙ ap (λ (e : Effect). Some e) (field_found (graph_of s) x.fields index (stored (graph_of s) x.name (Block x.code (slice_set x.fields index (value_at s.registers from)))) (omega arith));
          reply = refl;
          sure = λ e. cc;
          represented = counted_represented m m' t t' registers k s s' 0 0 0 (subst (λ (u : Table). RepresentsLater m t m' u registers k s s' 0) (sym same) represented);
        }

    pub put_performs : Performs m t registers m' t' registers (C.Put target index from) R.Fine
    put_performs = record {
      performed = λ k s b reach. inr (put_answers k s b);
      preserves = preserves;
      others = registers_same t' registers;
      stays_fresh = λ fresh words. stays_fresh words;
      marks = marks;
      settled = λ done i is. subst (λ (u : Table). IsSettled u registers i) (sym same) (settled_of i is);
    }
      where
        settled_of : (i : ℕ) → IsTrue (reads (C.Put target index from) i) → IsSettled t registers i
        settled_of i is = go (cases_Bool (i == target))
          where
            go : ((i == target) ≡ true) ⊎ ((i == target) ≡ false) → IsSettled t registers i
            go (inl e) = subst (λ (j : ℕ). IsSettled t registers j) (sym (eqb-true i target e)) target_settled
            go (inr e) =
                let second : (i == from) ≡ true = sym (rw e refl) ∙ is in
                subst (λ (j : ℕ). IsSettled t registers j) (sym (eqb-true i from second)) from_settled
