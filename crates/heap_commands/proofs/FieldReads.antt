-- A field is stored in a register.
use Rattle.std.proofs.Common.{◌≡◌, ◌≢◌, ℕ, ◌<◌, ◌≤◌, refl, sym, ◌∙◌, ap, subst, List, length, get_or, Some, IsTrue, arith}
use Rattle.std.proofs.lemmas.Bool.{eqb-true}
use Rattle.std.proofs.lemmas.List.{get_or_read}
use Rattle.store_word.specs.Words.{Parts, null_word, tag_of}
use Rattle.store_word.specs.declared.word.Tag.TheVariants.{Struct as StructTag}
use Rattle.lisp_graph.specs.declared.object.Value.{Value}
use Rattle.lisp_graph.specs.declared.command.Command.TheVariants as C
use Rattle.lisp_graph.specs.declared.reply.Reply.TheVariants as R
use Rattle.lisp_graph.specs.Graph.{value_at}
use Rattle.lisp_graph.specs.Effect.{Effect, answered, effect, fetched, when_field}
use Rattle.mem_port.specs.Store.{Store}
use Rattle.area_space.specs.Table.{Table}
use Rattle.block_store.specs.lisp_meaning.State.{State}
use Rattle.block_store.specs.lisp_meaning.Flip.{graph_of}
use Rattle.block_store.specs.lisp_meaning.Roles.{RoleMap}
use Rattle.block_store.specs.lisp_meaning.Interpretation.{interpretation}
use Rattle.block_store.specs.lisp_meaning.Sound.{Reach}
use Rattle.block_store.specs.transporter.Settling.{RefersToOld}
use Rattle.block_store.specs.transporter.Marking.{MarksFollow}
use Rattle.block_store.specs.transporter.Preserving.{NoOldAddresses, PreservesScanned}
use Rattle.block_store.specs.Headers.{TellsLength}
use Rattle.block_store.specs.declared.fault.BlockFault.{BlockFault}
use Rattle.block_store.specs.declared.fault.BlockFault.TheVariants.{NotABlock, NoField, Swap}
use Rattle.block_store.specs.Fields.{CanRead, IsReadable, KeepsBlock, ReadsField}
use Rattle.heap_state.specs.Consistent.{RepresentsState}
use Rattle.heap_state.specs.Represents.{Represents}
use Rattle.heap_state.specs.Performs.{Performs}
use Rattle.heap_state.specs.Reads.{reads, reply_of}
use Rattle.heap_state.specs.Settled.{IsSettled}
use Rattle.heap_state.proofs.StateChanges.{kept_register}
use Rattle.heap_state.proofs.SettledRegister.{registers_same}
use Rattle.heap_state.proofs.CommandEffects.{Leaves, later_represented, performs_fault, performs_refused}
use Rattle.heap_state.proofs.FetchedValues.{FetchesAll}
use Rattle.heap_commands.proofs.NoAllocation.{performs_same}
use Rattle.heap_commands.specs.Refusals.{reply_to}
use Rattle.heap_commands.specs.Growth.{IsBlock}
use Rattle.heap_commands.proofs.RegisterReferences.{other_word, register_means, struct_block, with_block}
use Rattle.heap_commands.proofs.Sizes.{told_length}
use Rattle.heap_commands.proofs.FieldStores.{field_found, field_lacks}

module _ (m : Store) (t : Table) (registers : List Parts) (from : ℕ) (of : Parts) (is : of ≡ get_or registers from of) (from_in : from < length registers) where
  can_here : (k : RoleMap) (s : State) → Represents m t registers k s → Reach s s.phase → CanRead m t (interpretation k s) s.registers of.content (value_at s.registers from)
  can_here k s b reach = record {
    kept = b.kept;
    value_is = register_means m t k s registers b from of is from_in;
    survives = λ region old. kept_register m t registers k s from region b reach (let count = b.count in omega arith) old;
  }

  -- the word in a settled register can be read through
  pub field_readable : RepresentsState m t registers → IsSettled t registers from → IsReadable m t of
  field_readable x settled = record {
    it = interpretation x.map x.state;
    registers = x.state.registers;
    value = value_at x.state.registers from;
    can = can_here x.map x.state x.represents x.reach;
    fresh = subst (λ (w : Parts). RefersToOld t w → ⊥) (sym (get_or_read registers from of from_in is null_word)) settled;
  }

  module _ (m' : Store) (t' : Table) (to index : ℕ) where
    effect_there : (k : RoleMap) (s : State) (x : IsBlock s (value_at s.registers from)) → effect (graph_of s) (C.Get to from index) ≡ Some (when_field (graph_of s) x.fields index (fetched (graph_of s) to (value_at x.fields index)))
    effect_there k s x =
        ap (λ (e : Effect). Some e) (with_block s.store.objects (value_at s.registers from) x.name x.code x.fields x.value x.body (λ n code fields. when_field (graph_of s) fields index (fetched (graph_of s) to (value_at fields index))) (answered R.WrongType (graph_of s)))

    block_there : (tag_of of.content ≢ StructTag → ⊥) → (k : RoleMap) (s : State) → Represents m t registers k s → IsBlock s (value_at s.registers from)
    block_there struct k s b = struct_block m t k s registers b of.content (value_at s.registers from) (register_means m t k s registers b from of is from_in) struct

    -- the word that was read is the field's
    pub field_fetches : (tag_of of.content ≢ StructTag → ⊥) → (count : ℕ) → TellsLength m t of.content count → index < count → (word : Parts) → ReadsField m t m' t' of.content index word → FetchesAll m t registers m' t' (C.Get to from index) to word
    field_fetches struct count tells low word read k s b reach =
        let x = block_there struct k s b in
        let size = told_length m t registers k s b from count of is from_in tells x in
        record {
          value = value_at x.fields index;
          means = read (interpretation k s) s.registers x.name x.code x.fields (subst (λ (v : Value). CanRead m t (interpretation k s) s.registers of.content v) x.value (can_here k s b reach)) x.body;
          is = effect_there k s x ∙ ap (λ (e : Effect). Some e) (field_found (graph_of s) x.fields index (fetched (graph_of s) to (value_at x.fields index)) (omega arith));
        }

    -- Refusals

    module _ (keeps : KeepsBlock m t m' t' of.content) (preserves : PreservesScanned m t m' t') (stays_fresh : NoOldAddresses m t → NoOldAddresses m' t') (marks : MarksFollow m t m' t') where
      left : Leaves m t registers m' t' registers
      left = record {
        represented = λ k s b reach. later_represented m m' t t' registers k s preserves.grows b (keeps (interpretation k s) s.registers (value_at s.registers from) (can_here k s b reach));
        preserves = preserves;
        others = registers_same t' registers;
        stays_fresh = λ fresh words. stays_fresh words;
        marks = marks;
      }

      get_faulted : Performs m t registers m' t' registers (C.Get to from index) R.Fault
      get_faulted = performs_fault m m' t t' registers registers (C.Get to from index) refl left

      get_refused : tag_of of.content ≢ StructTag → Performs m t registers m' t' registers (C.Get to from index) R.WrongType
      get_refused tag = performs_refused m m' t t' registers registers (C.Get to from index) (λ k s b.
          ap (λ (e : Effect). Some e) (other_word m t k s registers b of.content (value_at s.registers from) (register_means m t k s registers b from of is from_in) tag (λ n code fields. when_field (graph_of s) fields index (fetched (graph_of s) to (value_at fields index))) (answered R.WrongType (graph_of s)))) left

      get_lacks : (tag_of of.content ≢ StructTag → ⊥) → (count : ℕ) → TellsLength m t of.content count → count ≤ index → Performs m t registers m' t' registers (C.Get to from index) (R.NoField count)
      get_lacks struct count tells past = performs_same m m' t t' registers registers (C.Get to from index) (R.NoField count) effect_is (λ e. cc) (λ done. absurd done) left
        where
          effect_is : (k : RoleMap) (s : State) → Represents m t registers k s → effect (graph_of s) (C.Get to from index) ≡ Some (answered (R.NoField count) (graph_of s))
          effect_is k s b =
              let x = block_there struct k s b in
              let size = told_length m t registers k s b from count of is from_in tells x in
              effect_there k s x ∙ ap (λ (e : Effect). Some e) (field_lacks (graph_of s) x.fields index (fetched (graph_of s) to (value_at x.fields index)) (omega arith)) ∙ ap (λ (n : ℕ). Some (answered (R.NoField n) (graph_of s))) (sym size)

      pub get_failed : (fault : BlockFault) → (fault ≡ NotABlock → tag_of of.content ≢ StructTag) → (tag_of of.content ≢ StructTag → fault ≡ NotABlock) → ((count : ℕ) → fault ≡ NoField count → TellsLength m t of.content count × (count ≤ index))
          → Performs m t registers m' t' registers (C.Get to from index) (reply_of (reply_to fault))
      get_failed NotABlock other same lacks = get_refused (other refl)
      get_failed (NoField count) other same lacks = get_lacks (λ ne. let e = same ne in cc) count (lacks count refl).0 (lacks count refl).1
      get_failed (Swap swap) other same lacks = get_faulted

-- a command that reads one register reads that
pub only_from : (to from index i : ℕ) → IsTrue (reads (C.Get to from index) i) → i ≡ from
only_from to from index i is = eqb-true i from is
