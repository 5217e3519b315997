-- The reply to `size` is the number of the block's fields.
use Rattle.std.proofs.Common.{◌≡◌, ◌≢◌, ℕ, ◌<◌, refl, sym, ◌∙◌, ap, subst, List, length, get_or, Some}
use Rattle.std.specs.Prelude.{pos}
use Rattle.std.proofs.lemmas.Bool.{eqb-true}
use Rattle.store_word.specs.Words.{Parts, tag_of}
use Rattle.store_word.specs.declared.word.Tag.TheVariants.{Struct as StructTag}
use Rattle.lisp_graph.specs.declared.object.Value.{Value}
use Rattle.lisp_graph.specs.declared.command.Command.TheVariants as C
use Rattle.lisp_graph.specs.declared.reply.Reply.{Reply}
use Rattle.lisp_graph.specs.declared.reply.Reply.TheVariants as R
use Rattle.lisp_graph.specs.Graph.{value_at}
use Rattle.lisp_graph.specs.Effect.{Effect, answered, effect}
use Rattle.mem_port.specs.Store.{Store, StoresNothing}
use Rattle.area_space.specs.Table.{Table}
use Rattle.block_store.specs.lisp_meaning.State.{State, object}
use Rattle.block_store.specs.lisp_meaning.Flip.{graph_of}
use Rattle.block_store.specs.lisp_meaning.Roles.{RoleMap, header_of}
use Rattle.block_store.specs.lisp_meaning.Interpretation.{interpretation}
use Rattle.block_store.proofs.lisp_ground.invariant.Stores.{same_header_size}
use Rattle.block_store.specs.Headers.{TellsLength}
use Rattle.block_store.specs.declared.fault.BlockFault.{BlockFault}
use Rattle.block_store.specs.declared.fault.BlockFault.TheVariants.{NotABlock, NoField, Swap}
use Rattle.heap_state.specs.Represents.{Represents}
use Rattle.heap_state.specs.Performs.{Performs}
use Rattle.heap_state.specs.Reads.{reply_of}
use Rattle.heap_state.specs.Settled.{IsSettled}
use Rattle.heap_state.proofs.CommandEffects.{Leaves, leaves_same, performs_fault, performs_refused}
use Rattle.heap_commands.proofs.NoAllocation.{performs_same}
use Rattle.heap_commands.specs.Refusals.{reply_to}
use Rattle.heap_commands.specs.Growth.{IsBlock}
use Rattle.heap_commands.proofs.RegisterReferences.{other_word, register_means, struct_block, with_block}

-- the number of fields in the reply is the block's
pub told_length : (m : Store) (t : Table) (registers : List Parts) (k : RoleMap) (s : State) (b : Represents m t registers k s) (r count : ℕ) (word : Parts) → word ≡ get_or registers r word → r < length registers → TellsLength m t word.content count → (x : IsBlock s (value_at s.registers r)) → count ≡ length x.fields
told_length m t registers k s b r count word is low tells x =
    let told = tells (interpretation k s) x.name b.kept (register_means m t k s registers b r word is low ∙ ap (λ (v : Value). Some v) x.value) in
    same_header_size (header_of (object s.store x.name).body) (told.0, count) (x.code, length x.fields) told.1 (ap header_of x.body)

module _ (m m' : Store) (t t' : Table) (registers : List Parts) (r : ℕ) (word : Parts) (is : word ≡ get_or registers r word) (low : r < length registers) (stays : StoresNothing m m') (same : t' ≡ t) where
  left : Leaves m t registers m' t' registers
  left = subst (λ (u : Table). Leaves m t registers m' u registers) (sym same) (leaves_same m m' t registers stays)

  size_faulted : Performs m t registers m' t' registers (C.Size r) R.Fault
  size_faulted = performs_fault m m' t t' registers registers (C.Size r) refl left

  size_refused : tag_of word.content ≢ StructTag → Performs m t registers m' t' registers (C.Size r) R.WrongType
  size_refused tag = performs_refused m m' t t' registers registers (C.Size r) (λ k s b.
      ap (λ (e : Effect). Some e) (other_word m t k s registers b word.content (value_at s.registers r) (register_means m t k s registers b r word is low) tag (λ n code fields. answered (R.Number (pos (length fields))) (graph_of s)) (answered R.WrongType (graph_of s)))) left

  pub size_failed : (fault : BlockFault) → (fault ≡ NotABlock → tag_of word.content ≢ StructTag) → ((count : ℕ) → fault ≢ NoField count) → Performs m t registers m' t' registers (C.Size r) (reply_of (reply_to fault))
  size_failed NotABlock other some = size_refused (other refl)
  size_failed (NoField count) other some = absurd (some count refl)
  size_failed (Swap fault) other some = size_faulted

  pub size_told : (count : ℕ) (reply : Reply) → reply ≡ R.Number (pos count) → (tag_of word.content ≢ StructTag → ⊥) → TellsLength m t word.content count → IsSettled t registers r → Performs m t registers m' t' registers (C.Size r) reply
  size_told count reply reply_is struct tells settled =
      subst (λ (x : Reply). Performs m t registers m' t' registers (C.Size r) x) (sym reply_is)
      (performs_same m m' t t' registers registers (C.Size r) (R.Number (pos count)) effect_is (λ e. cc)
      (λ done i reads. subst (λ (j : ℕ). IsSettled t' registers j) (sym (eqb-true i r reads)) (subst (λ (u : Table). IsSettled u registers r) (sym same) settled)) left)
    where
      effect_is : (k : RoleMap) (s : State) → Represents m t registers k s → effect (graph_of s) (C.Size r) ≡ Some (answered (R.Number (pos count)) (graph_of s))
      effect_is k s b =
          let x = struct_block m t k s registers b word.content (value_at s.registers r) (register_means m t k s registers b r word is low) struct in
          ap (λ (e : Effect). Some e) (with_block s.store.objects (value_at s.registers r) x.name x.code x.fields x.value x.body (λ n code fields. answered (R.Number (pos (length fields))) (graph_of s)) (answered R.WrongType (graph_of s)))
          ∙ ap (λ (n : ℕ). Some (answered (R.Number (pos n)) (graph_of s))) (sym (told_length m t registers k s b r count word is low tells x))
