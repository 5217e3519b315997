-- The replies to commands whose calls on blocks fail.
use Rattle.std.proofs.Common.{◌≡◌, ◌≢◌, ℕ, Bool, false, refl, sym, ap, ◌∙◌, subst, arith}
use Rattle.std.specs.Prelude.{Result, Ok, Err, OnOk}
use Rattle.std.specs.Result.{result_unwrap_or}
use Rattle.store_word.specs.declared.faults.SwapFault.{SwapFault}
use Rattle.lisp_graph.specs.declared.reply.Reply.{Reply}
use Rattle.lisp_graph.specs.declared.reply.Reply.TheVariants as R
use Rattle.mem_port.specs.View.{AccountsForFaultsIf, MemoryView, WithoutFault}
use Rattle.block_store.specs.Faults.{is_fault as is_block_fault}
use Rattle.block_store.specs.declared.fault.BlockFault.{BlockFault}
use Rattle.block_store.specs.declared.fault.BlockFault.TheVariants.{NotABlock, NoField, Swap}
use Rattle.heap_state.specs.Reads.{is_fault, reply_of}
use Rattle.heap_commands.specs.Refusals.{reply_to}

-- a reply reports a swap error if and only if one occurred
module _ (T : Type 0) where
  same_fault : (fault : BlockFault) → is_block_fault {T = T} (Err fault) ≡ is_fault (reply_of (reply_to fault))
  same_fault NotABlock = refl
  same_fault (NoField count) = refl
  same_fault (Swap fault) = refl

  pub failed_tells : {old new : MemoryView} {before after : ℕ} (fault : BlockFault) (r : Result Reply SwapFault) → r ≡ reply_to fault → AccountsForFaultsIf old new before after (is_block_fault {T = T} (Err fault)) → AccountsForFaultsIf old new before after (is_fault (reply_of r))
  failed_tells {old} {new} {before} {after} fault r is x =
      subst (λ (b : Bool). AccountsForFaultsIf old new before after b) (same_fault fault ∙ ap (λ (reply : Result Reply SwapFault). is_fault (reply_of reply)) (sym is)) x

  -- and what holds without one holds of a reply
  pub failed_ok : {P : Type 0} (fault : BlockFault) (r : Result Reply SwapFault) → r ≡ reply_to fault → (is_block_fault {T = T} (Err fault) ≡ false → P) → OnOk r P
  failed_ok {P} fault r is holds = subst (λ (reply : Result Reply SwapFault). OnOk reply P) (sym is) (by fault holds)
    where
      by : (fault : BlockFault) → (is_block_fault {T = T} (Err fault) ≡ false → P) → OnOk (reply_to fault) P
      by NotABlock holds = holds refl
      by (NoField count) holds = holds refl
      by (Swap swap) holds = tt

-- a call after others that met no swap error
pub quiet-then : {old mid new : MemoryView} {before between after : ℕ} {faulted : Bool} → WithoutFault old mid before between → AccountsForFaultsIf mid new between after faulted → AccountsForFaultsIf old new before after faulted
quiet-then q tells = record {
  later = (let a = q.faults in let b = tells.later in omega arith);
  failed = λ is. (let a = q.faults in let b = tells.failed is in omega arith);
  quiet = λ is. tells.quiet is ∙ q.faults;
  honest = (let a = q.honest in let b = tells.honest in omega arith);
  room = λ is. (let a = q.room in let b = tells.room is in omega arith);
  gone = (let a = q.room in let b = tells.gone in omega arith);
  sound = λ was. tells.sound (q.sound was);
}

pub unwrapped : (r : Result Reply SwapFault) → result_unwrap_or r R.Fault ≡ reply_of r
unwrapped (Ok reply) = refl
unwrapped (Err fault) = refl

-- a failure that is neither of the others is a swap error
pub only_swap : (fault : BlockFault) → fault ≢ NotABlock → ((count : ℕ) → fault ≢ NoField count) → (swap : SwapFault) × (reply_to fault ≡ Err swap)
only_swap NotABlock block field = absurd (block refl)
only_swap (NoField count) block field = absurd (field count refl)
only_swap (Swap swap) block field = (swap, refl)
