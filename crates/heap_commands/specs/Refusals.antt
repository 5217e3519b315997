-- The replies to commands whose calls on blocks fail.
use Rattle.std.specs.Prelude.{Result, Ok, Err}
use Rattle.store_word.specs.declared.faults.SwapFault.{SwapFault}
use Rattle.lisp_graph.specs.declared.reply.Reply.{Reply}
use Rattle.lisp_graph.specs.declared.reply.Reply.TheVariants as R
use Rattle.block_store.specs.declared.fault.BlockFault.{BlockFault}
use Rattle.block_store.specs.declared.fault.BlockFault.TheVariants.{NotABlock, NoField, Swap}

-- the reply that says why a call failed; a swap error is returned itself
abbrev pub reply_to : BlockFault → Result Reply SwapFault
reply_to NotABlock = Ok R.WrongType
reply_to (NoField length) = Ok (R.NoField length)
reply_to (Swap fault) = Err fault
