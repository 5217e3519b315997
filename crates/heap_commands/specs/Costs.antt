-- What a command costs.
use Rattle.std.specs.Prelude.{ℕ, ◌+◌, ◌-◌, ◌*◌, ◌≤◌, Result, OnOk}
use Rattle.store_word.specs.declared.faults.SwapFault.{SwapFault}
use Rattle.lisp_graph.specs.declared.reply.Reply.{Reply}
use Rattle.mem_port.specs.View.{AccountsForFaultsIf}
use Rattle.area_space.specs.View.{GroundView}
use Rattle.heap_state.specs.Reads.{is_fault, reply_of}

-- it reports each swap error, places at most `words` words, and if no swap error occurs it takes at most `steps` memory accesses, and 4 for each word placed. (Seven parameters: the ground and the count of accesses, each before and after, the result, and the two bounds, which each command has of its own.)
pub record CommandCosts (old new : GroundView) (before after : ℕ) (result : Result Reply SwapFault) (words steps : ℕ) : Type 0 where
  pub tells : AccountsForFaultsIf old.mem new.mem before after (is_fault (reply_of result))
  pub few : new.table.placed ≤ old.table.placed + words
  pub cost : OnOk result (after ≤ before + 4 * (new.table.placed - old.table.placed) + steps)
