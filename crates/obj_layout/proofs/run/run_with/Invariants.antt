use Rattle.std.proofs.Common.{◌≡◌, ◌+◌, ◌-◌, ◌≤◌}
use Rattle.mem_port.specs.View.{WithoutFault, shown}
use Rattle.mem_port.specs.Store.{StoresNothing}
use Rattle.obj_layout.specs.Forwards.{word_at}
use Rattle.obj_layout.specs.declared.run.TheConstants.{RUN_LIMIT}
use Rattle.obj_layout.proofs.RunCells.{Found}
use Rattle.obj_layout.proofs.run.run_with.Given as goal

-- this number of cells of the run were found, and the word is that of the last
abbrev pub invariant-loop-behind : goal.invariant-loop-behind
invariant-loop-behind g l = record {
  found : Found (g.M.Memory.seen l.fn.mem).words l.at l.cells;
  word : word_at (g.M.Memory.seen l.fn.mem).words (l.at + l.cells - 1) ≡ l.word;
  stays : StoresNothing (g.M.Memory.seen l.fn.mem) (g.M.Memory.seen l.mem);
  quiet : WithoutFault (shown g.M.Memory l.fn.mem) (shown g.M.Memory l.mem) l.fn.steps l.steps;
  cost : l.steps + 1 ≤ l.fn.steps + l.cells;
}

-- how many cells the run may still have
abbrev pub decreases-loop-behind : goal.decreases-loop-behind
decreases-loop-behind g l = RUN_LIMIT - l.cells
