use Rattle.std.proofs.Common.{ℕ, ◌≡◌, ◌+◌}
use Rattle.mem_port.specs.View.{WithoutFault, shown}
use Rattle.transporter.specs.Writes.{Writes, forward_to}
use Rattle.transporter.proofs.copying.leave_forwards.Given as goal

-- the forwards so far are written
abbrev pub invariant-loop-i : goal.invariant-loop-i
invariant-loop-i g l = record {
  forwards : Writes (g.M.Memory.seen l.fn.mem) (g.M.Memory.seen l.mem) l.at l.i (λ i. forward_to (l.to + i));
  held : (page : ℕ) → g.M.Memory.held l.fn.mem page → g.M.Memory.held l.mem page;
  quiet : WithoutFault (shown g.M.Memory l.fn.mem) (shown g.M.Memory l.mem) l.fn.steps l.steps;
  cost : l.steps ≡ l.fn.steps + l.i;
}
