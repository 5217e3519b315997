use Rattle.std.proofs.Common.{ℕ, ◌≡◌, ◌+◌, ◌-◌, ◌<◌, ◌≤◌, length}
use Rattle.mem_port.specs.View.{WithoutFault, shown}
use Rattle.transporter.specs.Writes.{Writes}
use Rattle.block_store.proofs.widening.fill.Given as goal

-- the words so far are written
abbrev pub invariant-loop-done : goal.invariant-loop-done
invariant-loop-done g l = record {
  low : l.done ≤ l.count;
  fits : 0 < l.done → length (g.M.Memory.seen l.mem).words ≤ 4194304;
  written : Writes (g.M.Memory.seen l.fn.mem) (g.M.Memory.seen l.mem) l.at l.done (λ i. l.word);
  held : (page : ℕ) → g.M.Memory.held l.fn.mem page → g.M.Memory.held l.mem page;
  quiet : WithoutFault (shown g.M.Memory l.fn.mem) (shown g.M.Memory l.mem) l.fn.steps l.steps;
  cost : l.steps ≡ l.fn.steps + l.done;
}

-- the number of words that remain
abbrev pub decreases-loop-done : goal.decreases-loop-done
decreases-loop-done g l = l.count - l.done
