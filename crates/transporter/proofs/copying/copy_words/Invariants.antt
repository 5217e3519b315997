use Rattle.std.proofs.Common.{ℕ, ◌≡◌, ◌+◌, ◌*◌, ◌<◌, ◌≤◌, ◌-◌, length}
use Rattle.mem_port.specs.Store.{IsMemory}
use Rattle.mem_port.specs.View.{WithoutFault, shown}
use Rattle.obj_layout.specs.Forwards.{word_at}
use Rattle.transporter.specs.Writes.{Writes}
use Rattle.transporter.proofs.copying.copy_words.Given as goal

-- the words so far are copied
abbrev pub invariant-loop-done : goal.invariant-loop-done
invariant-loop-done g l = record {
  low : l.done ≤ l.count;
  sound : 0 < l.done → IsMemory (g.M.Memory.seen l.mem);
  fits : 0 < l.done → length (g.M.Memory.seen l.mem).words ≤ 4194304;
  copied : Writes (g.M.Memory.seen l.fn.mem) (g.M.Memory.seen l.mem) l.to l.done (λ i. word_at (g.M.Memory.seen l.fn.mem).words (l.from + i));
  held : (page : ℕ) → g.M.Memory.held l.fn.mem page → g.M.Memory.held l.mem page;
  quiet : WithoutFault (shown g.M.Memory l.fn.mem) (shown g.M.Memory l.mem) l.fn.steps l.steps;
  cost : l.steps ≡ l.fn.steps + 2 * l.done;
}

-- fewer words remain
abbrev pub decreases-loop-done : goal.decreases-loop-done
decreases-loop-done g l = l.count - l.done
