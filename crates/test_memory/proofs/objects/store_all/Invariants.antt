use Rattle.std.proofs.Common.{ℕ, ◌≡◌, ◌<◌, length}
use Rattle.obj_layout.specs.Forwards.{word_at}
use Rattle.test_memory.proofs.objects.store_all.Given as goal

-- the words so far were stored
abbrev pub invariant-loop-at : goal.invariant-loop-at
invariant-loop-at g l = record {
  size : length (g.M.Memory.seen l.mem).words ≡ length (g.M.Memory.seen l.fn.mem).words;
  stored : (k : ℕ) → k < l.at → word_at (g.M.Memory.seen l.mem).words k ≡ word_at l.words k;
}
