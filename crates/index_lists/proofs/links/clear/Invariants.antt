use Rattle.std.proofs.Common.{◌≡◌, ℕ, ◌+◌, ◌<◌}
use Rattle.index_lists.specs.Link.{after_of, before_of, owner_of}
use Rattle.index_lists.proofs.links.clear.Given as goal

-- no node has an owner yet, and the ends that are passed point at themselves
abbrev pub invariant-loop-list : goal.invariant-loop-list
invariant-loop-list l = record {
  free : (k : ℕ) → k < l.nodes → owner_of l.links k ≡ 4294967295;
  ends : (m : ℕ) → m < l.list → (after_of l.links (l.nodes + m) ≡ l.nodes + m) × (before_of l.links (l.nodes + m) ≡ l.nodes + m) × (owner_of l.links (l.nodes + m) ≡ m);
}
