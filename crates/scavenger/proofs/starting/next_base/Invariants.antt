use Rattle.std.proofs.Common.{ℕ, ◌≡◌, ◌-◌, ◌*◌, ◌<◌, ◌≤◌, false}
use Rattle.scavenger.specs.Starting.{is_base}
use Rattle.scavenger.proofs.starting.next_base.Given as goal

-- no page so far is a base page to scan
abbrev pub invariant-loop-named : goal.invariant-loop-named
invariant-loop-named g l = record {
  behind : l.fn.from ≤ l.page;
  low : l.page ≤ 16 * l.ground.table.regions;
  none : (other : ℕ) → l.fn.from ≤ other → other < l.page → is_base (g.M.Memory.seen l.ground.mem) l.ground.table l.what other ≡ false;
}

abbrev pub decreases-loop-named : goal.decreases-loop-named
decreases-loop-named g l = 16 * l.ground.table.regions - l.page
