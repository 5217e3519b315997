use Rattle.std.proofs.Common.{ℕ, ◌≡◌, ◌*◌, ◌<◌, length, slice_index}
use Rattle.scavenger.specs.Starting.{used_on}
use Rattle.scavenger.proofs.starting.spare_used.Given as goal

-- so far the numbers are those of the used words
abbrev pub invariant-loop-region : goal.invariant-loop-region
invariant-loop-region l = record {
  size : length l.pages ≡ length l.fn.pages;
  spared : (page : ℕ) → page < 16 * l.region → slice_index l.pages page ≡ used_on l.table page;
}
