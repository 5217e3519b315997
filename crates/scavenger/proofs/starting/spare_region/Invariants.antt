use Rattle.std.proofs.Common.{ℕ, ◌≡◌, ◌≢◌, ◌+◌, ◌*◌, ◌/◌, ◌<◌, length, slice_index}
use Rattle.scavenger.specs.Starting.{used_in}
use Rattle.scavenger.proofs.starting.spare_region.Given as goal

-- so far the numbers are those of the used words, and those of other regions stay
abbrev pub invariant-loop-page : goal.invariant-loop-page
invariant-loop-page l = record {
  size : length l.pages ≡ length l.fn.pages;
  here : (page : ℕ) → page < l.page → slice_index l.pages (16 * l.region + page) ≡ used_in l.used page;
  others : (page : ℕ) → page / 16 ≢ l.region → slice_index l.pages page ≡ slice_index l.fn.pages page;
}
