-- What a call reports of the pages that leave their frames.
use Rattle.std.specs.Prelude.{ℕ, ◌≡◌, ◌==◌, ◌+◌, ◌/◌, ◌<◌, ◌≤◌, not, List, drop, filter, Result, OnOk, OnErr}
use Rattle.store_word.specs.declared.sizes.TheConstants.{REGION_PAGES}

-- the number of resident pages before and after: no fewer if the call succeeded, and at most one fewer if it failed
pub record LeavesRoom {T E : Type 0} (before now : ℕ) (result : Result T E) : Type 0 where
  pub answered : OnOk result (before ≤ now)
  pub failed : OnErr result (before ≤ now + 1)

-- the pages outside a region, in their order
abbrev pub outside : ℕ → List ℕ → List ℕ
outside region pages = filter (λ page. not (page / REGION_PAGES == region)) pages

-- a swap error ended an eviction of `count` pages: fewer than these were evicted, from the front of the order of use
pub record EvictsFewer (old new : List ℕ) (count : ℕ) : Type 0 where
  pub gone : ℕ
  pub fewer : gone < count
  pub order : new ≡ drop gone old
