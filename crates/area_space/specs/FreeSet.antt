-- The free regions, as a set that finds the lowest of them.
use Rattle.std.specs.Prelude.{◌≡◌, ℕ, ◌<◌, ◌↔◌, Contains}
use Rattle.index_lists.specs.Chains.{Chains, IsFree}
use Rattle.area_space.specs.PageList.{PageList, IsAscending}

-- the set has exactly the regions that are in no chain
pub record HoldsFree (set : PageList) (c : Chains) : Type 0 where
  pub bound : set.count ≡ c.nodes
  pub ascending : IsAscending set.pages
  pub members : (region : ℕ) → Contains set.pages region ↔ ((region < c.nodes) × IsFree c region)
