-- What always holds of a table.
use Rattle.std.specs.Prelude.{◌≡◌, ℕ, ◌*◌, ◌<◌, ◌≤◌, None, [], length}
use Rattle.store_word.specs.declared.sizes.TheConstants.{REGION_WORDS}
use Rattle.index_lists.specs.Chains.{IsSound, IsFree}
use Rattle.lisp_graph.specs.Totals.{total}
use Rattle.area_space.specs.Table.{Table, areas_of, slots_of, live, stale, lists_of, chain, used_of, mark_of, quota_of}
use Rattle.area_space.specs.Accounts.{debt, account_of}
use Rattle.area_space.specs.Room.{IsPacked, regions_of_area, share, words_of_class}

pub record IsTable (t : Table) : Type 0 where
  -- the limits of a machine, and the sizes of the lists
  pub few_regions : t.regions ≤ 1024
  pub few_levels : t.top ≤ 6
  pub few_areas : areas_of t ≤ 16
  pub small : (area : ℕ) → quota_of t area ≤ 1048576
  pub kinds_size : length t.kinds ≡ areas_of t
  pub chains_size : length t.chains ≡ 2 * slots_of t
  pub charges_size : length t.charges ≡ 2 * slots_of t
  pub husks_size : length t.husks ≡ 2 * slots_of t
  pub used_size : length t.used ≡ t.regions
  pub marks_size : length t.marks ≡ t.regions
  -- no region is in two places
  pub sound : IsSound (lists_of t)
  -- a region has 4,096 words, and no word of a free one is used
  pub full : (region : ℕ) → used_of t region ≤ REGION_WORDS
  pub blank : (region : ℕ) → IsFree (lists_of t) region → used_of t region ≡ 0
  pub unmarked : (region : ℕ) → IsFree (lists_of t) region → mark_of t region ≡ 0
  -- a class without a region is charged nothing, and no area is charged more than its quota
  pub owing : (class : ℕ) → chain t class ≡ [] → debt t class ≡ 0
  pub paid : (area : ℕ) → area < areas_of t → account_of t area ≤ quota_of t area
  -- every region except the last of its chain is more than half full, and no area has more than its share
  pub packed : (class : ℕ) → IsPacked t.used (chain t class)
  pub fitting : (area : ℕ) → area < areas_of t → regions_of_area t area ≤ share t area
  -- what was placed since the latest flip is in live regions
  pub counted : t.placed ≤ total (λ slot. words_of_class t (live slot)) (slots_of t)
  -- while no collection runs, no region is old
  pub idle : t.aim ≡ None → (slot : ℕ) → chain t (stale slot) ≡ []
