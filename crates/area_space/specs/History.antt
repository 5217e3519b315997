-- Calls one after another, and a place for words after them.
use Rattle.std.specs.Prelude.{◌≡◌, ◌⊎◌, ℕ, ◌+◌, ◌*◌, ◌<◌, ◌≤◌, Some, List, [], ◌∷◌, slice_index}
use Rattle.store_word.specs.declared.sizes.TheConstants.{MAX_OBJECT_WORDS, REGION_WORDS}
use Rattle.index_lists.specs.Chains.{last_of}
use Rattle.lisp_graph.specs.declared.command.Condemn.{Condemn}
use Rattle.area_space.specs.declared.classes.Origin.{Origin}
use Rattle.area_space.specs.Table.{Table, areas_of, levels_of, slots_of, slot_of, live, chain, used_of, quota_of, IsUnclassed, IsOld}
use Rattle.area_space.specs.Room.{words_of_area}
use Rattle.area_space.specs.Places.{IsEnd, opened}
use Rattle.area_space.specs.Charges.{AllowsOrigin, committed, husked}
use Rattle.area_space.specs.Flips.{Condemns}
use Rattle.area_space.specs.Frees.{Frees}

-- a call that changes a table
pub data Call : Type 0 where
  -- a place for this many words in an area at a level, for which a region is opened
  Open : (area level words region : ℕ) → Call
  Commit : (slot at words charge : ℕ) (origin : Origin) → Call
  Husk : (slot words : ℕ) → Call
  Flip : (what : Condemn) → Call
  Reclaim : Call
  -- a page to be scanned, or the latest transport, is noted
  Note : Call

-- a region is opened only for words within twice the area's quota, if they don't fit after the
-- used end of the last region of the chain, and it was free
pub record AllowsOpening (t : Table) (area level words region : ℕ) : Type 0 where
  pub area_in : area < areas_of t
  pub level_in : level < levels_of t
  pub few : words ≤ MAX_OBJECT_WORDS
  pub within : words_of_area t area + words ≤ 2 * quota_of t area
  pub needed : (last : ℕ) → last_of (chain t (live (slot_of t area level))) ≡ Some last → REGION_WORDS < used_of t last + words
  pub inside : region < t.regions
  pub free : IsUnclassed t region

-- what a call requires of the table on which it is made
abbrev pub Allows : Table → Call → Type 0
Allows t (Open area level words region) = AllowsOpening t area level words region
Allows t (Commit slot at words charge origin) = IsEnd t slot at words × AllowsOrigin t slot charge origin
Allows t (Husk slot words) = (slot < slots_of t) × (words ≤ slice_index t.charges (live slot))
Allows t (Flip what) = (region : ℕ) → IsOld t region → ⊥
Allows t Reclaim = Unit {0}
Allows t Note = Unit {0}

-- what one call changes
abbrev pub Leads : Call → Table → Table → Type 0
Leads (Open area level words region) old new = new ≡ opened old (live (slot_of old area level)) region
Leads (Commit slot at words charge origin) old new = new ≡ record (committed old slot at words charge origin) { pages = new.pages }
Leads (Husk slot words) old new = new ≡ husked old (live slot) words
Leads (Flip what) old new = Condemns old new what
Leads Reclaim old new = Frees old new
Leads Note old new = new ≡ record old { last = new.last; pages = new.pages }

-- what some calls change, one after another, each made as it may be
abbrev pub LeadsThrough : List Call → Table → Table → Type 0
LeadsThrough [] first last = last ≡ first
LeadsThrough (call ∷ calls) first last = (next : Table) × Allows first call × Leads call first next × LeadsThrough calls next last

-- there is a place for this many words: at the used end of the last region of the live chain, or in a free region
abbrev pub HasPlace : Table → ℕ → ℕ → Type 0
HasPlace t slot words = ((at : ℕ) × IsEnd t slot at words) ⊎ ((region : ℕ) × (region < t.regions) × IsUnclassed t region)
