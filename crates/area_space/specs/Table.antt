-- What contracts see of the regions: numbers and lists of numbers.
--
-- A slot is an area and a level, by number area * levels + level. It has two classes, each of which
-- is a chain of regions with its charges: the live one, 2 * slot, and the old one, 2 * slot + 1.
use Rattle.std.specs.Prelude.{ℕ, ◌+◌, ◌*◌, Bool, true, false, Option, List, [], length, slice_index, slice_index_or, Contains}
use Rattle.store_word.specs.declared.sizes.TheConstants.{REGION_PAGES}
use Rattle.index_lists.specs.Chains.{Chains, IsFree}
use Rattle.lisp_graph.specs.declared.command.Condemn.{Condemn}
use Rattle.lisp_graph.specs.declared.world.AreaKind.{AreaKind}
use Rattle.lisp_graph.specs.declared.world.AreaKind.TheVariants.{Static}
use Rattle.area_space.specs.declared.classes.Class.{Class}
use Rattle.area_space.specs.PageList.{PageList}

pub record Table : Type 0 where
  pub regions : ℕ  -- how many regions there are
  pub top : ℕ  -- the greatest level
  pub quotas : List ℕ  -- the quota of each area, in words
  pub kinds : List AreaKind  -- the kind of each area
  pub chains : List (List ℕ)  -- the regions of each class, in order
  pub charges : List ℕ  -- the charges of the objects of each class, in words
  pub husks : List ℕ  -- the words of the husks of each class
  pub used : List ℕ  -- the used words of each region
  pub marks : List ℕ  -- the flip mark of each region
  pub aim : Option Condemn  -- what was condemned, while a collection runs
  pub last : Option ℕ  -- the page of the last word of the latest transport
  pub pages : List ℕ  -- the pages with a word to be scanned, ascending
  pub placed : ℕ  -- the words committed since the latest flip

-- Slots

-- the levels of an area: 0, and the ephemeral ones
abbrev pub levels_of : Table → ℕ
levels_of t = t.top + 1

abbrev pub areas_of : Table → ℕ
areas_of t = length t.quotas

abbrev pub slots_of : Table → ℕ
slots_of t = areas_of t * levels_of t

-- the slot of an area and a level
abbrev pub slot_of : Table → ℕ → ℕ → ℕ
slot_of t area level = area * levels_of t + level

-- Classes

-- the live class of a slot
abbrev pub live : ℕ → ℕ
live slot = 2 * slot

-- the old class of a slot
abbrev pub stale : ℕ → ℕ
stale slot = 2 * slot + 1

-- the class of a slot, old or live
abbrev pub class_from : Bool → ℕ → ℕ
class_from true slot = stale slot
class_from false slot = live slot

-- the number of a class, by its area, its level, and whether it is old
abbrev pub class_number : Table → Class → ℕ
class_number t class = class_from class.stale (slot_of t class.area class.level)

-- Regions

-- the chains as lists over the regions
abbrev pub lists_of : Table → Chains
lists_of t = record { nodes = t.regions; lists = t.chains }

-- the regions of a class, in order
abbrev pub chain : Table → ℕ → List ℕ
chain t class = slice_index_or t.chains class []

-- the region is free: it has no class
abbrev pub IsUnclassed : Table → ℕ → Type 0
IsUnclassed t region = IsFree (lists_of t) region

-- the region is in an old class
abbrev pub IsOld : Table → ℕ → Type 0
IsOld t region = (slot : ℕ) × Contains (chain t (stale slot)) region

-- the region is in a live class
abbrev pub IsLive : Table → ℕ → Type 0
IsLive t region = (slot : ℕ) × Contains (chain t (live slot)) region

abbrev pub used_of : Table → ℕ → ℕ
used_of t region = slice_index t.used region

abbrev pub mark_of : Table → ℕ → ℕ
mark_of t region = slice_index t.marks region

abbrev pub quota_of : Table → ℕ → ℕ
quota_of t area = slice_index t.quotas area

abbrev pub kind_of : Table → ℕ → AreaKind
kind_of t area = slice_index_or t.kinds area Static

-- the pages to be scanned, among all pages
abbrev pub page_list : Table → PageList
page_list t = record { count = REGION_PAGES * t.regions; pages = t.pages }
