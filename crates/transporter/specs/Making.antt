-- New objects on a ground.
use Rattle.std.specs.Prelude.{◌≡◌, ℕ, ◌+◌, ◌-◌, ◌/◌, ◌<◌, ◌≤◌, length, Some}
use Rattle.store_word.specs.declared.sizes.TheConstants.{PAGE_WORDS}
use Rattle.mem_port.specs.Store as Memory
use Rattle.area_space.specs.declared.classes.Origin.TheVariants.{New}
use Rattle.area_space.specs.Table.{Table, page_list, slot_of}
use Rattle.area_space.specs.Places.{IsEnd}
use Rattle.area_space.specs.Charges.{committed}
use Rattle.area_space.specs.PageList.{Adds}
use Rattle.lisp_ground.specs.lisp_meaning.State.{Store, rule_of}
use Rattle.lisp_ground.specs.lisp_meaning.Charges.{account}
use Rattle.lisp_ground.specs.lisp_meaning.Roles.{Kind, RoleMap, Refines, names_as}
use Rattle.lisp_ground.specs.GroundInvariant.{GroundInvariant}
use Rattle.lisp_ground.specs.lisp_meaning.Interpretation.{Interpretation}
use Rattle.lisp_ground.specs.After.{old_on}
use Rattle.transporter.specs.Growth.{OpensOrStays}

-- the area is one of the world's, the level one of the machine's, and this charge fits the quota
pub record HasQuota (it : Interpretation) (area level charge : ℕ) : Type 0 where
  pub area_in : area < length it.areas
  pub level_in : level ≤ it.top
  pub fits : account it.top it.store it.aim area + charge ≤ (rule_of it.areas area).quota

-- The ground represents these objects by a later map: each reference still has its meaning, and a reference of this kind to an address means the name that was next. The charge in old regions is the same.
pub record MadeOn (m : Memory.Store) (t : Table) (m' : Memory.Store) (t' : Table) (it : Interpretation) (s' : Store) (kind : Kind) (at : ℕ) : Type 0 where
  pub map : RoleMap
  pub kept : GroundInvariant m' t' (record it { map = map; store = s' })
  pub refines : Refines it.map.role map.role
  pub there : names_as kind (map.role at) ≡ Some (length it.store.objects)
  pub old : old_on m' t' s' it.aim map.at ≡ old_on m t it.store it.aim it.map.at

-- this many words are placed at the used end of a live class, which is charged this much for new objects, and their pages are to be scanned; at most one region was opened for them. (Seven parameters: the table before and after, and the area, the level, the address, the number of words and their charge, which vary independently.)
pub record PlacesNew (t t' : Table) (area level at words charge : ℕ) : Type 0 where
  pub room : Table
  pub opens : OpensOrStays t room
  pub end : IsEnd room (slot_of room area level) at words
  pub commit : t' ≡ record (committed room (slot_of room area level) at words charge New) { pages = t'.pages }
  pub pages : Adds (page_list room) (page_list t') (at / PAGE_WORDS) ((at + words - 1) / PAGE_WORDS)
