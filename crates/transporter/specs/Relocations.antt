-- What a transport does to the words and to the table.
use Rattle.std.specs.Prelude.{◌≡◌, ℕ, ◌+◌, ◌-◌, ◌*◌, ◌/◌, ◌<◌, ◌≤◌, ◌⊎◌, true, length, Option, Some, IsSome, IfSome, slice_index, Contains}
use Rattle.store_word.specs.declared.sizes.TheConstants.{PAGE_WORDS, REGION_WORDS}
use Rattle.area_space.specs.index_lists.Chains.{last_of}
use Rattle.mem_port.specs.Spans.{HoldsSpan}
use Rattle.mem_port.specs.Store.{Store, StoresNothing}
use Rattle.area_space.specs.declared.classes.Class.{Class}
use Rattle.area_space.specs.declared.classes.Origin.TheVariants.{Moved}
use Rattle.area_space.specs.Table.{Table, IsUnclassed, areas_of, levels_of, slot_of, live, stale, chain, used_of, quota_of, page_list}
use Rattle.area_space.specs.Sound.{IsTable}
use Rattle.area_space.specs.Room.{RoomRule, words_of_area}
use Rattle.area_space.specs.Places.{IsEnd}
use Rattle.area_space.specs.Charges.{committed}
use Rattle.area_space.specs.Flips.{survivor}
use Rattle.area_space.specs.PageList.{Adds}
use Rattle.area_space.specs.Ground.{IsGround, NamesNoFree}
use Rattle.lisp_ground.specs.Placing.{Opens}
use Rattle.transporter.specs.declared.parcel.Parcel.{Parcel}
use Rattle.transporter.specs.Parcels.{IsFit, IsParcel, word_count_of, new_word}
use Rattle.transporter.specs.Writes.{Writes, forward_to}

-- the old class of an area and a level
abbrev pub old_class : ℕ → ℕ → Class
old_class area level = record { area = area; level = level; stale = true }

-- an address is in an old region of an area and a level
pub record IsOldIn (t : Table) (at area level : ℕ) : Type 0 where
  pub area_in : area < areas_of t
  pub level_in : level < levels_of t
  pub region : Contains (chain t (stale (slot_of t area level))) (at / REGION_WORDS)

-- a class is the old one of the region of an address
pub record IsOldClass (t : Table) (at : ℕ) (class : Class) : Type 0 where
  pub old : IsOldIn t at class.area class.level
  pub stale_is : class.stale ≡ true

-- a region is opened for this many words only if they don't fit in the last one of the class, and it is the free one with the lowest number
pub record OpensIfFull (t : Table) (slot words : ℕ) (region : Option ℕ) : Type 0 where
  pub full : IfSome region (λ r. (last : ℕ) → last_of (chain t (live slot)) ≡ Some last → REGION_WORDS < used_of t last + words)
  pub lowest : IfSome region (λ r. (other : ℕ) → other < r → IsUnclassed t other → ⊥)

-- no word changes, and the table at most by a region that is opened for a live class
pub record OpensOnly (s : Store) (t : Table) (s' : Store) (t' : Table) : Type 0 where
  pub area : ℕ
  pub level : ℕ
  pub area_in : area < areas_of t
  pub level_in : level < levels_of t
  pub region : Option ℕ
  pub room : Store
  pub opens : Opens s t room t' region area level
  pub stays : StoresNothing room s'

-- the new words are from an address on, and after that each object that moved leaves a forward to them in its first word
pub record Moves (old new : Store) (p : Parcel) (to : ℕ) : Type 0 where
  pub copied : Store
  pub copies : Writes old copied to (word_count_of p) (new_word old.words p)
  pub forwards : Writes copied new p.at p.objects (λ i. forward_to (to + i))

-- the words are committed to the live class of an area and a level, and their charge leaves the old class of that area and another level; the page of the last one is noted
pub record Commits (t t' : Table) (area from level at words charge : ℕ) : Type 0 where
  pub table : t' ≡ record (committed t (slot_of t area level) at words charge (Moved (old_class area from))) { pages = t'.pages; last = Some ((at + words - 1) / PAGE_WORDS) }
  pub pages : Adds (page_list t) (page_list t') (at / PAGE_WORDS) ((at + words - 1) / PAGE_WORDS)

-- an object in an old class is now in the live class of its survivors: there is a place, the words are committed, and they move
pub record Relocates (s : Store) (t : Table) (s' : Store) (t' : Table) (p : Parcel) (to : ℕ) : Type 0 where
  pub area : ℕ
  pub level : ℕ
  pub old : IsOldIn t p.at area level
  pub region : Option ℕ
  pub room : Store
  pub table : Table
  pub opens : Opens s t room table region area (survivor t level)
  pub needed : OpensIfFull t (slot_of t area (survivor t level)) (word_count_of p) region
  pub end : IsEnd table (slot_of t area (survivor t level)) to (word_count_of p)
  pub moves : Moves room s' p to
  pub commits : Commits table t' area level (survivor t level) to (word_count_of p) p.charge
  pub sound : IsTable t'

-- a parcel is in one old region, its class is charged for it, and there is room for it
pub record CanMove (s : Store) (t : Table) (p : Parcel) : Type 0 where
  pub fits : IsFit p
  pub inside : p.at + p.words ≤ length s.words
  pub rest_inside : IfSome p.rest (λ rest. rest < length s.words)
  pub one_region : (p.at + p.words - 1) / REGION_WORDS ≡ p.at / REGION_WORDS
  pub area : ℕ
  pub level : ℕ
  pub old : IsOldIn t p.at area level
  pub charged : p.charge ≤ slice_index t.charges (stale (slot_of t area level))
  pub within : words_of_area t area + word_count_of p ≤ 2 * quota_of t area
  pub running : IsSome t.aim
  pub room : RoomRule t
  pub ground : IsGround s t
  pub named : NamesNoFree s t

-- and there is a place for it in the live class of its survivors
pub record CanPut (s : Store) (t : Table) (p : Parcel) (class : Class) (to : ℕ) : Type 0 where
  pub sound : IsTable t
  pub fits : IsFit p
  pub size : length s.words ≡ REGION_WORDS * t.regions
  pub inside : p.at + p.words ≤ length s.words
  pub rest_inside : IfSome p.rest (λ rest. rest < length s.words)
  pub one_region : (p.at + p.words - 1) / REGION_WORDS ≡ p.at / REGION_WORDS
  pub old : IsOldIn t p.at class.area class.level
  pub stale_is : class.stale ≡ true
  pub charged : p.charge ≤ slice_index t.charges (stale (slot_of t class.area class.level))
  pub end : IsEnd t (slot_of t class.area (survivor t class.level)) to (word_count_of p)
  pub level_in : survivor t class.level < levels_of t

-- the parcel and the place for it are in a memory of this many words, apart, and on held pages
pub record CanCopy (held : ℕ → Type 0) (size : ℕ) (p : Parcel) (to : ℕ) : Type 0 where
  pub fits : IsFit p
  pub from_inside : p.at + p.words ≤ size
  pub to_inside : to + word_count_of p ≤ size
  pub rest_inside : IfSome p.rest (λ rest. rest < size)
  pub apart : (p.at + p.words ≤ to) ⊎ (to + word_count_of p ≤ p.at)
  pub from_held : HoldsSpan held (record { at = p.at; words = p.words })
  pub to_held : HoldsSpan held (record { at = to; words = word_count_of p })

-- whatever moves from an address on may move
abbrev pub IsMovable : Store → Table → ℕ → Type 0
IsMovable s t at = (p : Parcel) → IsParcel s.words at p → IsFit p → CanMove s t p

-- it was read, and then it moved
pub record MovesHere (s : Store) (t : Table) (s' : Store) (t' : Table) (at to : ℕ) : Type 0 where
  pub parcel : Parcel
  pub is : IsParcel s.words at parcel
  pub fits : IsFit parcel
  pub one_region : (parcel.at + parcel.words - 1) / REGION_WORDS ≡ parcel.at / REGION_WORDS
  pub read : Store
  pub stays : StoresNothing s read
  pub relocates : Relocates read t s' t' parcel to

-- only reads were made, or a region was opened at last
abbrev pub OpensAtMost : Store → Table → Store → Table → Type 0
OpensAtMost s t s' t' = (StoresNothing s s' × (t' ≡ t)) ⊎ ((read : Store) × StoresNothing s read × OpensOnly read t s' t')
