-- Which pages get marks, and by which of their words.
use Rattle.std.specs.Prelude.{◌≡◌, ◌≢◌, ◌⊎◌, ℕ, ◌/◌, ◌%◌, ◌<◌, ◌≤◌, IsSome}
use Rattle.store_word.specs.Words.{Parts}
use Rattle.store_word.specs.declared.sizes.TheConstants.{PAGE_WORDS, REGION_WORDS}
use Rattle.mem_port.specs.Store.{Store}
use Rattle.area_space.specs.Table.{Table, used_of}
use Rattle.obj_layout.specs.Forwards.{word_at, forward_of}
use Rattle.transporter.specs.Settling.{RefersToOld}

-- a word is a forward
abbrev pub IsForward : Parts → Type 0
IsForward word = IsSome (forward_of word.content)

-- the word at an address was placed between two tables
pub record IsPlaced (t t' : Table) (a : ℕ) : Type 0 where
  pub past : used_of t (a / REGION_WORDS) ≤ a % REGION_WORDS
  pub used : a % REGION_WORDS < used_of t' (a / REGION_WORDS)

-- a word may give marks to its page: it was placed, it became a forward, or it lost an old address
pub data MayMark (m : Store) (t : Table) (m' : Store) (t' : Table) (a : ℕ) : Type 0 where
  placed : IsPlaced t t' a → MayMark m t m' t' a
  forwarded : (IsForward (word_at m.words a) → ⊥) → IsForward (word_at m'.words a) → MayMark m t m' t' a
  settled : RefersToOld t (word_at m.words a) → (RefersToOld t' (word_at m'.words a) → ⊥) → MayMark m t m' t' a

-- a page has a word that may give it marks
abbrev pub HasMarker : Store → Table → Store → Table → ℕ → Type 0
HasMarker m t m' t' page = (a : ℕ) × (a / PAGE_WORDS ≡ page) × MayMark m t m' t' a

-- No used end falls. Except for words that are placed, a forward stays a forward, and no word gets an old address
pub record TurnsOneWay (m : Store) (t : Table) (m' : Store) (t' : Table) : Type 0 where
  pub used : (region : ℕ) → used_of t region ≤ used_of t' region
  pub forwards : (a : ℕ) → IsForward (word_at m.words a) → IsForward (word_at m'.words a) ⊎ IsPlaced t t' a
  pub olds : (a : ℕ) → RefersToOld t' (word_at m'.words a) → RefersToOld t (word_at m.words a) ⊎ IsPlaced t t' a

-- A page without marks gets marks only by a word of it that was placed, became a forward, or lost an old address
pub record MarksFollow (m : Store) (t : Table) (m' : Store) (t' : Table) : Type 0 where
  pub turns : TurnsOneWay m t m' t'
  pub unmarked : (page : ℕ) → m.marks page ≡ 0 → (m'.marks page ≡ 0) ⊎ HasMarker m t m' t' page

-- the same, except for the page of one address, which is written
pub record MarksFollowBut (m : Store) (t : Table) (m' : Store) (t' : Table) (at : ℕ) : Type 0 where
  pub turns : TurnsOneWay m t m' t'
  pub unmarked : (page : ℕ) → page ≢ at / PAGE_WORDS → m.marks page ≡ 0 → (m'.marks page ≡ 0) ⊎ HasMarker m t m' t' page
