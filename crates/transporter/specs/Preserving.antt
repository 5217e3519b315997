-- What a call may do to a ground, and a command to registers, while a collection runs.
use Rattle.std.specs.Prelude.{◌≡◌, ℕ, ◌+◌, ◌/◌, ◌%◌, ◌<◌, ◌≤◌, ◌⊎◌, ◌↔◌, List, length, get_or, Contains, Some}
use Rattle.store_word.specs.Words.{Parts, null_word, address_of}
use Rattle.store_word.specs.declared.word.Content.{Content}
use Rattle.store_word.specs.declared.sizes.TheConstants.{PAGE_WORDS, REGION_WORDS}
use Rattle.area_space.specs.lisp_graph.Totals.{total}
use Rattle.mem_port.specs.Store.{Store}
use Rattle.area_space.specs.Table.{Table, used_of, IsOld}
use Rattle.area_space.specs.PageList.{IsAscending}
use Rattle.obj_layout.specs.Forwards.{word_at}
use Rattle.transporter.specs.LiveWordsUnchanged.{OnlyGrows, IsLiveWord}

-- no address of the content is in an old region
abbrev pub FreshOn : Table → Content → Type 0
FreshOn t content = (b : ℕ) → address_of content ≡ Some b → IsOld t (b / REGION_WORDS) → ⊥

-- each used word of a live region is fresh
abbrev pub NoOldAddresses : Store → Table → Type 0
NoOldAddresses m t = (a : ℕ) → IsLiveWord t a → FreshOn t (word_at m.words a).content

-- a page has a word that was placed between two tables
abbrev pub HasPlaced : Table → Table → ℕ → Type 0
HasPlaced t t' page = (a : ℕ) × (a / PAGE_WORDS ≡ page) × (used_of t (a / REGION_WORDS) ≤ a % REGION_WORDS) × (a % REGION_WORDS < used_of t' (a / REGION_WORDS))

-- the set of pages has grown by the pages with such a word, and no others
pub record PagesGrow (t t' : Table) : Type 0 where
  pub ascending : IsAscending t.pages → IsAscending t'.pages
  pub members : (page : ℕ) → Contains t'.pages page ↔ (Contains t.pages page ⊎ HasPlaced t t' page)

-- The table only grows, and in live regions alone; it counts what is placed; and a used word of a live region is unchanged, or is fresh.
pub record PreservesScanned (m : Store) (t : Table) (m' : Store) (t' : Table) : Type 0 where
  pub grows : OnlyGrows t t'
  pub young : (region : ℕ) → IsOld t' region → used_of t' region ≡ used_of t region
  pub placed : total (used_of t') t'.regions + t.placed ≡ total (used_of t) t.regions + t'.placed
  pub paged : PagesGrow t t'
  pub words : (a : ℕ) → IsLiveWord t a → (word_at m'.words a ≡ word_at m.words a) ⊎ FreshOn t' (word_at m'.words a).content

-- each register is unchanged, or is fresh
pub record RegistersPreserved (t : Table) (registers registers' : List Parts) : Type 0 where
  pub count : length registers' ≡ length registers
  pub each : (r : ℕ) → r < length registers → (get_or registers' r null_word ≡ get_or registers r null_word) ⊎ FreshOn t (get_or registers' r null_word).content
