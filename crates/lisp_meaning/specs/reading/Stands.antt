-- What it means that a machine represents a state.
use Rattle.std.specs.Prelude.{◌≡◌, ℕ, suc, ◌+◌, ◌*◌, ◌<◌, ◌≤◌, Bool, true, false, not, ◌&&◌, ◌||◌, ◌==◌, ◌⊎◌, List, length, get_or, Some, None, IsTrue}
use Rattle.lisp_graph.specs.store_word.declared.sizes.TheConstants.{MAX_OBJECT_WORDS}
use Rattle.lisp_graph.specs.store_word.Words.{Parts, null_word, address_of}
use Rattle.lisp_graph.specs.store_word.declared.word.CdrCode.{CdrCode}
use Rattle.lisp_graph.specs.store_word.declared.word.CdrCode.TheVariants.{Next as CdrNext, Nil as CdrNil}
use Rattle.lisp_graph.specs.store_word.declared.word.Content.{Content}
use Rattle.lisp_graph.specs.store_word.declared.word.Content.TheVariants.{Header, HeaderForward}
use Rattle.lisp_graph.specs.declared.object.Value.TheVariants as V
use Rattle.lisp_graph.specs.declared.world.AreaRule.{AreaRule}
use Rattle.lisp_graph.specs.KeyedGraph.{is_cons}
use Rattle.lisp_graph.specs.Totals.{total, if_true}
use Rattle.lisp_meaning.specs.machine.Maps.{some_below}
use Rattle.lisp_meaning.specs.machine.State.{rule_of, survivor, Condemned, aim_of, Phase, Idle, Running, Store, State, object, is_held, in_use}
use Rattle.lisp_meaning.specs.machine.Charges.{charges, per_area, account}
use Rattle.lisp_meaning.specs.machine.Sound.{Reach}
use Rattle.lisp_meaning.specs.reading.Image.{Live, Old, Region, no_region, Image, word, region, is_old, is_free, old_at, is_used, used_words}
use Rattle.lisp_meaning.specs.reading.Classes.{classes, region_of, class_at, of_class, old_of}
use Rattle.lisp_meaning.specs.reading.Forwards.{Final}
use Rattle.lisp_meaning.specs.reading.Value.{Distinct, Means}
use Rattle.lisp_meaning.specs.reading.Objects.{Objects, Within, is_within}
use Rattle.lisp_meaning.specs.reading.Marks.{Marks}
use Rattle.lisp_meaning.specs.reading.Units.{units_left, NothingLeft}

-- each register's word represents the state's value
pub record Registers (g : Image) (s : State) (at : ℕ → ℕ) : Type 0 where
  pub count : length g.registers ≡ length s.registers
  pub each : (r : ℕ) → r < length s.registers → Means g s.store at (get_or g.registers r null_word).content (get_or s.registers r V.Nil)

-- A name is in a region of its area. One that isn't condemned is in a live region of its level. A condemned one is in an old region of its level or, if it has moved, in a live one of its survivor's level, and then it is bound.
pub record Classes (g : Image) (top : ℕ) (s : Store) (aim : Condemned) (at : ℕ → ℕ) : Type 0 where
  pub area : (n : ℕ) → in_use s n → (region g (at n)).area ≡ (object s n).area
  pub spared : (n level : ℕ) → s.held n ≡ Some level → aim.condemned n ≡ false →
      ((region g (at n)).standing ≡ Live) × ((region g (at n)).level ≡ level)
  pub doomed : (n level : ℕ) → s.held n ≡ Some level → aim.condemned n ≡ true →
      (((region g (at n)).standing ≡ Old) × ((region g (at n)).level ≡ level))
      ⊎ (((region g (at n)).standing ≡ Live) × ((region g (at n)).level ≡ survivor top aim.what level) × (aim.bound n ≡ true))

-- a word has no old address
abbrev pub Fresh : Image → Content → Type 0
Fresh g content = (a : ℕ) → address_of content ≡ Some a → old_at g a ≡ false

-- while a collection runs, no register and no word of a live region has an old address unless it remains to be scanned; only used words of live regions remain; and the scan is finished if and only if nothing remains
pub record IsScanned (g : Image) (over : Bool) : Type 0 where
  pub left : (a : ℕ) → a < length g.words → g.word_left a ≡ true → IsTrue (is_used g a) × ((region g a).standing ≡ Live)
  pub registers : (r : ℕ) → r < length g.registers → g.register_left r ≡ false → Fresh g (get_or g.registers r null_word).content
  pub words : (a : ℕ) → a < length g.words → (region g a).standing ≡ Live → g.word_left a ≡ false → Fresh g (word g a).content
  pub finished : IsTrue over → NothingLeft g
  pub unfinished : NothingLeft g → IsTrue over

-- the machine runs the collection that the state runs, or neither runs one; while none runs no region is old
abbrev pub PhaseOf : Image → Phase → Type 0
PhaseOf g Idle = (g.collection ≡ None) × ((a : ℕ) → old_at g a ≡ false)
PhaseOf g (Running c) = (g.collection ≡ Some c.aim.what) × IsScanned g c.over

-- an area's account by the machine's table: the charges and the husks of its classes, old ones included
abbrev pub machine_account : Image → ℕ → ℕ → ℕ
machine_account g top a = total (λ l. g.live_charge a l + g.live_husks a l + g.old_charge a l + g.old_husks a l) (suc top)

-- the accounts by the table are the state's, and within the quotas
abbrev pub Accounts : Image → ℕ → List AreaRule → Store → Condemned → Type 0
Accounts g top areas s aim = (a : ℕ) → a < length areas → (machine_account g top a ≡ account top s aim a) × (account top s aim a ≤ (rule_of areas a).quota)

-- a name is held, and its object is in a region that passes
abbrev pub stands_in : Image → Store → (ℕ → ℕ) → (Region → Bool) → ℕ → Bool
stands_in g s at passes n = is_held s n && passes (region g (at n))

abbrev pub is_cell_of : Content → CdrCode → Bool
is_cell_of (Header code n) c = false
is_cell_of _ CdrNext = true
is_cell_of _ CdrNil = true
is_cell_of _ _ = false

-- the first word of an object is that of a cell
abbrev pub is_cell_word : Parts → Bool
is_cell_word w = is_cell_of w.content w.cdr

-- Sums over the regions that pass, beside their used words

-- how many objects there are cells
abbrev pub cells_in : Image → Store → (ℕ → ℕ) → (Region → Bool) → ℕ
cells_in g s at passes = total (λ n. if_true (stands_in g s at passes n && is_cell_word (word g (at n))) 1) (length s.objects)

-- the charges of the objects there
abbrev pub charged_in : Image → Store → (ℕ → ℕ) → (Region → Bool) → ℕ
charged_in g s at passes = charges s (stands_in g s at passes)

-- the charges of the condemned objects of an area, whether they have moved or not
abbrev pub condemned_in : Store → Condemned → ℕ → ℕ
condemned_in s aim area = charges s (λ n. aim.condemned n && per_area s area n)

abbrev pub is_forward_to : ℕ → Content → Bool
is_forward_to a (HeaderForward b) = b == a
is_forward_to a _ = false

-- a word is part of the name's object or, if that is a cons, a forward to it
abbrev pub is_of : Image → Store → (ℕ → ℕ) → ℕ → ℕ → Bool
is_of g s at a n = is_within g (at n) a || (is_cons (object s n).body && is_forward_to (at n) (word g a).content)

-- the same for some held name
abbrev pub is_of_held : Image → Store → (ℕ → ℕ) → ℕ → Bool
is_of_held g s at a = some_below (λ n. is_held s n && is_of g s at a n) (length s.objects)

-- the used words there that are of no held name: the words of husks
abbrev pub husk_words_in : Image → Store → (ℕ → ℕ) → (Region → Bool) → ℕ
husk_words_in g s at passes = total (λ a. if_true (is_used g a && (passes (region g a) && not (is_of_held g s at a))) 1) (length g.words)

-- In each live class the used words, and two for each cell, are at most the charges and the husks there; and the used words of no held name are at most the husks. In each area the old words are at most the condemned charges and the condemned husks. Every region except the last of its chain is more than half full; each word from a used end on is NULL.
pub record Room (g : Image) (s : Store) (aim : Condemned) (at : ℕ → ℕ) : Type 0 where
  pub live : (area level : ℕ) → used_words g (of_class area level) + 2 * cells_in g s at (of_class area level) ≤ charged_in g s at (of_class area level) + s.husks area level
  pub husks : (area level : ℕ) → husk_words_in g s at (of_class area level) ≤ s.husks area level
  pub old : (area : ℕ) → used_words g (old_of area) ≤ condemned_in s aim area + aim.gone area
  pub chains : (i : ℕ) → i < length g.regions → is_free (get_or g.regions i no_region).standing ≡ false → g.is_last i ≡ false → MAX_OBJECT_WORDS < (get_or g.regions i no_region).used
  pub above : (a : ℕ) → is_used g a ≡ false → word g a ≡ null_word

-- a HEADER-FORWARD whose final address is that of a held name in the same class
pub record ForwardsTo (g : Image) (s : Store) (at : ℕ → ℕ) (a n : ℕ) : Type 0 where
  pub used : in_use s n
  pub to : ℕ
  pub content : (word g a).content ≡ HeaderForward to
  pub final : Final g to (at n)
  pub class : class_at (classes g) (at n) ≡ class_at (classes g) a

-- a word is part of an object, or such a forward, or a word of a husk: one of the NULL words that follow such a forward to a block, in its region
pub data Owned (g : Image) (s : Store) (at : ℕ → ℕ) (a : ℕ) : Type 0 where
  by_object : (n : ℕ) → in_use s n → Within g (at n) a → Owned g s at a
  by_forward : (n : ℕ) → ForwardsTo g s at a n → Owned g s at a
  by_husk : (n first : ℕ) → ForwardsTo g s at first n → first < a → ((c : ℕ) → first < c → c ≤ a → word g c ≡ null_word) → region_of a ≡ region_of first
      → (code length : ℕ) → (word g (at n)).content ≡ Header code length → Owned g s at a

-- no used word of a live region is stale
abbrev pub NoStale : Image → Store → (ℕ → ℕ) → Type 0
NoStale g s at = (a : ℕ) → IsTrue (is_used g a) → (region g a).standing ≡ Live → Owned g s at a

-- the charges of the condemned names that are still in old regions
abbrev pub standing_old : Image → Store → Condemned → (ℕ → ℕ) → ℕ
standing_old g s aim at = charges s (λ n. aim.condemned n && is_old (region g (at n)).standing)

-- while a collection's scan isn't finished, the work paid, the units that remain, and the charges in old regions are together at most the work owed
abbrev pub Work : Image → Store → (ℕ → ℕ) → Phase → Type 0
Work g s at Idle = Unit {0}
Work g s at (Running c) =
    c.over ≡ false → c.paid + units_left g + standing_old g s c.aim at ≤ c.owed

-- a machine represents a state under a naming of the held names
pub record StandsUnder (g : Image) (s : State) (at : ℕ → ℕ) : Type 0 where
  pub distinct : Distinct s.store at
  pub objects : Objects g s.store at
  pub registers : Registers g s at
  pub classes : Classes g s.space.levels s.store (aim_of s.phase) at
  pub phase : PhaseOf g s.phase
  pub accounts : Accounts g s.space.levels s.areas s.store (aim_of s.phase)
  pub room : Room g s.store (aim_of s.phase) at
  pub no_stale : NoStale g s.store at
  pub marks : Marks g
  pub reach : Reach s s.phase
  pub work : Work g s.store at s.phase

-- a machine represents a state: under some naming
abbrev pub Stands : Image → State → Type 0
Stands g s = (at : ℕ → ℕ) × StandsUnder g s at
