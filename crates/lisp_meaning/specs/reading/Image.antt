-- The memory image of a machine: its words, its regions, the numbers of its table, its registers, and the units that remain to be scanned.
use Rattle.std.specs.Prelude.{ℕ, ◌+◌, ◌*◌, ◌/◌, Bool, true, false, nat_lt, List, length, get_or, Option}
use Rattle.lisp_graph.specs.store_word.declared.sizes.TheConstants.{REGION_WORDS}
use Rattle.lisp_graph.specs.store_word.Words.{Parts, null_word}
use Rattle.lisp_graph.specs.declared.command.Condemn.{Condemn}
use Rattle.lisp_graph.specs.Totals.{total, if_true}

pub data Standing : Type 0 where
  Free Live Old : Standing

-- a region of 4,096 words: its class, and how many of its words are used. A free one has area 0, level 0 and no used words
pub record Region : Type 0 where
  pub standing : Standing
  pub area : ℕ
  pub level : ℕ
  pub used : ℕ

-- the region that is read past the last one
abbrev pub no_region : Region
no_region = record { standing = Free; area = 0; level = 0; used = 0 }

pub record Image : Type 0 where
  pub words : List Parts
  pub regions : List Region
  -- whether a region is the last of its chain
  pub is_last : ℕ → Bool
  -- the charges and the words of husks of live classes and of old ones, by area and level
  pub live_charge : ℕ → ℕ → ℕ
  pub live_husks : ℕ → ℕ → ℕ
  pub old_charge : ℕ → ℕ → ℕ
  pub old_husks : ℕ → ℕ → ℕ
  pub registers : List Parts
  -- what the collection that runs condemned
  pub collection : Option Condemn
  -- the registers and the words that remain to be scanned
  pub register_left : ℕ → Bool
  pub word_left : ℕ → Bool
  -- a word on the page on which the latest transport of this collection ended
  pub last_moved : Option ℕ
  -- which levels a page is marked with, by page and level
  pub marks : ℕ → ℕ → Bool

abbrev pub word : Image → ℕ → Parts
word g a = get_or g.words a null_word

-- the image with this list of words, and all else unchanged
abbrev pub with_words : Image → List Parts → Image
with_words g ws = record g { words = ws }

-- the region of an address
abbrev pub region : Image → ℕ → Region
region g a = get_or g.regions (a / REGION_WORDS) no_region

abbrev pub is_live : Standing → Bool
is_live Live = true
is_live Free = false
is_live Old = false

abbrev pub is_old : Standing → Bool
is_old Old = true
is_old Live = false
is_old Free = false

abbrev pub is_free : Standing → Bool
is_free Free = true
is_free Live = false
is_free Old = false

-- the address is in an old region
abbrev pub old_at : Image → ℕ → Bool
old_at g a = is_old (region g a).standing

-- the address is below the used end of its region
abbrev pub is_used : Image → ℕ → Bool
is_used g a = nat_lt a (REGION_WORDS * (a / REGION_WORDS) + (region g a).used)

-- the number of used words of the regions that pass
abbrev pub used_words : Image → (Region → Bool) → ℕ
used_words g passes = total (λ i. if_true (passes (get_or g.regions i no_region)) (get_or g.regions i no_region).used) (length g.regions)
