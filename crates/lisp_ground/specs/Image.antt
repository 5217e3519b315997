-- The memory image of a ground: its memory and its table determine the words, the regions, the charges and the marks.
use Rattle.std.specs.Prelude.{ℕ, ◌*◌, ◌/◌, ◌%◌, Bool, true, false, ◌==◌, eqb, nat_lt, if◌then◌else◌, List, [], length, map, Option, Some, None, slice_index}
use Rattle.area_space.specs.store_word.declared.sizes.TheConstants.{PAGE_WORDS}
use Rattle.std.specs.List.{range_with_len, list_any}
use Rattle.area_space.specs.store_word.Words.{Parts}
use Rattle.area_space.specs.mem_port.Store.{Store}
use Rattle.area_space.specs.index_lists.Chains.{last_of}
use Rattle.area_space.specs.Table.{Table, levels_of, slot_of, live, stale, chain, used_of}
use Rattle.area_space.specs.Flips.{has_level}
use Rattle.lisp_meaning.specs.Units.{lowest}
use Rattle.lisp_meaning.specs.Image.{Standing, Live, Old, Region, no_region, Image}

-- what neither a memory nor its table has: the words of the registers, and which registers and words remain to be scanned
pub record Rest : Type 0 where
  pub registers : List Parts
  pub register_left : ℕ → Bool
  pub word_left : ℕ → Bool

-- no register, and no unit to scan
abbrev pub no_rest : Rest
no_rest = record { registers = []; register_left = λ r. false; word_left = λ a. false }

-- Regions

-- the class whose chain has a region; a free region has none
abbrev pub class_with : Table → ℕ → Option ℕ
class_with t region = lowest (λ class. list_any (eqb region) (chain t class)) (length t.chains)

-- live classes have even numbers
abbrev pub standing_of : ℕ → Standing
standing_of class = if class % 2 == 0 then Live else Old

-- a region of a class: live or old, and with the area and the level of the class
abbrev pub region_in : Table → ℕ → Option ℕ → Region
region_in t region None = no_region
region_in t region (Some class) = record {
  standing = standing_of class;
  area = class / 2 / levels_of t;
  level = class / 2 % levels_of t;
  used = used_of t region;
}

abbrev pub region_at : Table → ℕ → Region
region_at t region = region_in t region (class_with t region)

-- the region is the last of this chain
abbrev pub is_at : Option ℕ → ℕ → Bool
is_at None region = false
is_at (Some last) region = last == region

abbrev pub is_end_of : Table → ℕ → Option ℕ → Bool
is_end_of t region None = false
is_end_of t region (Some class) = is_at (last_of (chain t class)) region

-- Numbers of classes

-- the number of a class in such a list, by its area and level; 0 past the greatest level
abbrev pub by_class : Table → (ℕ → ℕ) → List ℕ → ℕ → ℕ → ℕ
by_class t class numbers area level = if nat_lt level (levels_of t) then slice_index numbers (class (slot_of t area level)) else 0

-- the first word of a page
abbrev pub page_start : Option ℕ → Option ℕ
page_start None = None
page_start (Some page) = Some (PAGE_WORDS * page)

-- the image of a ground
abbrev pub image_of : Store → Table → Rest → Image
image_of s t rest = record {
  words = s.words;
  regions = map (region_at t) (range_with_len 0 t.regions);
  is_last = λ region. is_end_of t region (class_with t region);
  live_charge = by_class t live t.charges;
  live_husks = by_class t live t.husks;
  old_charge = by_class t stale t.charges;
  old_husks = by_class t stale t.husks;
  registers = rest.registers;
  collection = t.aim;
  register_left = rest.register_left;
  word_left = rest.word_left;
  last_moved = page_start t.last;
  marks = λ page level. has_level (s.marks page) level;
}

-- the image of a memory and its table alone. Every page counts as marked, since the law of marks is the memory's
abbrev pub ground_image : Store → Table → Image
ground_image s t = record (image_of s t no_rest) { marks = λ page level. true }
