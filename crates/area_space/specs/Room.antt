-- How many regions each area may have, and that there are enough.
use Rattle.std.specs.Prelude.{ℕ, ◌+◌, ◌*◌, ◌/◌, ◌<◌, ◌≤◌, List, [], ◌∷◌, length, slice_index}
use Rattle.store_word.specs.declared.sizes.TheConstants.{MAX_OBJECT_WORDS}
use Rattle.lisp_graph.specs.Totals.{total}
use Rattle.area_space.specs.Sums.{block, both}
use Rattle.area_space.specs.Table.{Table, areas_of, levels_of, chain, quota_of}

-- the used words of some regions
abbrev pub words_in : List ℕ → List ℕ → ℕ
words_in used [] = 0
words_in used (r ∷ rs) = slice_index used r + words_in used rs

abbrev pub words_of_class : Table → ℕ → ℕ
words_of_class t class = words_in t.used (chain t class)

abbrev pub regions_of_class : Table → ℕ → ℕ
regions_of_class t class = length (chain t class)

-- the used words of all regions of an area, old ones included
abbrev pub words_of_area : Table → ℕ → ℕ
words_of_area t area = block (both (words_of_class t)) (levels_of t) area

-- how many regions an area has, old ones included
abbrev pub regions_of_area : Table → ℕ → ℕ
regions_of_area t area = block (both (regions_of_class t)) (levels_of t) area

-- how many regions an area may have: one for each 1,024 words of its quota, rounded up, and
-- two for each level
abbrev pub share : Table → ℕ → ℕ
share t area = (quota_of t area + 1023) / 1024 + 2 * levels_of t

-- the room rule: the shares of all areas are together at most the regions
abbrev pub RoomRule : Table → Type 0
RoomRule t = total (share t) (areas_of t) ≤ t.regions

-- every region of a chain except the last has more than 2,048 used words
abbrev pub IsPacked : List ℕ → List ℕ → Type 0
IsPacked used [] = Unit {0}
IsPacked used (r ∷ []) = Unit {0}
IsPacked used (r ∷ s ∷ rs) = (MAX_OBJECT_WORDS < slice_index used r) × IsPacked used (s ∷ rs)
