-- The spelling of words and sets of levels, and the marks of units not yet scanned.
use Rattle.std.specs.Prelude.{ℕ, ◌-◌, ◌/◌, ◌%◌, ◌^◌, ◌==◌, Bool, true, false, if◌then◌else◌, List, [], ◌∷◌, ◌++◌, map, flat_map, codes, decimal}
use Rattle.std.specs.List.{range_with_len}
use Rattle.std.specs.Int.{bit_at}
use Rattle.std.specs.Fmt.{digit_glyph}
use Rattle.store_word.specs.Words.{Parts, bits_of}
use Rattle.lisp_graph.specs.declared.command.Condemn.{Condemn}
use Rattle.lisp_graph.specs.declared.command.Condemn.TheVariants.{Full, Chosen}
use Rattle.world_text.specs.Spelling.{line_of}

-- words separated by spaces, and a line feed
abbrev pub line : List (List ℕ) → List ℕ
line words = line_of words ++ 10 ∷ []

-- the nine digits of a word
abbrev pub word_digits : Parts → List ℕ
word_digits word = map (λ k. digit_glyph false (bits_of word / 16 ^ (8 - k) % 16)) (range_with_len 0 9)

-- the levels of a set in ascending order, each after a comma
abbrev pub level_text : ℕ → ℕ → List ℕ
level_text set level = if bit_at set (level - 1) == 1 then 44 ∷ decimal level else []

abbrev pub levels_text : ℕ → List ℕ
levels_text set = flat_map (level_text set) (range_with_len 1 6)

-- a text without its first comma, or a dash if it is empty
abbrev pub without_comma : List ℕ → List ℕ
without_comma [] = codes "-"
without_comma (comma ∷ text) = text

-- the levels of a set in ascending order, separated by commas, or a dash if there are none
abbrev pub levels_word : ℕ → List ℕ
levels_word set = without_comma (levels_text set)

-- what a flip condemned
abbrev pub condemned_word : Condemn → List ℕ
condemned_word Full = codes "full"
condemned_word (Chosen set) = levels_word set.0

-- the word after a register or a word of memory that has yet to be scanned
abbrev pub left_words : Bool → List (List ℕ)
left_words true = codes "left" ∷ []
left_words false = []

-- the line of a register or of a word of memory
abbrev pub marked_line : List ℕ → ℕ → Parts → Bool → List ℕ
marked_line first number word left = line (first ∷ decimal number ∷ word_digits word ∷ left_words left)

-- yes or no
abbrev pub yes_or_no : Bool → List ℕ
yes_or_no true = codes "yes"
yes_or_no false = codes "no"

-- the word for a region's age: old or live
abbrev pub age_word : Bool → List ℕ
age_word true = codes "old"
age_word false = codes "live"

-- the line of a page on the swap device with this row
abbrev pub swapped_line : ℕ → ℕ → List ℕ
swapped_line page row = line (codes "page" ∷ decimal page ∷ codes "swapped" ∷ codes "row" ∷ levels_word row ∷ [])

-- the line of a page in a frame, with its tag
abbrev pub resident_line : ℕ → Bool → List ℕ
resident_line page tag = line (codes "page" ∷ decimal page ∷ codes "resident" ∷ codes "tag" ∷ yes_or_no tag ∷ [])

-- the line of the numbers of page calls
abbrev pub counts_line : ℕ → ℕ → List ℕ
counts_line writes reads = line (codes "calls" ∷ codes "write" ∷ decimal writes ∷ codes "read" ∷ decimal reads ∷ [])
