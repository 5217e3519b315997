-- The sets of levels of pages: a page whose set isn't empty has a row.
use Rattle.std.specs.Prelude.{ℕ, ◌<◌, ◌≤◌, Bool, not, eqb, List, length, filter, slice_index_or}
use Rattle.std.specs.List.{range_with_len}
use Rattle.std.specs.Int.RustNames.{bit_and}
use Rattle.store_word.specs.declared.levels.Levels.{Levels}
use Rattle.store_word.specs.Sets.{Meets}

-- the empty set
abbrev pub no_levels : Levels
no_levels = record { 0 = 0 }

-- the levels of a page
abbrev pub set_at : List Levels → ℕ → ℕ
set_at sets page = (slice_index_or sets page no_levels).0

-- whether a page has a row
abbrev pub has_row : List Levels → ℕ → Bool
has_row sets page = not (eqb (set_at sets page) 0)

-- the pages that have a row, ascending
abbrev pub rows_of : List Levels → List ℕ
rows_of sets = filter (has_row sets) (range_with_len 0 (length sets))

-- whether two sets have a level in common
abbrev pub do_meet : ℕ → ℕ → Bool
do_meet set other = not (eqb (bit_and set other) 0)

-- a page, from one on, has one of these levels
abbrev pub IsMatch : List Levels → ℕ → ℕ → ℕ → Type 0
IsMatch sets from levels page = (from ≤ page) × (page < length sets) × Meets (set_at sets page) levels

-- no page, from one on and below another, has one of these levels
abbrev pub NoneMeets : List Levels → ℕ → ℕ → ℕ → Type 0
NoneMeets sets levels from to = (page : ℕ) → from ≤ page → page < to → ¬ Meets (set_at sets page) levels
