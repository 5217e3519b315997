-- The text of a census.
use Rattle.std.specs.Prelude.{◌≡◌, ℕ, ◌-◌, ◌<◌, ◌≤◌, ⊤, List, [], ◌∷◌, ◌++◌, Bool, ◌==◌, ◌&&◌, if◌then◌else◌, codes, decimal, drop, flat_map, Option, Some, None}
use Rattle.std.specs.List.{All, AllPairs, Any}
use Rattle.lisp_graph.specs.declared.world.AreaRule.{AreaRule}
use Rattle.world_text.specs.Spelling.{name_of}
use Rattle.why_held.specs.declared.rows.CensusRow.{CensusRow}
use Rattle.why_held.specs.declared.rows.Counted.{Counted}
use Rattle.why_held.specs.Census.{IsBefore, IsCensus, charge_of, count_of, same_code}

-- `cons`, or `block CODE`
abbrev pub code_text : Option ℕ → List ℕ
code_text None = codes "cons"
code_text (Some code) = codes "block " ++ decimal code

-- the line of a row, if this many of its objects are reached and have this charge: these numbers, and those of the other objects
abbrev pub census_line : List AreaRule → CensusRow → ℕ → ℕ → List ℕ
census_line areas row count charge =
    name_of areas row.area ++ 32 ∷ code_text row.code ++ 32 ∷ decimal count ++ 32 ∷ decimal charge ++ 32 ∷ decimal (row.count - count) ++ 32 ∷ decimal (row.charge - charge) ++ 10 ∷ []

-- a line for each row, if what was counted is what is reached
abbrev pub census_lines : List AreaRule → List Counted → List CensusRow → List ℕ
census_lines areas counted rows = flat_map (λ row. census_line areas row (count_of counted row.area row.code) (charge_of counted row.area row.code)) rows

-- The text of the rows of all objects, if what was counted is what is reached.
abbrev pub census_text : List AreaRule → List Counted → List CensusRow → List ℕ
census_text areas counted rows = census_lines areas counted rows ++ codes "end-census" ++ 10 ∷ []

-- no more was counted of the row's area and code than the row counts, and it is charged no more
pub record CountsAll (counted : List Counted) (row : CensusRow) : Type 0 where
  pub count : count_of counted row.area row.code ≤ row.count
  pub charge : charge_of counted row.area row.code ≤ row.charge

-- the rows are a census of what was counted, and it is among what all rows count
pub record IsPart (counted : List Counted) (rows reached : List CensusRow) : Type 0 where
  pub ordered : AllPairs IsBefore rows
  pub fewer : All (CountsAll counted) rows
  pub whole : (area : ℕ) (code : Option ℕ) → 0 < count_of counted area code → Any (λ row. (row.area ≡ area) × (row.code ≡ code)) rows
  pub census : IsCensus counted reached

-- While the lines are written

-- two rows of one area and code
abbrev pub same_kind : CensusRow → CensusRow → Bool
same_kind row other = row.area == other.area && same_code row.code other.code

-- the first of these rows, if it is of the same kind
abbrev pub found : CensusRow → List CensusRow → Option CensusRow
found row [] = None
found row (first ∷ others) = if same_kind row first then Some first else None

-- the rows after it, if it is
abbrev pub behind : Option CensusRow → List CensusRow → List CensusRow
behind None reached = reached
behind (Some first) reached = drop 1 reached

-- the line of the row of all objects of a kind, with the row of those that are reached
abbrev pub line_with : List AreaRule → CensusRow → Option CensusRow → List ℕ
line_with areas all None = census_line areas all 0 0
line_with areas all (Some reached) = census_line areas all reached.count reached.charge

-- the numbers of a reached row are no greater than those of the row of all objects of the kind, so that those of the others add up to it
abbrev pub AddsUp : CensusRow → Option CensusRow → Type 0
AddsUp all None = ⊤
AddsUp all (Some reached) = (reached.count ≤ all.count) × (reached.charge ≤ all.charge)

-- this is so for each line
abbrev pub AddUp : List CensusRow → List CensusRow → Type 0
AddUp [] reached = ⊤
AddUp (row ∷ rows) reached = AddsUp row (found row reached) × AddUp rows (behind (found row reached) reached)

-- the lines of rows, each with the next of the reached rows if that is of its kind
abbrev pub lines_with : List AreaRule → List CensusRow → List CensusRow → List ℕ
lines_with areas [] reached = []
lines_with areas (row ∷ rows) reached = line_with areas row (found row reached) ++ lines_with areas rows (behind (found row reached) reached)
