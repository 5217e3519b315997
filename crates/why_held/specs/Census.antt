-- How many objects of each kind there are, and their charges. A kind is the conses of an area, or its blocks of one code.
use Rattle.std.specs.Prelude.{◌≡◌, ◌⊎◌, ℕ, ◌<◌, List, Bool, true, false, ◌==◌, ◌&&◌, nat_lt, if◌then◌else◌, Option, Some, None, count_by, sum_by}
use Rattle.std.specs.List.{All, AllPairs, Any}
use Rattle.lisp_graph.specs.declared.object.Body.{Body}
use Rattle.lisp_graph.specs.declared.object.Body.TheVariants.{Cons, Block}
use Rattle.lisp_graph.specs.declared.object.Object.{Object}
use Rattle.why_held.specs.declared.rows.CensusRow.{CensusRow}
use Rattle.why_held.specs.declared.rows.Counted.{Counted}

-- What is counted

-- the code of a block; None for a cons
abbrev pub code_of : Body → Option ℕ
code_of (Cons car cdr) = None
code_of (Block code fields) = Some code

-- what a census uses of an object
abbrev pub counted_object : Object → Counted
counted_object object = record { area = object.area; code = code_of object.body; charge = object.charge }

-- Counts

abbrev pub same_code : Option ℕ → Option ℕ → Bool
same_code None None = true
same_code (Some code) (Some other) = code == other
same_code _ _ = false

-- an object of this area and code
abbrev pub is_kind : ℕ → Option ℕ → Counted → Bool
is_kind area code one = one.area == area && same_code one.code code

-- how many objects there are of this area and code
abbrev pub count_of : List Counted → ℕ → Option ℕ → ℕ
count_of counted area code = count_by (is_kind area code) counted

-- the sum of their charges
abbrev pub charge_of : List Counted → ℕ → Option ℕ → ℕ
charge_of counted area code = sum_by (λ one. if is_kind area code one then one.charge else 0) counted

-- Rows

-- the objects of the row's area and code, of which there are some
pub record IsRow (counted : List Counted) (row : CensusRow) : Type 0 where
  pub some : 0 < row.count
  pub count : row.count ≡ count_of counted row.area row.code
  pub charge : row.charge ≡ charge_of counted row.area row.code

-- conses precede blocks, and blocks are in the order of their codes
abbrev pub is_code_before : Option ℕ → Option ℕ → Bool
is_code_before None (Some code) = true
is_code_before (Some code) (Some other) = nat_lt code other
is_code_before _ None = false

-- rows are in the order of areas, and those of one area in the order of their codes
abbrev pub IsBefore : CensusRow → CensusRow → Type 0
IsBefore row next = (row.area < next.area) ⊎ ((row.area ≡ next.area) × (is_code_before row.code next.code ≡ true))

-- A row for each area and code of which there are objects, and no others, in their order.
pub record IsCensus (counted : List Counted) (rows : List CensusRow) : Type 0 where
  pub each : All (IsRow counted) rows
  pub whole : (area : ℕ) (code : Option ℕ) → 0 < count_of counted area code → Any (λ row. (row.area ≡ area) × (row.code ≡ code)) rows
  pub ordered : AllPairs IsBefore rows
