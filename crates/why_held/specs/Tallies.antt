-- The counts and charges so far, by area and code.
use Rattle.std.specs.Prelude.{◌≡◌, ℕ, ◌+◌, ◌-◌, ◌^◌, ◌<◌, ◌≤◌, List, ◌==◌, ◌&&◌, if◌then◌else◌, Option, Some, None, ⊤}
use Rattle.std.specs.List.{All}
use Rattle.std.specs.Option.{option_cmp}
use Rattle.std.specs.declared.cmp.Ordering.{Ordering}
use Rattle.std.specs.Ordering.{nat_cmp, ordering_then}
use Rattle.std.specs.BTreeMap.{get}
use Rattle.why_held.specs.declared.rows.CensusRow.{CensusRow}
use Rattle.why_held.specs.declared.rows.Counted.{Counted}
use Rattle.why_held.specs.declared.tallies.KindCount.{KindCount}
use Rattle.why_held.specs.declared.tallies.KindTally.{KindTally}
use Rattle.why_held.specs.declared.tallies.Tallies.{Tallies}
use Rattle.why_held.specs.Census.{charge_of, count_of, is_kind, same_code}

-- an area and a code
abbrev pub Kind : Type 0
Kind = ℕ × Option ℕ

-- the order of kinds
abbrev pub kind_cmp : Kind → Kind → Ordering
kind_cmp = λ x y. ordering_then (nat_cmp x.0 y.0) (option_cmp nat_cmp x.1 y.1)

-- the tally with one more object of this charge
abbrev pub more : Option KindCount → ℕ → KindCount
more None charge = record { count = 1; charge = charge }
more (Some tally) charge = record { count = tally.count + 1; charge = tally.charge + charge }

-- one more object can be counted
abbrev pub HasRoom : Option KindCount → Type 0
HasRoom None = ⊤
HasRoom (Some tally) = (tally.count < 2 ^ 32) × (tally.charge ≤ 2 ^ 64 - 2 ^ 32)

-- the tally of an area and a code, if there are objects of them
abbrev pub tally_of : List Counted → ℕ → Option ℕ → Option KindCount
tally_of counted area code =
    if count_of counted area code == 0 then None
    else Some (record { count = count_of counted area code; charge = charge_of counted area code })

-- the latest tally if it is of this area and code, or else the one in the map
abbrev pub latest_or : Option KindTally → ℕ → Option ℕ → Option KindCount → Option KindCount
latest_or None area code stored = stored
latest_or (Some latest) area code stored = if latest.area == area && same_code latest.code code then Some latest.tally else stored

-- the tally of an area and a code so far
abbrev pub tally_in : Tallies → ℕ → Option ℕ → Option KindCount
tally_in tallies area code = latest_or tallies.latest area code (get kind_cmp tallies.stored (area, code))

-- the tallies of what was counted
pub record AreTallies (counted : List Counted) (tallies : Tallies) : Type 0 where
  pub each : (area : ℕ) (code : Option ℕ) → tally_in tallies area code ≡ tally_of counted area code
  pub small : All (λ one. one.charge < 2 ^ 32) counted

-- one more object was counted
pub record Counts (one : Counted) (old new : Tallies) : Type 0 where
  pub updates : (area : ℕ) (code : Option ℕ)
      → tally_in new area code ≡ (if is_kind area code one then Some (more (tally_in old one.area one.code) one.charge) else tally_in old area code)
  pub small : one.charge < 2 ^ 32

abbrev pub row_of : Kind × KindCount → CensusRow
row_of entry = record { area = entry.0.0; code = entry.0.1; count = entry.1.count; charge = entry.1.charge }
