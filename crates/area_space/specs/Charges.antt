-- How charges change when words are committed or become a husk.
use Rattle.std.specs.Prelude.{◌≡◌, ℕ, ◌+◌, ◌-◌, ◌/◌, ◌<◌, ◌≤◌, true, slice_index, slice_set}
use Rattle.area_space.specs.declared.classes.Origin.{Origin}
use Rattle.area_space.specs.declared.classes.Origin.TheVariants.{New, Moved, Reserve}
use Rattle.area_space.specs.Table.{Table, levels_of, slot_of, live, stale, quota_of}
use Rattle.area_space.specs.Accounts.{account_of}
use Rattle.area_space.specs.Places.{extended}

-- a class is charged this many words more
abbrev pub charged : Table → ℕ → ℕ → Table
charged t class amount = record t { charges = slice_set t.charges class (slice_index t.charges class + amount) }

-- a class is charged this many words less
abbrev pub discharged : Table → ℕ → ℕ → Table
discharged t class amount = record t { charges = slice_set t.charges class (slice_index t.charges class - amount) }

-- charges of a class have become its husks
abbrev pub husked : Table → ℕ → ℕ → Table
husked t class words = record t { charges = slice_set t.charges class (slice_index t.charges class - words); husks = slice_set t.husks class (slice_index t.husks class + words) }

-- a charge may have this origin: it fits the quota of the area, or an old class of the area is charged at least as much, or it is 0
abbrev pub AllowsOrigin : Table → ℕ → ℕ → Origin → Type 0
AllowsOrigin t slot charge New = account_of t (slot / levels_of t) + charge ≤ quota_of t (slot / levels_of t)
AllowsOrigin t slot charge (Moved from) = (from.stale ≡ true) × (from.area ≡ slot / levels_of t) × (from.level < levels_of t) × (charge ≤ slice_index t.charges (stale (slot_of t from.area from.level)))
AllowsOrigin t slot charge Reserve = charge ≡ 0

-- the live class of a slot is charged: a new charge, or one that leaves an old class, or none
abbrev pub charged_by : Table → ℕ → ℕ → Origin → Table
charged_by t slot charge New = charged t (live slot) charge
charged_by t slot charge (Moved from) = charged (discharged t (stale (slot_of t from.area from.level)) charge) (live slot) charge
charged_by t slot charge Reserve = t

-- words are committed: the used end has moved, and the class is charged. (Six parameters: a table, and the class, the address, the number of words, their charge and their origin, which vary independently.)
abbrev pub committed : Table → ℕ → ℕ → ℕ → ℕ → Origin → Table
committed t slot at words charge origin = charged_by (extended t at words) slot charge origin
