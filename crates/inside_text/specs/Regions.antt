-- The class of a region.
use Rattle.std.specs.Prelude.{◌+◌, ◌==◌, ℕ, List, [], ◌∷◌, Bool, false, ◌||◌, if◌then◌else◌, Option, Some, None}
use Rattle.area_space.specs.Table.{Table}

-- whether a number is in this list
abbrev pub is_in : List ℕ → ℕ → Bool
is_in [] x = false
is_in (y ∷ ys) x = (y == x) || is_in ys x

-- the class of a region, among the chains of the classes from `class` on; none if the region is free
unfoldable pub class_from : ℕ → ℕ → List (List ℕ) → Option ℕ
class_from region class [] = None
class_from region class (regions ∷ chains) = if is_in regions region then Some class else class_from region (class + 1) chains

abbrev pub class_at : Table → ℕ → Option ℕ
class_at t region = class_from region 0 t.chains
