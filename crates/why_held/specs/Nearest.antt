-- For each object up to a depth, the lowest numbered object that is one less deep and refers to it.
use Rattle.std.specs.Prelude.{◌≡◌, ℕ, ◌<◌, List, length, Bool, false, ◌&&◌, if◌then◌else◌, nat_lt, Option, Some, None, slice_index_or}
use Rattle.lisp_graph.specs.declared.object.Value.{Value}
use Rattle.lisp_graph.specs.declared.object.Object.{Object}
use Rattle.lisp_graph.specs.Graph.{refers_in}
use Rattle.why_held.specs.Chains.{depth_at}
use Rattle.why_held.specs.Choice.{IsFirst, is_nearer, is_one_less}
use Rattle.why_held.specs.Search.{IsWithin}

-- what was found for an object
abbrev pub nearest_at : List (Option ℕ) → ℕ → Option ℕ
nearest_at nearest object = slice_index_or nearest object None

-- what was found before, or else this object if it passes
abbrev pub or_this : Option ℕ → Bool → ℕ → Option ℕ
or_this (Some before) passes object = Some before
or_this None passes object = if passes then Some object else None

-- these values in an object are the first references to those that are one deeper, and to which none was found before
pub record Offered (depths : List (Option ℕ)) (from : ℕ) (values : List Value) (old new : List (Option ℕ)) : Type 0 where
  pub size : length new ≡ length old
  pub each : (to : ℕ) → nearest_at new to ≡ or_this (nearest_at old to) (is_one_less (depth_at depths from) (depth_at depths to) && refers_in to values) from

-- the least number below a bound that passes, if one does
abbrev pub IsFirstBelow : (ℕ → Bool) → ℕ → Option ℕ → Type 0
IsFirstBelow test count None = (number : ℕ) → number < count → test number ≡ false
IsFirstBelow test count (Some number) = (number < count) × IsFirst test number

-- the depth is less than this
abbrev pub is_less_deep : Option ℕ → ℕ → Bool
is_less_deep None most = false
is_less_deep (Some depth) most = nat_lt depth most

-- for each object that is at most so deep, the lowest of the first `count` objects that is one less deep and refers to it
pub record AreNearest (objects : List Object) (depths : List (Option ℕ)) (most count : ℕ) (nearest : List (Option ℕ)) : Type 0 where
  pub size : length nearest ≡ length objects
  pub each : (to : ℕ) → IsWithin most (depth_at depths to) → IsFirstBelow (is_nearer objects depths to) count (nearest_at nearest to)
