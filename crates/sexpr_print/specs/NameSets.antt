-- Names of objects, each added at most once.
use Rattle.std.specs.Prelude.{◌≡◌, ℕ, ◌<◌, ◌+◌, ◌^◌, Bool, false, not, List, length, count_by, slice_index_or}
use Rattle.std.specs.List.{All}
use Rattle.sexpr_print.specs.Places.{is_among}

-- how many objects there are, and the names that were added, in their order
pub record Names : Type 0 where
  pub objects : ℕ
  pub names : List ℕ

abbrev pub names_of : ℕ → List ℕ → Names
names_of objects names = record { objects = objects; names = names }

-- the names are those of objects, and the flags say which were added; there is room for each of the others
pub record AreAdded (names : List ℕ) (added : List Bool) : Type 0 where
  pub few : length added < 2 ^ 32
  pub below : All (λ name. name < length added) names
  pub each : (name : ℕ) → name < length added → slice_index_or added name false ≡ is_among names name
  pub room : length names + count_by not added ≡ length added
