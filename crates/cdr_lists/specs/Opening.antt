-- A region is opened only if it is needed.
use Rattle.std.specs.Prelude.{◌≡◌, ◌⊎◌, ℕ, Some}
use Rattle.area_space.specs.Table.{Table, live, slot_of, IsUnclassed}
use Rattle.area_space.specs.Places.{opened}
use Rattle.transporter.specs.Relocations.{OpensIfFull}

-- a free region was opened for a live class, in which this number of words didn't fit, and of the free ones it had the lowest number
pub record OpensNeeded (t t' : Table) (area level words : ℕ) : Type 0 where
  pub region : ℕ
  pub free : IsUnclassed t region
  pub needed : OpensIfFull t (slot_of t area level) words (Some region)
  pub chains : t'.chains ≡ (opened t (live (slot_of t area level)) region).chains

-- no region was opened, or such a region was
abbrev pub OpensIfNeeded : Table → Table → ℕ → ℕ → ℕ → Type 0
OpensIfNeeded t t' area level words = (t'.chains ≡ t.chains) ⊎ OpensNeeded t t' area level words
