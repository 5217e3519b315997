-- The level of each region.
use Rattle.std.specs.Prelude.{ℕ, ◌≡◌, Bool, false, List, slice_index}

-- if this says that no region has a level of 1 or more, none has
abbrev pub HasNone : Bool → List ℕ → Type 0
HasNone ephemeral levels = ephemeral ≡ false → (region : ℕ) → slice_index levels region ≡ 0
