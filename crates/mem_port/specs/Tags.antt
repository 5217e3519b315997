-- One tag in place of a page's marks, and the levels of the addresses on a page.
use Rattle.std.specs.Prelude.{ℕ, ◌≡◌, ◌-◌, ◌<◌, ◌^◌, List, Some, slice_get, Bool, if◌then◌else◌}
use Rattle.store_word.specs.Words.{Parts}
use Rattle.mem_port.specs.Store.{level_of_word}

-- the marks that a tag represents: every level up to the greatest, or none
abbrev pub marks_of_tag : ℕ → Bool → ℕ
marks_of_tag top tag = if tag then 2 ^ top - 1 else 0

-- one of these words has an address of this level
abbrev pub HasAddress : List Parts → List ℕ → ℕ → Type 0
HasAddress words levels level = (k : ℕ) × (word : Parts) × ((slice_get words k ≡ Some word) × (level_of_word levels word ≡ level))

-- one of these words has an address of level 1 or more
abbrev pub HasEphemeral : List Parts → List ℕ → Type 0
HasEphemeral words levels = (k : ℕ) × (word : Parts) × ((slice_get words k ≡ Some word) × (0 < level_of_word levels word))

-- one of the first words has an address of level 1 or more
abbrev pub HasYoung : List ℕ → ℕ → (ℕ → Parts) → Type 0
HasYoung levels count word = (i : ℕ) × ((i < count) × (0 < level_of_word levels (word i)))
