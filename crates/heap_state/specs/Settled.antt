-- Registers without old addresses.
use Rattle.std.specs.Prelude.{ℕ, ◌<◌, List, length, get_or}
use Rattle.store_word.specs.Words.{Parts, null_word}
use Rattle.area_space.specs.Table.{Table}
use Rattle.transporter.specs.Settling.{RefersToOld}
use Rattle.transporter.specs.Preserving.{FreshOn}

-- no register has an address in an old region
abbrev pub NoOldAddressesInRegisters : Table → List Parts → Type 0
NoOldAddressesInRegisters t registers = (r : ℕ) → r < length registers → FreshOn t (get_or registers r null_word).content

-- a register is settled: it has no old address
abbrev pub IsSettled : Table → List Parts → ℕ → Type 0
IsSettled t registers r = RefersToOld t (get_or registers r null_word) → ⊥
