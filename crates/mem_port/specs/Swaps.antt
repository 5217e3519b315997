-- What a memory has on its swap device.
use Rattle.std.specs.Prelude.{ℕ, List, []}

-- the pages on the swap device, ascending, and how many page calls of each kind were made, including those that failed
pub record Swaps : Type 0 where
  pub out : List ℕ
  pub writes : ℕ
  pub reads : ℕ

-- no swap device
abbrev pub no_swaps : Swaps
no_swaps = record { out = []; writes = 0; reads = 0 }
