-- What a call that makes conses does to a ground.
use Rattle.std.specs.Prelude.{◌≡◌, ℕ, ◌+◌, ◌<◌, ◌^◌, List, length, Result, OnErr}
use Rattle.store_word.specs.Words.{Parts}
use Rattle.store_word.specs.declared.faults.SwapFault.{SwapFault}
use Rattle.mem_port.specs.View.{AccountsForFaults}
use Rattle.area_space.specs.View.{GroundView}
use Rattle.obj_layout.specs.Forwards.{word_at}
use Rattle.transporter.specs.Growth.{OpensOrStays}
use Rattle.transporter.specs.Making.{PlacesNew}
use Rattle.transporter.specs.Preserving.{FreshOn}
use Rattle.transporter.specs.Views.{NoOldAddresses, LiveWordsUnchanged, MarksFollow, WordsUnchanged, PreservesScanned}
use Rattle.transporter.specs.WrittenMarks.{MarksByWords}
use Rattle.cdr_lists.specs.Lists.{cell_word, item_word}
use Rattle.cdr_lists.specs.Pairs.{first_word, second_word}

-- a request for new words: their area and level, their number, and their charge
pub record Request : Type 0 where
  pub area : ℕ
  pub level : ℕ
  pub words : ℕ
  pub charge : ℕ

-- new words were placed at an address, and an unmarked page becomes marked only by one of them
pub record PlacesWords (v v' : GroundView) (request : Request) (at : ℕ) : Type 0 where
  pub in_range : at < 2 ^ 28
  pub placed : PlacesNew v.table v'.table request.area request.level at request.words request.charge
  pub unmarked : MarksByWords v.mem.store v'.mem.store at request.words

-- the words of a pair of this charge are at an address
abbrev pub HasPairAt : GroundView → ℕ → Parts → Parts → ℕ → Type 0
HasPairAt v charge car cdr at = (word_at v.mem.store.words at ≡ first_word car) × (word_at v.mem.store.words (at + 1) ≡ second_word charge cdr)

-- the cells of these items are at an address
abbrev pub HasCellsAt : GroundView → List Parts → List ℕ → ℕ → Type 0
HasCellsAt v registers items at = (i : ℕ) → i < length items → word_at v.mem.store.words (at + i) ≡ cell_word registers items i

-- Nothing but new words was added to a ground: no used word of a live region has changed, what was scanned stays so, and marks follow the changes. If the new words are fresh and there were no old addresses, there are none.
pub record AddsOnly (v v' : GroundView) (fresh : Type 0) : Type 0 where
  pub live : LiveWordsUnchanged v v'
  pub preserves : PreservesScanned v v'
  pub stays_fresh : fresh → NoOldAddresses v → NoOldAddresses v'
  pub marks : MarksFollow v v'

-- the same for the words of a pair
abbrev pub AddsPair : GroundView → GroundView → Parts → Parts → Type 0
AddsPair v v' car cdr = AddsOnly v v' (FreshOn v.table car.content × FreshOn v.table cdr.content)

-- the same for the cells of these items
abbrev pub AddsCells : GroundView → GroundView → List Parts → List ℕ → Type 0
AddsCells v v' registers items = AddsOnly v v' ((i : ℕ) → i < length items → FreshOn v.table (item_word registers items i).content)

-- After a swap error every word is unchanged, though a region may have been opened. The result and the count of swap errors agree. (Six parameters: a result with its type, and the ground and the count of accesses, each before and after.)
pub record FailsWhole {T : Type 0} (v v' : GroundView) (result : Result T SwapFault) (steps steps' : ℕ) : Type 0 where
  pub opened : OnErr result (OpensOrStays v.table v'.table)
  pub fault : OnErr result (WordsUnchanged v v')
  pub accounted : AccountsForFaults v.mem v'.mem steps steps' result
