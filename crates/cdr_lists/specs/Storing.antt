-- What a call that writes a part of a cons does to a ground.
use Rattle.std.specs.Prelude.{◌≡◌, ℕ}
use Rattle.store_word.specs.Words.{Parts}
use Rattle.store_word.specs.declared.word.CdrCode.TheVariants.{Normal}
use Rattle.store_word.specs.declared.word.Content.{Content}
use Rattle.area_space.specs.View.{GroundView}
use Rattle.obj_layout.specs.Forwards.{word_at}
use Rattle.store_word.specs.declared.word.Content.TheVariants.{List as ListAt}
use Rattle.transporter.specs.Views.{NoOldAddresses, LiveWordsUnchanged, MovesAtMost, WordsUnchanged, PreservesScanned}
use Rattle.cdr_lists.specs.Parts.{WritesCar, WritesCdr}
use Rattle.cdr_lists.specs.Views.{IsConsPlace, KeepsCons, MarksCar, MarksCdr, RelaysCdr, SetsCar, SetsCdr, SettlesCellAtMost, SettlesWordAtMost}

-- the car of the cons to which the content refers has this value, and its word is written
pub record StoresCar (v v' : GroundView) (content : Content) (value : Parts) : Type 0 where
  pub set : SetsCar v v' content value.content
  pub written : WritesCar v.mem.store v'.mem.store content value

-- The cdr of the cons to which the content refers has this value. That of a pair is written in its second word, and then the table is the same and nothing moves; a cell is relocated.
pub record StoresCdr (v v' : GroundView) (content : Content) (value : Parts) : Type 0 where
  pub set : SetsCdr v v' content value.content
  pub written : WritesCdr v.mem.store v'.mem.store content value
  pub laid : RelaysCdr v v' content value
  pub table : (at : ℕ) → IsConsPlace v content at → (word_at v.mem.store.words at).cdr ≡ Normal → v'.table ≡ v.table
  pub cells : (at : ℕ) → IsConsPlace v content at → (word_at v.mem.store.words at).cdr ≡ Normal → MovesAtMost v v' 0

-- what a call that fails leaves: the cons, and each used word of a live region except that of a cell, which may be settled; at most one object moved
pub record FailsCdr (v v' : GroundView) (content : Content) : Type 0 where
  pub fault : KeepsCons v v' content
  pub registers : SettlesCellAtMost v v' content
  pub moves : MovesAtMost v v' 1

-- what a store of the car leaves of the ground: nothing moves, what was scanned stays so, and no page but that of the cons is marked
pub record KeepsButCar (v v' : GroundView) (content : Content) : Type 0 where
  pub moves : MovesAtMost v v' 0
  pub preserves : PreservesScanned v v'
  pub stays_fresh : NoOldAddresses v → NoOldAddresses v'
  pub marks : MarksCar v v' content

-- what a store of the cdr leaves of it: what was scanned stays so, and marks follow the changes, except at a pair's second word
pub record KeepsButCdr (v v' : GroundView) (content : Content) : Type 0 where
  pub preserves : PreservesScanned v v'
  pub stays_fresh : NoOldAddresses v → NoOldAddresses v'
  pub marks : MarksCdr v v' content

-- what a relocation of a cell leaves if a swap error stops it: the cons, and each used word of a live region except the cell, which may be settled; at most one object moved
pub record FailsRelay (v v' : GroundView) (cell : ℕ) : Type 0 where
  pub fault : KeepsCons v v' (ListAt cell)
  pub registers : SettlesWordAtMost v v' cell
  pub moves : MovesAtMost v v' 1

-- the same if the cell was settled before: every word is unchanged, and nothing moved
pub record FailsStill (v v' : GroundView) : Type 0 where
  pub fault : WordsUnchanged v v'
  pub live : LiveWordsUnchanged v v'
  pub moves : MovesAtMost v v' 0
