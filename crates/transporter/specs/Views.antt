-- The definitions of this crate on grounds, restated on their views.
use Rattle.std.specs.Prelude.{ℕ}
use Rattle.area_space.specs.View.{GroundView}
use Rattle.area_space.specs.declared.classes.Class.{Class}
use Rattle.obj_layout.specs.Forwards.{word_at}
use Rattle.store_word.specs.Words.{Parts}
use Rattle.store_word.specs.declared.word.Content.{Content}
use Rattle.transporter.specs.declared.parcel.Parcel.{Parcel}
use Rattle.transporter.specs.Growth.{Grows}
use Rattle.transporter.specs.LiveWordsUnchanged as live_same
use Rattle.transporter.specs.Marking as marking
use Rattle.transporter.specs.Moving as moving
use Rattle.transporter.specs.Relocations as relocations
use Rattle.transporter.specs.Settled as settled
use Rattle.transporter.specs.Settling as settling
use Rattle.transporter.specs.Preserving as preserving
use Rattle.transporter.specs.Transports as transports

abbrev pub NoOldAddresses : GroundView → Type 0
NoOldAddresses v = preserving.NoOldAddresses v.mem.store v.table

abbrev pub CanMove : GroundView → Parcel → Type 0
CanMove v = relocations.CanMove v.mem.store v.table

abbrev pub CanPut : GroundView → Parcel → Class → ℕ → Type 0
CanPut v = relocations.CanPut v.mem.store v.table

-- the word at an address is a reference to an old address
abbrev pub HasOldAt : GroundView → ℕ → Type 0
HasOldAt v at = settling.RefersToOld v.table (word_at v.mem.store.words at)

abbrev pub IsMovable : GroundView → ℕ → Type 0
IsMovable v = relocations.IsMovable v.mem.store v.table

abbrev pub IsSettleable : GroundView → Parts → Type 0
IsSettleable v = settling.IsSettleable v.mem.store v.table

abbrev pub IsTransportable : GroundView → ℕ → Type 0
IsTransportable v = transports.IsTransportable v.mem.store v.table

abbrev pub LiveWordsUnchanged : GroundView → GroundView → Type 0
LiveWordsUnchanged v v' = live_same.LiveWordsUnchanged v.mem.store v.table v'.mem.store v'.table

abbrev pub LiveWordsUnchangedExcept : GroundView → GroundView → ℕ → Type 0
LiveWordsUnchangedExcept v v' = live_same.LiveWordsUnchangedExcept v.mem.store v.table v'.mem.store v'.table

abbrev pub MarksFollow : GroundView → GroundView → Type 0
MarksFollow v v' = marking.MarksFollow v.mem.store v.table v'.mem.store v'.table

abbrev pub MarksFollowBut : GroundView → GroundView → ℕ → Type 0
MarksFollowBut v v' = marking.MarksFollowBut v.mem.store v.table v'.mem.store v'.table

abbrev pub MovesFrom : GroundView → GroundView → ℕ → ℕ → Type 0
MovesFrom v v' = transports.MovesFrom v.mem.store v.table v'.mem.store v'.table

abbrev pub MovesHere : GroundView → GroundView → ℕ → ℕ → Type 0
MovesHere v v' = relocations.MovesHere v.mem.store v.table v'.mem.store v'.table

abbrev pub OpensAtMost : GroundView → GroundView → Type 0
OpensAtMost v v' = relocations.OpensAtMost v.mem.store v.table v'.mem.store v'.table

abbrev pub OpensOnly : GroundView → GroundView → Type 0
OpensOnly v v' = relocations.OpensOnly v.mem.store v.table v'.mem.store v'.table

abbrev pub ReachesAlways : GroundView → GroundView → ℕ → ℕ → Type 0
ReachesAlways v v' = transports.ReachesAlways v.mem.store v.table v'.mem.store v'.table

abbrev pub Relocates : GroundView → GroundView → Parcel → ℕ → Type 0
Relocates v v' = relocations.Relocates v.mem.store v.table v'.mem.store v'.table

abbrev pub SettlesAt : GroundView → GroundView → ℕ → Content → Type 0
SettlesAt v v' = settled.SettlesAt v.mem.store v.table v'.mem.store v'.table

-- the word that is returned is the one that was at an address, or that with a live address in place of an old one
abbrev pub SettlesWordAt : GroundView → GroundView → ℕ → Parts → Type 0
SettlesWordAt v v' at = settling.Settles v.table v'.table (word_at v.mem.store.words at)

abbrev pub WordsUnchanged : GroundView → GroundView → Type 0
WordsUnchanged v v' = transports.WordsUnchanged v.mem.store v.table v'.mem.store v'.table

abbrev pub PreservesScanned : GroundView → GroundView → Type 0
PreservesScanned v v' = preserving.PreservesScanned v.mem.store v.table v'.mem.store v'.table

abbrev pub MovesFor : GroundView → GroundView → Parts → Parts → Type 0
MovesFor v v' = moving.MovesFor v.mem.store v.table v'.mem.store v'.table

abbrev pub FetchMoves : GroundView → GroundView → ℕ → Type 0
FetchMoves v v' = moving.FetchMoves v.mem.store v.table v'.mem.store v'.table

abbrev pub MovesAtMost : GroundView → GroundView → ℕ → Type 0
MovesAtMost v v' = moving.MovesAtMost v.mem.store v.table v'.mem.store v'.table

abbrev pub SettlesAlways : GroundView → GroundView → Parts → Parts → Type 0
SettlesAlways v v' = settling.SettlesAlways v.mem.store v.table v'.mem.store v'.table

abbrev pub RemainsRepresented : GroundView → GroundView → Parts → Type 0
RemainsRepresented v v' = settling.RemainsRepresented v.mem.store v.table v'.mem.store v'.table

-- what the barrier does to a ground, whatever the word: at most one transport, in a table that only grows; live words are unchanged, scanned words stay or are fresh, and marks follow the changes
pub record KeepsBarrier (v v' : GroundView) : Type 0 where
  pub moves : MovesAtMost v v' 1
  pub table : Grows v.table v'.table
  pub live : LiveWordsUnchanged v v'
  pub preserves : PreservesScanned v v'
  pub marks : MarksFollow v v'
