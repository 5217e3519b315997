-- The words of new objects.
use Rattle.std.specs.Prelude.{◌≡◌, ℕ, zero, suc, ◌+◌, ◌*◌, ◌==◌, nat_lt, pos, if◌then◌else◌, List, Option}
use Rattle.store_word.specs.Words.{Parts, null_word}
use Rattle.store_word.specs.declared.word.CdrCode.{CdrCode}
use Rattle.store_word.specs.declared.word.CdrCode.TheVariants.{Next, Nil as CodedNil, Normal}
use Rattle.store_word.specs.declared.word.Content.TheVariants.{Nil as NilWord, Header, HeaderForward, Fixnum}
use Rattle.mem_port.specs.Store.{Store}
use Rattle.area_space.specs.declared.classes.Origin.{Origin}
use Rattle.area_space.specs.declared.classes.Origin.TheVariants.{New, Moved, Reserve}
use Rattle.area_space.specs.Table.{Table, slot_of}
use Rattle.area_space.specs.Sound.{IsTable}
use Rattle.area_space.specs.Places.{IsEnd}
use Rattle.area_space.specs.Charges.{committed}
use Rattle.obj_layout.specs.Forwards.{word_at}
use Rattle.transporter.specs.lisp_ground.Placing.{Opens}

-- the charge is a new object's, or 0 if it has been paid before
abbrev pub IsMade : ℕ → Origin → Type 0
IsMade charge New = Unit {0}
IsMade charge Reserve = charge ≡ 0
IsMade charge (Moved from) = ⊥

-- a place for words in area 0 at level 0 that is committed, and charged
pub record Reserves (m : Store) (t : Table) (m' : Store) (t' : Table) (at words charge : ℕ) (origin : Origin) : Type 0 where
  pub region : Option ℕ
  pub room : Table
  pub opens : Opens m t m' room region 0 0
  pub end : IsEnd room (slot_of room 0 0) at words
  pub commit : t' ≡ record (committed room (slot_of room 0 0) at words charge origin) { pages = t'.pages }
  pub sound : IsTable t'

-- a pair, by the code of its second word
abbrev pub pair_of : CdrCode → Parts → Parts → ℕ → Parts
pair_of code car cdr zero = record { cdr = Normal; content = car.content }
pair_of code car cdr (suc i) = record { cdr = code; content = cdr.content }

-- this many cells, whose cars are their numbers
abbrev pub cell_of : ℕ → ℕ → Parts
cell_of count i = record { cdr = if suc i == count then CodedNil else Next; content = Fixnum (pos i) }

-- a header of code 0, and fields that are nil
abbrev pub block_of : ℕ → ℕ → Parts
block_of length zero = record { cdr = Next; content = Header 0 length }
block_of length (suc i) = record { cdr = Next; content = NilWord }

-- a field of the block at an address, which has this many, or nil after the last
abbrev pub field_or_nil : List Parts → ℕ → ℕ → ℕ → Parts
field_or_nil words at fields i = if nat_lt i fields then word_at words (at + suc i) else record { cdr = Next; content = NilWord }

-- the words of a block of a code, with twice the fields of the block at an address and one
abbrev pub wider_of : List Parts → ℕ → ℕ → ℕ → ℕ → Parts
wider_of words at code fields zero = record { cdr = Next; content = Header code (2 * fields + 1) }
wider_of words at code fields (suc i) = field_or_nil words at fields i

-- what an object leaves when it is relocated: a HEADER-FORWARD, and NULL words
abbrev pub husk_of : ℕ → ℕ → Parts
husk_of to zero = record { cdr = Next; content = HeaderForward to }
husk_of to (suc i) = null_word
