-- Another car or cdr of a cons on a ground.
use Rattle.std.specs.Prelude.{◌≡◌, ◌≢◌, ◌⊎◌, ◌+◌, ◌/◌, ◌≤◌, ℕ, suc, List, Some, slice_get, Contains}
use Rattle.store_word.specs.Words.{Parts}
use Rattle.store_word.specs.declared.word.CdrCode.TheVariants.{Normal}
use Rattle.store_word.specs.declared.word.Content.{Content}
use Rattle.store_word.specs.declared.word.Content.TheVariants.{HeaderForward}
use Rattle.store_word.specs.declared.sizes.TheConstants.{REGION_WORDS}
use Rattle.lisp_graph.specs.declared.object.Value.{Value}
use Rattle.lisp_graph.specs.declared.object.Value.TheVariants as V
use Rattle.lisp_graph.specs.declared.object.Body.TheVariants.{Cons}
use Rattle.mem_port.specs.Store as Memory
use Rattle.area_space.specs.declared.classes.Origin.TheVariants.{Reserve}
use Rattle.area_space.specs.Table.{Table, chain, live, slot_of}
use Rattle.area_space.specs.Places.{IsEnd}
use Rattle.area_space.specs.Charges.{committed}
use Rattle.transporter.specs.lisp_meaning.State.{Store, object}
use Rattle.transporter.specs.lisp_meaning.Changes.{put_body}
use Rattle.transporter.specs.lisp_meaning.Roles.{RoleMap, Refines, value_of}
use Rattle.obj_layout.specs.Forwards.{word_at, IsFinal}
use Rattle.transporter.specs.lisp_ground.GroundInvariant.{GroundInvariant}
use Rattle.transporter.specs.lisp_meaning.Interpretation.{Interpretation}
use Rattle.transporter.specs.lisp_ground.After.{old_on}
use Rattle.transporter.specs.lisp_ground.Writes.{Within}
use Rattle.transporter.specs.Growth.{Grows, OpensOrStays}
use Rattle.transporter.specs.LiveWordsUnchanged.{LiveWordsUnchanged, LiveWordsUnchangedExcept}
use Rattle.transporter.specs.Marking.{MarksFollow, MarksFollowBut}
use Rattle.transporter.specs.Moving.{FetchMoves, MovesAtMost}
use Rattle.transporter.specs.Settling.{RefersToOld, Settles}
use Rattle.transporter.specs.Writes.{Writes}
use Rattle.cdr_lists.specs.Opening.{OpensIfNeeded}
use Rattle.cdr_lists.specs.Pairs.{first_word, second_word, words_of_pair}
use Rattle.cdr_lists.specs.Reading.{CanRead, IsConsPlace, IsReadable}
use Rattle.cdr_lists.specs.Words.{plain}

-- a part of the cons to which a word refers can become the value of another: the first can be read, the other has a value, and no old address
pub record CanSet (m : Memory.Store) (t : Table) (of value : Parts) : Type 0 where
  pub can : IsReadable m t of
  pub new : Value
  pub new_is : value_of can.it.map.role value.content ≡ Some new
  pub young : RefersToOld t value → ⊥

-- The ground represents other objects by a later map, under which what meant a name still means it. The words placed and the charges in old regions together grow by at most this number.
pub record SetOn (m : Memory.Store) (t : Table) (m' : Memory.Store) (t' : Table) (it : Interpretation) (s' : Store) (more : ℕ) : Type 0 where
  pub map : RoleMap
  pub kept : GroundInvariant m' t' (record it { map = map; store = s' })
  pub refines : Refines it.map.role map.role
  pub work : t'.placed + old_on m' t' s' it.aim map.at ≤ t.placed + old_on m t it.store it.aim it.map.at + more

-- whatever objects the ground represented, it represents them, with the value of what was written in the car of the cons to which the content refers
abbrev pub SetsCar : Memory.Store → Table → Memory.Store → Table → Content → Content → Type 0
SetsCar m t m' t' content written =
    (it : Interpretation) (registers : List Value) (n : ℕ) (car cdr new : Value)
    → CanRead m t it registers content (V.Ref n) → (object it.store n).body ≡ Cons car cdr → value_of it.map.role written ≡ Some new
    → SetOn m t m' t' it (put_body it.store n (Cons new cdr)) 0

-- the same for the cdr; a cell gets the two words for which its charge has paid
abbrev pub SetsCdr : Memory.Store → Table → Memory.Store → Table → Content → Content → Type 0
SetsCdr m t m' t' content written =
    (it : Interpretation) (registers : List Value) (n : ℕ) (car cdr new : Value)
    → CanRead m t it registers content (V.Ref n) → (object it.store n).body ≡ Cons car cdr → value_of it.map.role written ≡ Some new
    → SetOn m t m' t' it (put_body it.store n (Cons car new)) 2

-- the word is stored in the place of the cons to which the content refers, with the cdr code that was there, and no other word is
abbrev pub WritesCar : Memory.Store → Memory.Store → Content → Parts → Type 0
WritesCar m m' content word = (at : ℕ) → IsConsPlace m.words content at → Memory.Stores m m' at (record word { cdr = (word_at m.words at).cdr })

-- if the cons is a pair, the word is stored in its second word, and no other word is stored
abbrev pub WritesCdr : Memory.Store → Memory.Store → Content → Parts → Type 0
WritesCdr m m' content word =
    (at : ℕ) → IsConsPlace m.words content at → (word_at m.words at).cdr ≡ Normal → Memory.Stores m m' (suc at) (record word { cdr = (word_at m.words (suc at)).cdr })

-- no page except that of the place of the cons gets marks without a word that may give them
abbrev pub MarksCar : Memory.Store → Table → Memory.Store → Table → Content → Type 0
MarksCar m t m' t' content = (at : ℕ) → IsConsPlace m.words content at → MarksFollowBut m t m' t' at

-- if the cons is a pair, no page except that of its second word gets marks without a word that may give them; if it is a cell, no page at all does
pub record MarksCdr (m : Memory.Store) (t : Table) (m' : Memory.Store) (t' : Table) (content : Content) : Type 0 where
  pub pair : (at : ℕ) → IsConsPlace m.words content at → (word_at m.words at).cdr ≡ Normal → MarksFollowBut m t m' t' (suc at)
  pub cell : (at : ℕ) → IsConsPlace m.words content at → (word_at m.words at).cdr ≢ Normal → MarksFollow m t m' t'

-- Two words have been written at an address, and then a HEADER-FORWARD to them at that of a cell.
pub record WritesRelay (old new : Memory.Store) (cell at : ℕ) (first second : Parts) : Type 0 where
  pub mid : Memory.Store
  pub pair : Writes old mid at 2 (words_of_pair first second)
  pub first_at : slice_get mid.words at ≡ Some first
  pub second_at : slice_get mid.words (at + 1) ≡ Some second
  pub rest : Memory.Stores mid new cell (plain (HeaderForward at))
  pub forward_at : slice_get new.words cell ≡ Some (plain (HeaderForward at))

-- a cell is at an address: no forward, and no pair
pub record IsCellAt (m : Memory.Store) (at : ℕ) (word : Parts) : Type 0 where
  pub final : IsFinal m.words at
  pub is : word_at m.words at ≡ word
  pub no_pair : word.cdr ≢ Normal

-- A pair of charge 3 is at the used end of the class of a cell, which is charged nothing for it, and a HEADER-FORWARD in the place of the cell leads to it. No other word has changed, and a region was opened for it only if it was needed
pub record LaysPair (m : Memory.Store) (t : Table) (m' : Memory.Store) (t' : Table) (cell : ℕ) (car cdr : Parts) : Type 0 where
  pub room : Table
  pub opens : OpensOrStays t room
  pub area : ℕ
  pub level : ℕ
  pub needed : OpensIfNeeded t room area level 2
  pub class : Contains (chain room (live (slot_of room area level))) (cell / REGION_WORDS)
  pub at : ℕ
  pub end : IsEnd room (slot_of room area level) at 2
  pub commit : t' ≡ record (committed room (slot_of room area level) at 2 0 Reserve) { pages = t'.pages }
  pub first : word_at m'.words at ≡ first_word car
  pub second : word_at m'.words (at + 1) ≡ second_word 3 cdr
  pub forward : word_at m'.words cell ≡ plain (HeaderForward at)
  pub rest : (a : ℕ) → a ≢ cell → (Within at 2 a → ⊥) → word_at m'.words a ≡ word_at m.words a

-- The word of a cell was settled in its place: if it had an old address, what it means was transported, a compact run as a compact run, and nothing else was. Then, over the resulting words and table, the cell was relocated as a pair with another cdr. Except for its own word no used word of a live region has changed
pub record RelaysCell (m : Memory.Store) (t : Table) (m' : Memory.Store) (t' : Table) (cell : ℕ) (cdr : Parts) : Type 0 where
  pub between : Memory.Store
  pub table : Table
  pub moves : FetchMoves m t between table cell
  pub few : MovesAtMost m t between table 1
  pub grows : Grows t table
  pub settled : Settles t table (word_at m.words cell) (word_at between.words cell)
  pub lays : LaysPair between table m' t' cell (word_at between.words cell) cdr
  pub others : LiveWordsUnchangedExcept m t m' t' cell

-- if the cons to which the content refers is a cell, this is done with it
abbrev pub RelaysCdr : Memory.Store → Table → Memory.Store → Table → Content → Parts → Type 0
RelaysCdr m t m' t' content cdr = (at : ℕ) → IsConsPlace m.words content at → (word_at m.words at).cdr ≢ Normal → RelaysCell m t m' t' at cdr

-- the word at an address was settled in its place, and no other used word of a live region has changed
pub record SettlesWord (m : Memory.Store) (t : Table) (m' : Memory.Store) (t' : Table) (at : ℕ) : Type 0 where
  pub settled : Settles t t' (word_at m.words at) (word_at m'.words at)
  pub others : LiveWordsUnchangedExcept m t m' t' at

-- no used word of a live region has changed, except that this one may have been settled
abbrev pub SettlesWordAtMost : Memory.Store → Table → Memory.Store → Table → ℕ → Type 0
SettlesWordAtMost m t m' t' at = LiveWordsUnchanged m t m' t' ⊎ SettlesWord m t m' t' at

-- the cons to which the content refers is a cell, and its word was settled, and no other was
pub record SettlesCell (m : Memory.Store) (t : Table) (m' : Memory.Store) (t' : Table) (content : Content) : Type 0 where
  pub at : ℕ
  pub place : IsConsPlace m.words content at
  pub cell : (word_at m.words at).cdr ≢ Normal
  pub settled : SettlesWord m t m' t' at

-- no used word of a live region has changed, except that the cell's may have been settled
abbrev pub SettlesCellAtMost : Memory.Store → Table → Memory.Store → Table → Content → Type 0
SettlesCellAtMost m t m' t' content = LiveWordsUnchanged m t m' t' ⊎ SettlesCell m t m' t' content
