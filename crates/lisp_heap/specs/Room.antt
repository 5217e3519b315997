-- What room there is in the state of each heap.
use Rattle.std.specs.Prelude.{ℕ, suc, ◌+◌, ◌*◌, ◌<◌, ◌≤◌, length}
use Rattle.area_space.specs.Ground.{IsGround, NamesNoFree}
use Rattle.area_space.specs.Room.{RoomRule, words_of_area}
use Rattle.area_space.specs.Table.{quota_of}
use Rattle.word_graph.specs.lisp_meaning.State.{State, rule_of}
use Rattle.word_graph.specs.lisp_meaning.Charges.{account_now}
use Rattle.word_graph.specs.lisp_meaning.ChargesIn.{spares_in}
use Rattle.word_graph.specs.lisp_meaning.Classes.{classes, in_class}
use Rattle.word_graph.specs.lisp_ground.Image.{ground_image}
use Rattle.lisp_heap.specs.HeapView.{HeapView, store_of}
use Rattle.lisp_heap.specs.Stands.{Stands}

-- what placing an object requires of its memory and its table
pub record IsPlaceable (heap : HeapView) : Type 0 where
  pub room : RoomRule heap.table
  pub ground : IsGround (store_of heap.memory) heap.table
  pub named : NamesNoFree (store_of heap.memory) heap.table

abbrev pub HeapsArePlaceable : Type 0
HeapsArePlaceable = (heap : HeapView) (s : State) → Stands heap s → IsPlaceable heap

-- The used words of an area and those to be placed are at most twice its quota, so a place is found for them:
-- those of a new object that the quota allows,
abbrev pub NewHasPlace : Type 0
NewHasPlace = (heap : HeapView) (s : State) → Stands heap s
    → (area words charge : ℕ) → area < length heap.table.kinds → words ≤ charge → account_now s area + charge ≤ (rule_of s.areas area).quota → words_of_area heap.table area + words ≤ 2 * quota_of heap.table area

-- those that a transport moves out of an old class that is charged for them,
abbrev pub MovedHasPlace : Type 0
MovedHasPlace = (heap : HeapView) (s : State) → Stands heap s
    → (area words charge level : ℕ) → area < length heap.table.kinds → words ≤ charge → level < suc s.space.levels → charge ≤ (ground_image (store_of heap.memory) heap.table).old_charge area level
    → words_of_area heap.table area + words ≤ 2 * quota_of heap.table area

-- and the two of a cell that becomes a pair
abbrev pub SpareHasPlace : Type 0
SpareHasPlace = (heap : HeapView) (s : State) (st : Stands heap s)
    → (area words level : ℕ) → area < length heap.table.kinds → level < suc s.space.levels → words ≤ spares_in s.store st.map (classes (ground_image (store_of heap.memory) heap.table)) (in_class area level)
    → words_of_area heap.table area + words ≤ 2 * quota_of heap.table area

-- In each state that a heap represents there is room for a new object, for objects that move, and for a cell that becomes a pair.
pub record HeapsHaveRoom : Type 0 where
  pub ground : HeapsArePlaceable
  pub new : NewHasPlace
  pub moved : MovedHasPlace
  pub spare : SpareHasPlace
