-- There is room in the state of each heap.
use Rattle.word_graph.proofs.lisp_ground.words.PlaceRoom.{moved_room, new_room, spare_room}
use Rattle.lisp_heap.specs.HeapView.{store_of}
use Rattle.lisp_heap.specs.Room.{HeapsArePlaceable, MovedHasPlace, NewHasPlace, SpareHasPlace}
use Rattle.lisp_heap.proofs.Accounts.{area_known}
use Rattle.word_graph.specs.lisp_meaning.Interpretation.{interpretation}

pub placeable : HeapsArePlaceable
placeable heap s st = let x = st.represents.represents.kept in record { room = x.room; ground = x.ground; named = x.named }

pub new_place : NewHasPlace
new_place heap s st area words charge low fits left =
    new_room (store_of heap.memory) heap.table (interpretation st.map s) st.represents.represents.kept area words charge (area_known heap s st area low) fits left

pub moved_place : MovedHasPlace
moved_place heap s st area words charge level low fits level_low charged =
    moved_room (store_of heap.memory) heap.table (interpretation st.map s) st.represents.represents.kept area words charge level (area_known heap s st area low) fits level_low charged

pub spare_place : SpareHasPlace
spare_place heap s st area words level low level_low spare =
    spare_room (store_of heap.memory) heap.table (interpretation st.map s) st.represents.represents.kept area words level (area_known heap s st area low) level_low spare
