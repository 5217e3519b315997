use Rattle.lisp_heap.proofs.Room.{moved_place, new_place, placeable, spare_place}
use Rattle.lisp_heap.proofs.laws.heaps_have_room.Goals as goal

pub returns : goal.returns
returns c = record { ground = placeable; new = new_place; moved = moved_place; spare = spare_place }
