use Rattle.lisp_ground.proofs.words.PlaceRoom.{new_room, moved_room, spare_room}
use Rattle.lisp_ground.proofs.changes.places_have_room.Goals as goal

pub returns : goal.returns
returns c = record { new = new_room; moved = moved_room; spare = spare_room }
