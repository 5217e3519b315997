use Rattle.area_space.proofs.EmptyTable.{room_from}
use Rattle.area_space.proofs.laws.accepted_worlds_have_room.Goals as goal

pub returns : goal.returns
returns c = room_from
