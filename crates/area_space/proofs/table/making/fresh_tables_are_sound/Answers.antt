use Rattle.area_space.proofs.EmptyTable.{fresh_is}
use Rattle.area_space.proofs.table.making.fresh_tables_are_sound.Goals as goal

pub returns : goal.returns
returns c = fresh_is
