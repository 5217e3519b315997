use Rattle.std.proofs.Common.{◌/◌}
use Rattle.area_space.proofs.table.RegionTable.is_old.Goals as goal

pub returns-else-is_collecting : goal.returns-else-is_collecting
returns-else-is_collecting c = ((λ t. absurd (let f = c.if-is_collecting.false in cc)), λ old. absurd (c.is_collecting.ensures.idle c.if-is_collecting.false (c.args.at / 4096) old))
