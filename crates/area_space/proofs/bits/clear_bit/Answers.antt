use Rattle.area_space.proofs.BitLaws.{clears_bit}
use Rattle.area_space.proofs.bits.clear_bit.Goals as goal

pub returns : goal.returns
returns c = clears_bit c.args.bits.now c.args.at c.requires
