use Rattle.area_space.proofs.BitLaws.{sets_bit}
use Rattle.area_space.proofs.bits.set_bit.Goals as goal

pub returns : goal.returns
returns c = sets_bit c.args.bits.now c.args.at c.requires
