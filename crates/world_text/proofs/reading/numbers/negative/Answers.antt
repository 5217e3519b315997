use Rattle.std.proofs.Common.{arith}
use Rattle.std.proofs.lemmas.Int.{ints}
use Rattle.world_text.proofs.reading.numbers.negative.Goals as goal

pub returns : goal.returns
returns c = omega (arith, ints)
