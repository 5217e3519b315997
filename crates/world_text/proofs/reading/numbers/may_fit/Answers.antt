use Rattle.world_text.proofs.NumberSizes.{too_long}
use Rattle.world_text.proofs.reading.numbers.may_fit.Goals as goal

pub returns-then-word-gt10-clause-none : goal.returns-then-word-gt10-clause-none
returns-then-word-gt10-clause-none c = λ same low high small. too_long low high c.args.word.now c.if-word-gt10.true small
