use Rattle.std.proofs.Common.{ap, slice_index_or}
use Rattle.trace_text.proofs.DigitPairs.{row}
use Rattle.trace_text.proofs.digit_pairs.two_digits.Goals as goal

pub returns-clause-first : goal.returns-clause-first
returns-clause-first c = ap (λ pair. slice_index_or pair 0 0) (row _ c.args.number c.requires)

pub returns-clause-second : goal.returns-clause-second
returns-clause-second c = ap (λ pair. slice_index_or pair 1 0) (row _ c.args.number c.requires)
