use Rattle.std.proofs.Common.{arith}
use Rattle.trace_text.proofs.Digits.{one_lead, two_lead}
use Rattle.trace_text.proofs.front.leading_short.Goals as goal

pub returns-then-not-is_ascii_digit-2 : goal.returns-then-not-is_ascii_digit-2
returns-then-not-is_ascii_digit-2 c =
    let first = c.if-not-is_ascii_digit.ensures.cases in
    one_lead c.args.text.now c.from-tens.result (omega arith) first.0 first.1 c.from-tens.ensures

pub returns : goal.returns
returns c =
    let first = c.if-not-is_ascii_digit.ensures.cases in
    let second = c.if-not-is_ascii_digit-2.ensures.cases in
    two_lead c.args.text.now _ (omega arith) (omega (arith, first)) first.1 second.0 second.1 (omega arith)
