use Rattle.std.proofs.Common.{arith}
use Rattle.trace_text.proofs.Digits.{one_spaced, three_spaced, two_spaced}
use Rattle.trace_text.proofs.front.short_and_space.Goals as goal

pub returns-then-second-eq32 : goal.returns-then-second-eq32
returns-then-second-eq32 c =
    let first = c.if-not-is_ascii_digit.ensures.cases in
    one_spaced c.args.text.now c.from-one.result (omega arith) first.0 first.1 c.from-one.ensures c.if-second-eq32.true

pub returns-then-third-eq32 : goal.returns-then-third-eq32
returns-then-third-eq32 c =
    let first = c.if-not-is_ascii_digit.ensures.cases in
    let second = c.if-not-is_ascii_digit-2.ensures.cases in
    two_spaced c.args.text.now _ (omega arith) (omega (arith, first)) first.1 second.0 second.1 (omega arith) c.if-third-eq32.true

pub returns : goal.returns
returns c =
    let first = c.if-not-is_ascii_digit.ensures.cases in
    let second = c.if-not-is_ascii_digit-2.ensures.cases in
    let third = c.if-not-is_ascii_digit-3.ensures.cases in
    three_spaced c.args.text.now _ (omega arith) (omega (arith, first)) first.1 second.0 second.1 third.0 third.1 (omega arith) c.if-fourth-ne32.false
