use Rattle.std.proofs.Common.{◌++◌, sym, ap, ◌∙◌}
use Rattle.std.proofs.lemmas.Fmt.{decimal_digit}
use Rattle.trace_text.proofs.DigitPairs.{two}
use Rattle.trace_text.proofs.room.ReplyText.push_number.Goals as goal

pub returns-then-number-lt10-clause-value : goal.returns-then-number-lt10-clause-value
returns-then-number-lt10-clause-value c = c.push.ensures ∙ ap (λ digits. c.args.self.now ++ digits) (sym (decimal_digit c.args.number c.if-number-lt10.true))

pub returns-then-number-lt100-clause-value : goal.returns-then-number-lt100-clause-value
returns-then-number-lt100-clause-value c =
    let digits = c.two_digits-tens.ensures in
    c.push-then-number-lt100.ensures ∙ ap (λ digits. c.args.self.now ++ digits)
    (two c.args.number _ _ c.if-number-lt10.false c.if-number-lt100.true digits.first digits.second)
