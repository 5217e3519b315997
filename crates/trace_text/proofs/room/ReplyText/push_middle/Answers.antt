use Rattle.std.proofs.Common.{◌++◌, refl, ap, ◌∙◌}
use Rattle.trace_text.proofs.DigitPairs.{three, four, five}
use Rattle.trace_text.proofs.room.ReplyText.push_middle.Goals as goal

pub returns-then-front-lt10-clause-value : goal.returns-then-front-lt10-clause-value
returns-then-front-lt10-clause-value c =
    let last = c.two_digits-tens.ensures in
    c.push.ensures ∙ ap (λ digits. c.args.self.now ++ digits)
    (three c.args.number _ _ _ c.requires.at_least c.requires.in_range c.if-front-lt10.true refl last.first last.second)

pub returns-then-front-lt100-clause-value : goal.returns-then-front-lt100-clause-value
returns-then-front-lt100-clause-value c =
    let last = c.two_digits-tens.ensures in
    let front = c.two_digits-thousands.ensures in
    c.push-then-front-lt100.ensures ∙ ap (λ digits. c.args.self.now ++ digits)
    (four c.args.number _ _ _ _ c.requires.at_least c.requires.in_range c.if-front-lt10.false c.if-front-lt100.true front.first front.second last.first last.second)

pub returns-clause-value : goal.returns-clause-value
returns-clause-value c =
    let last = c.two_digits-tens.ensures in
    let front = c.two_digits-thousands.ensures in
    c.push-2.ensures ∙ ap (λ digits. c.args.self.now ++ digits)
    (five c.args.number _ _ _ _ _ c.requires.in_range c.if-front-lt100.false refl front.first front.second last.first last.second)
