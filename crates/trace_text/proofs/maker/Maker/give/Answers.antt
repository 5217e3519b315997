use Rattle.std.proofs.Common.{◌≤◌, ◌+◌, length, take, sym, ◌∙◌, arith}
use Rattle.trace_text.proofs.GeneratedLines.{made_given, made_none}
use Rattle.trace_text.proofs.maker.Maker.give.Goals as goal

pub returns-clause-given : goal.returns-clause-given
returns-clause-given c =
    let m = c.refill.new.self in
    sym c.refill.ensures.unchanged ∙ made_given m.line m.at c.fill-count.result m.count m.state m.next m.lines (take c.fill-count.result c.fill-count.new.into) c.fill-count.ensures.given

pub returns-clause-end : goal.returns-clause-end
returns-clause-end c = λ none room.
    let m = c.refill.new.self in
    let all : length m.line ≤ m.at = omega (arith, c.fill-count.ensures.count) in
    made_none m.line (m.at + c.fill-count.result) m.count m.state m.next m.lines (omega arith) (c.refill.ensures.some all)
