use Rattle.std.proofs.Common.{◌≡◌, false, sym, ◌∙◌}
use Rattle.world_text.specs.Reader.{is_closed}
use Rattle.input_verdict.proofs.judge.line_in.Goals as goal

pub returns-else-is_closed-clause-judged : goal.returns-else-is_closed-clause-judged
returns-else-is_closed-clause-judged c =
    let is_open : is_closed c.args.place.now.judge.builder.part ≡ false = sym c.is_closed.ensures ∙ c.if-is_closed.false in
    rw is_open (c.world_line.ensures.judged c.args.command.now)
