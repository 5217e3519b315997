use Rattle.std.proofs.Common.{◌-◌, ◌<◌, length, ap, arith, rules}
use Rattle.std.proofs.lemmas.List.{length-append}
use Rattle.trace_text.specs.Commands.{InLimits}
use Rattle.input_verdict.proofs.Buffered.{command_line, command_read, command_runnable}
use Rattle.input_verdict.proofs.judge.command_before_feed.Goals as goal

pub returns-clause-found : goal.returns-clause-found
returns-clause-found c =
    let lead = c.in_ok-rest.ensures in
    let some : 0 < length c.in_ok-rest.rest.now = search rules in
    command_line c.args.world.now c.args.text.now c.read_fast.new.command c.in_ok-rest.rest.now lead _ (omega (arith, ap length lead.is, length-append lead.line c.in_ok-rest.rest.now)) some c.if-rest-ne10.false

pub returns-clause-judged : goal.returns-clause-judged
returns-clause-judged c =
    let lead = c.in_ok-rest.ensures in
    command_read c.args.world.now c.args.text.now c.read_fast.new.command c.in_ok-rest.rest.now lead _ (omega (arith, ap length lead.is, length-append lead.line c.in_ok-rest.rest.now))

pub returns-clause-allowed : goal.returns-clause-allowed
returns-clause-allowed c =
    let lead = c.in_ok-rest.ensures in
    let world = c.args.world.now in
    let limits : InLimits world.space world.areas = search rules in
    command_runnable world c.args.text.now c.read_fast.new.command c.in_ok-rest.rest.now lead (length c.args.text.now - length c.in_ok-rest.rest.now) (omega (arith, ap length lead.is, length-append lead.line c.in_ok-rest.rest.now)) limits c.requires.named
