use Rattle.std.proofs.Common.{Ok, rules}
use Rattle.world_text.specs.Next.{Gives}
use Rattle.trace_text.specs.declared.read.LineKind.TheVariants as kinds
use Rattle.trace_text.specs.Commands.{said_by, trace_line}
use Rattle.trace_text.proofs.NamedLevels.{line_levels}
use Rattle.trace_text.proofs.LineMeanings.{given_line}
use Rattle.trace_text.proofs.read.read_request.Goals as goal

pub returns-then-is_frequent-clause-ok : goal.returns-then-is_frequent-clause-ok
returns-then-is_frequent-clause-ok c =
    given_line c.args.space.now c.args.areas.now c.args.line.now (Ok kinds.Command) c.is_frequent.new.request c.requires (c.is_frequent.ensures c.if-is_frequent.true)

pub returns-then-is_frequent-clause-levels : goal.returns-then-is_frequent-clause-levels
returns-then-is_frequent-clause-levels c named =
    line_levels c.args.space.now c.args.areas.now c.args.line.now (Ok kinds.Command) c.is_frequent.new.request
    (given_line c.args.space.now c.args.areas.now c.args.line.now (Ok kinds.Command) c.is_frequent.new.request c.requires (c.is_frequent.ensures c.if-is_frequent.true) named)

pub returns-clause-ok : goal.returns-clause-ok
returns-clause-ok c =
    let is : Gives (λ kind. said_by kind c.line_in.new.command) c.line_in.result (trace_line c.args.space.now c.args.areas.now c.args.line.now) = search rules in
    given_line c.args.space.now c.args.areas.now c.args.line.now c.line_in.result c.line_in.new.command c.requires is

pub returns-clause-levels : goal.returns-clause-levels
returns-clause-levels c named =
    let is : Gives (λ kind. said_by kind c.line_in.new.command) c.line_in.result (trace_line c.args.space.now c.args.areas.now c.args.line.now) = search rules in
    line_levels c.args.space.now c.args.areas.now c.args.line.now c.line_in.result c.line_in.new.command
    (given_line c.args.space.now c.args.areas.now c.args.line.now c.line_in.result c.line_in.new.command c.requires is named)
