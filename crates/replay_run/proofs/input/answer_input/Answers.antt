use Rattle.std.proofs.Common.{◌-◌, Err, arith}
use Rattle.line_input.specs.declared.statuses.status.RunStop.TheVariants.{Tell}
use Rattle.line_input.specs.declared.statuses.status.RunError.TheVariants.{Memory}
use Rattle.replay_run.proofs.LastLine.{ran_finish, ran_nothing, read_failed}
use Rattle.replay_run.proofs.input.answer_input.Goals as goal

pub returns-in-Err-clause-ran : goal.returns-in-Err-clause-ran
returns-in-Err-clause-ran g c =
    ran_finish (g.E.Engine.faults c.args.engine.now) (g.E.Engine.faults c.args.engine.now) (Err (Tell Memory)) c.report.result (λ e. absurd (cc (e))) (λ e. absurd (cc (e)))
    (ran_nothing (g.S.Source.left c.args.source.now) (g.E.Engine.stands c.args.engine.now) (g.E.Engine.faults c.args.engine.now - g.E.Engine.faults c.args.engine.now) (omega arith) (c.idle_has_no_world.ensures c.requires)) c.report.ensures.written

pub returns-in-Err-new-clause-ran : goal.returns-in-Err-new-clause-ran
returns-in-Err-new-clause-ran g c =
    ran_finish (g.E.Engine.faults c.args.engine.now) (g.E.Engine.faults c.args.engine.now) (Err (Tell Memory)) c.report-in-Err-new.result (λ e. absurd (cc (e))) (λ e. absurd (cc (e)))
    (ran_nothing (g.S.Source.left c.args.source.now) (g.E.Engine.stands c.args.engine.now) (g.E.Engine.faults c.args.engine.now - g.E.Engine.faults c.args.engine.now) (omega arith) (c.idle_has_no_world.ensures c.requires)) c.report-in-Err-new.ensures.written

pub returns-clause-ran : goal.returns-clause-ran
returns-clause-ran g c = ran_finish (g.E.Engine.faults c.args.engine.now) (g.E.Engine.faults c.run_trace-outcome.new.engine) c.run_trace-outcome.result c.finish.result c.run_trace-outcome.ensures.source.rose c.run_trace-outcome.ensures.swap.rose c.run_trace-outcome.ensures.ran c.finish.ensures.written

pub returns-clause-unread : goal.returns-clause-unread
returns-clause-unread g c = λ i b tells gave none is.
    c.run_trace-outcome.ensures.unread i b tells gave none (read_failed _ _ _ c.run_trace-outcome.result c.finish.result c.finish.ensures.written is)
