use Rattle.std.proofs.Common.{◌-◌, Err}
use Rattle.replay_run.proofs.LastLine.{ran_finish}
use Rattle.inside_run.proofs.ShownMachines.{shows_nothing, shows_stopped, shows_whole}
use Rattle.inside_run.proofs.top.answer_shown.Goals as goal

pub returns-in-Err-clause-ran : goal.returns-in-Err-clause-ran
returns-in-Err-clause-ran g c = shows_nothing (g.S.Source.left c.args.source.now) c.args.machine.now.heap c.args.machine.now.faults c.report.result (c.idle_has_no_world.ensures c.requires) c.report.ensures.written

pub returns-in-Err-new-clause-ran : goal.returns-in-Err-new-clause-ran
returns-in-Err-new-clause-ran g c = shows_nothing (g.S.Source.left c.args.source.now) c.args.machine.now.heap c.args.machine.now.faults c.report-in-Err-new.result (c.idle_has_no_world.ensures c.requires) c.report-in-Err-new.ensures.written

pub returns-in-Ok-run_trace-clause-ran : goal.returns-in-Ok-run_trace-clause-ran
returns-in-Ok-run_trace-clause-ran g c =
    let machine = c.run_trace.new.engine in
    rw c.finish_shown.ensures.unchanged (shows_whole machine.heap (machine.faults - c.args.machine.now.faults) c.run_trace.new.buffer.pending c.in-Ok-run_trace.field-0 c.finish_shown.result c.in-Ok-run_trace.ensures.ran c.finish_shown.ensures.written)

pub returns-clause-ran : goal.returns-clause-ran
returns-clause-ran g c =
    let machine = c.run_trace.new.engine in
    let stop = c.in-Err-run_trace.stop in
    let e = c.in-Err-run_trace.ensures in
    let status = c.finish.result in
    shows_stopped _ _ machine.heap (machine.faults - c.args.machine.now.faults) c.run_trace.new.buffer.pending stop status c.finish.ensures.written
    (ran_finish c.args.machine.now.faults machine.faults (Err stop) status e.source.rose e.swap.rose e.ran c.finish.ensures.written)
