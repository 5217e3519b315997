use Rattle.std.proofs.Common.{◌-◌, Some, ap}
use Rattle.replay_run.proofs.GeneratedRun.{ran_made}
use Rattle.replay_run.proofs.exercise.run_made.Goals as goal

pub returns-clause-made : goal.returns-clause-made
returns-clause-made g c =
    let e = c.answer_input-ended.ensures in
    ran_made c.args.number c.args.count c.requires.at_most (g.E.Engine.stands c.answer_input-ended.new.engine) (g.E.Engine.loaded c.answer_input-ended.new.engine) _ (g.E.Engine.faults c.answer_input-ended.new.engine - g.E.Engine.faults c.args.engine.now)
    c.tally.result c.new-sink.result c.answer_input-ended.new.sink c.new-sink.ensures c.tally.ensures _ _ _ c.answer_input-ended.result (ap Some c.new-maker.ensures) e.read e.sink.rose e.ran
