use Rattle.std.proofs.Common.{[], List, refl, subst}
use Rattle.line_input.specs.declared.statuses.status.RunError.TheVariants as T
use Rattle.band_store.specs.Store as store_specs
use Rattle.band_run.specs.declared.reading.command.BandCommand.{BandCommand}
use Rattle.band_run.specs.Answers.{Answers}
use Rattle.band_run.specs.Steps.{RanTo}
use Rattle.band_run.proofs.CommandSteps.{answers_of, going_start}
use Rattle.band_run.proofs.RunEnds.{finished, finished_runs, told, told_runs}
use Rattle.band_run.proofs.input.answer_commands.Goals as goal

pub returns-in-Err-clause-ran : goal.returns-in-Err-clause-ran
returns-in-Err-clause-ran g c = λ i b says.
    let D = g.D.BandDisk in
    let none = answers_of D.bytes D.space D.images D.clock D.images_since D.faults D.changes g.met.D.BandDisk.only_now c.args.disk.now c.args.disk.now store_specs.closed [] [] []
    (going_start D.bytes D.space D.images D.clock D.images_since D.faults D.changes g.met.D.BandDisk.only_now c.args.disk.now store_specs.closed refl) in
    told (Answers D.bytes D.space D.images D.clock D.images_since D.faults D.changes c.args.disk.now c.args.disk.now) ⊥ i b T.Memory c.report.result tt (λ e. absurd (cc (e))) none c.report.ensures.written

pub returns-in-Err-clause-runs : goal.returns-in-Err-clause-runs
returns-in-Err-clause-runs g c = told_runs c.report.result c.report.ensures.written

pub returns-clause-ran : goal.returns-clause-ran
returns-clause-ran g c = λ i b says.
    let D = g.D.BandDisk in
    let answers = Answers D.bytes D.space D.images D.clock D.images_since D.faults D.changes c.args.disk.now c.run-outcome.new.disk in
    finished answers ⊥ i b (g.K.Sink.stands c.args.sink.now) (g.K.Sink.stands c.run-outcome.new.sink) (g.K.Sink.stands c.finish.new.sink) c.run-outcome.new.buffer.pending c.args.commands.now c.run-outcome.result c.finish.result says
    (subst (λ (commands : List BandCommand). RanTo answers commands (g.K.Sink.stands c.args.sink.now) (g.K.Sink.stands c.run-outcome.new.sink) c.run-outcome.new.buffer.pending c.run-outcome.result) c.as_slice.ensures c.run-outcome.ensures.ran) c.finish.ensures.written

pub returns-clause-runs : goal.returns-clause-runs
returns-clause-runs g c =
    let D = g.D.BandDisk in
    finished_runs (Answers D.bytes D.space D.images D.clock D.images_since D.faults D.changes c.args.disk.now c.run-outcome.new.disk) (g.K.Sink.stands c.args.sink.now) (g.K.Sink.stands c.run-outcome.new.sink) (g.K.Sink.stands c.finish.new.sink) c.run-outcome.new.buffer.pending c.as_slice.result.now c.run-outcome.result c.finish.result c.run-outcome.ensures.ran c.finish.ensures.written
