use Rattle.std.proofs.Common.{[], Err, Ok, refl}
use Rattle.band_store.specs.Store as store_specs
use Rattle.band_run.specs.Answers.{Answers}
use Rattle.band_run.proofs.CommandSteps.{answers_of, going_start}
use Rattle.band_run.proofs.RunEnds.{ran_all, runs_off, runs_unread, told, writes_as}
use Rattle.band_run.proofs.input.answer_input.Goals as goal

pub returns-in-Err-clause-ran : goal.returns-in-Err-clause-ran
returns-in-Err-clause-ran g c =
    let D = g.D.BandDisk in
    let answers = Answers D.bytes D.space D.images D.clock D.images_since D.faults D.changes c.args.disk.now c.args.disk.now in
    let none = answers_of D.bytes D.space D.images D.clock D.images_since D.faults D.changes g.met.D.BandDisk.only_now c.args.disk.now c.args.disk.now store_specs.closed [] [] []
    (going_start D.bytes D.space D.images D.clock D.images_since D.faults D.changes g.met.D.BandDisk.only_now c.args.disk.now store_specs.closed refl) in
    let read = c.in-Err.ensures.judged in
    ran_all answers c.report.result (Err c.in-Err.trouble) read (told answers _ read.i read.b c.in-Err.trouble c.report.result read.reads c.in-Err.ensures.read none c.report.ensures.written)

pub returns-in-Ok-clause-ran : goal.returns-in-Ok-clause-ran
returns-in-Ok-clause-ran g c =
    let D = g.D.BandDisk in
    let answers = Answers D.bytes D.space D.images D.clock D.images_since D.faults D.changes c.args.disk.now c.answer_commands.new.disk in
    let read = c.in-Ok.ensures.judged in
    ran_all answers c.answer_commands.result (Ok c.in-Ok.commands) read (writes_as {P = ⊥} answers read.i read.b c.answer_commands.result (λ e. absurd e) (c.answer_commands.ensures.ran read.i read.b read.reads))

pub returns-in-Ok-clause-read : goal.returns-in-Ok-clause-read
returns-in-Ok-clause-read g c = runs_unread c.answer_commands.result _ c.answer_commands.ensures.runs

pub returns-in-Ok-clause-unchanged : goal.returns-in-Ok-clause-unchanged
returns-in-Ok-clause-unchanged g c = runs_off c.answer_commands.result _ c.answer_commands.ensures.runs
