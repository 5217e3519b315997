use Rattle.std.proofs.Common.{◌-◌, inl, inr, Some, Err, ap, arith, sym, ◌∙◌}
use Rattle.command_words.specs.declared.mode.Mode.{Mode}
use Rattle.line_input.specs.declared.statuses.status.RunStop.TheVariants.{Tell}
use Rattle.line_input.specs.declared.statuses.status.RunError.TheVariants.{Memory}
use Rattle.line_input.specs.Statuses.{code}
use Rattle.outer_ports.specs.Ports.{Rose}
use Rattle.paged_machine.specs.Holding.{HasReading, StandsFor}
use Rattle.replay_run.proofs.CompleteRuns.{breaks_off, completes, runs_out_early}
use Rattle.replay_run.proofs.RepresentedStates.{exercised_as, means_for, ran_as}
use Rattle.replay_run.proofs.LastLine.{failed_read, failed_swap, failed_write, ran_finish, ran_nothing}
use Rattle.replay_run.proofs.GeneratedRun.{exercised_at, exercised_nothing}
use Rattle.replay_run.proofs.UnreadArguments.{unread_file}
use Rattle.replay_run.proofs.top.run_lispm.Goals as goal

pub returns-in-Ok-Some-Replay-clause-ran : goal.returns-in-Ok-Some-Replay-clause-ran
returns-in-Ok-Some-Replay-clause-ran g c = λ _.
    let status = c.answer_input.result in
    let heap = c.answer_input.new.engine.heap in
    let r = ran_as (StandsFor heap) (HasReading heap) (means_for heap) _ _ _ _ _ _ _ status c.answer_input.ensures.ran in
    (status, c.code.ensures, r.0, r.1, r.2, r.3)

pub returns-in-Err-clause-ran : goal.returns-in-Err-clause-ran
returns-in-Err-clause-ran g c = λ _.
    let r = ran_finish c.args.machine.now.faults c.args.machine.now.faults (Err (Tell Memory)) c.report-in-Err.result (λ e. absurd (cc (e))) (λ e. absurd (cc (e)))
    (ran_nothing (g.S.Source.left c.args.source.now) (HasReading c.args.machine.now.heap) {source_rose = Rose (g.S.Source.faults c.args.source.now) (g.S.Source.faults c.args.source.now)} (c.args.machine.now.faults - c.args.machine.now.faults) (omega arith) (c.idle_has_no_world.ensures c.requires)) c.report-in-Err.ensures.written in
    (c.report-in-Err.result, c.code-in-Err.ensures, r.0, r.1, r.2, r.3)

pub returns-in-Ok-Some-Exercise-clause-exercised : goal.returns-in-Ok-Some-Exercise-clause-exercised
returns-in-Ok-Some-Exercise-clause-exercised g c = λ number count is.
    let asked = c.in-Ok-Some-Exercise in
    let heap = c.exercise.new.engine.heap in (
      c.exercise.result,
      c.code-in-Ok-Some-Exercise.ensures,
      exercised_at number count c.exercise.result (ap (λ (mode : Mode). Some mode) (sym asked.field-0-0-is) ∙ sym asked.field-0-is ∙ asked.ensures.value ∙ is)
          (exercised_as (StandsFor heap) (HasReading heap) (means_for heap) _ _ _ _ _ _ c.exercise.result c.exercise.ensures.exercised),
    )

pub returns-in-Err-clause-exercised : goal.returns-in-Err-clause-exercised
returns-in-Err-clause-exercised g c = λ number count _. (
  c.report-in-Err.result,
  c.code-in-Err.ensures,
  exercised_nothing (HasReading c.args.machine.now.heap) (c.args.machine.now.faults - c.args.machine.now.faults) c.report-in-Err.result (omega arith) (c.idle_has_no_world.ensures c.requires) c.report-in-Err.ensures.written,
)

pub returns-in-Err-clause-asked : goal.returns-in-Err-clause-asked
returns-in-Err-clause-asked g c = λ mode _. (c.report-in-Err.result, c.code-in-Err.ensures, unread_file mode (g.S.Source.left c.args.source.now) c.report-in-Err.result c.report-in-Err.ensures.written)

pub returns-in-Ok-Some-Replay-clause-complete : goal.returns-in-Ok-Some-Replay-clause-complete
returns-in-Ok-Some-Replay-clause-complete g c = λ i asks tells whole none_read none_write none_swap.
    let e = c.answer_input.ensures in
    let status = c.answer_input.result in
    completes c.code.result none_read none_write none_swap (λ is. e.read (failed_read status (sym c.code.ensures ∙ is))) (λ is. e.sink.rose (failed_write status (sym c.code.ensures ∙ is)))
    (λ is. e.swap.rose (failed_swap status (sym c.code.ensures ∙ is))) _ _ _ _ _ status i c.code.ensures e.ran tells whole

pub returns-in-Ok-Some-Replay-clause-refused : goal.returns-in-Ok-Some-Replay-clause-refused
returns-in-Ok-Some-Replay-clause-refused g c = λ i trouble asks tells breaks none_read none_write none_swap.
    let e = c.answer_input.ensures in
    let status = c.answer_input.result in
    breaks_off c.code.result none_read none_write none_swap (λ is. e.read (failed_read status (sym c.code.ensures ∙ is))) (λ is. e.sink.rose (failed_write status (sym c.code.ensures ∙ is)))
    (λ is. e.swap.rose (failed_swap status (sym c.code.ensures ∙ is))) _ _ _ _ _ status i trouble c.code.ensures e.ran tells breaks

pub returns-in-Ok-Some-Replay-clause-early : goal.returns-in-Ok-Some-Replay-clause-early
returns-in-Ok-Some-Replay-clause-early g c = λ i asks tells others five.
    runs_out_early _ _ _ _ _ c.code.result c.answer_input.result i c.code.ensures c.answer_input.ensures.ran tells others five

pub returns-in-Err-clause-refused : goal.returns-in-Err-clause-refused
returns-in-Err-clause-refused g c = λ i trouble asks tells breaks none_read none_write none_swap.
    elim c.report-in-Err.ensures.written [ inl f ↦ inr (c.code-in-Err.ensures ∙ ap code f.0) | inr f ↦ absurd (none_write (c.report-in-Err.ensures.write f.0)) ]

pub returns-in-Err-clause-early : goal.returns-in-Err-clause-early
returns-in-Err-clause-early g c = λ i asks tells others five.
    let status = c.report-in-Err.result in
    let ran = ran_finish {source_rose = ⊥} c.args.machine.now.faults c.args.machine.now.faults (Err (Tell Memory)) status (λ e. absurd (cc (e))) (λ e. absurd (cc (e)))
    (ran_nothing (g.S.Source.left c.args.source.now) (HasReading c.args.machine.now.heap) (c.args.machine.now.faults - c.args.machine.now.faults) (omega arith) (c.idle_has_no_world.ensures c.requires)) c.report-in-Err.ensures.written in
    runs_out_early _ _ _ _ _ c.code-in-Err.result status i c.code-in-Err.ensures ran tells others five

pub returns-in-Ok-Some-Replay-clause-unopened : goal.returns-in-Ok-Some-Replay-clause-unopened
returns-in-Ok-Some-Replay-clause-unopened g c = λ asks i tells none. c.answer_input.ensures.unopened i tells none

pub returns-in-Ok-Some-Replay-clause-unread : goal.returns-in-Ok-Some-Replay-clause-unread
returns-in-Ok-Some-Replay-clause-unread g c = λ asks i b tells gave none is. c.answer_input.ensures.unread i b tells gave none (failed_read c.answer_input.result (sym c.code.ensures ∙ is))
