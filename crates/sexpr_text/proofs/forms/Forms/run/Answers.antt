use Rattle.std.proofs.Common.{Result, Ok}
use Rattle.std.proofs.lemmas.Result.{err_from_is_err_and}
use Rattle.sexpr_text.specs.declared.fault.SexprFault.{SexprFault}
use Rattle.sexpr_text.specs.Reading.{IsFault}
use Rattle.sexpr_text.specs.Tasks.{AllLead, TaskState, state_of}
use Rattle.sexpr_text.proofs.RemainingPieces.{passed_on}
use Rattle.sexpr_text.proofs.StepLaws.{step_fails, step_leads, step_made}
use Rattle.sexpr_text.proofs.forms.Forms.run.Goals as goal

pub loop-task-preserved : goal.loop-task-preserved
loop-task-preserved c =
    let items = c.loop-task.self.tasks.items in
    let before = c.pop.new.self.items in
    let is = c.in-Some.ensures.items in
    let old = state_of c.loop-task.self in
    let new = state_of c.step.new.self in (
      λ after lead. step_leads items before c.step.new.self.tasks.items c.in-Some.task old new after is c.in_ok-step.ensures.ok (c.loop-task.invariant.0 after lead),
      step_made items before c.step.new.self.tasks.items c.in-Some.task old new is c.in_ok-step.ensures.ok c.loop-task.invariant.1,
    )

pub returns-in_err-step-clause-err : goal.returns-in_err-step-clause-err
returns-in_err-step-clause-err c =
    let p = err_from_is_err_and c.from_residual.result c.from_residual.ensures.1 in
    let fault = c.in_err-step.field-0.0 in
    let P : SexprFault → Type 0 = λ fault. (after : Result TaskState SexprFault) → AllLead c.args.self.now.tasks.items (Ok (state_of c.args.self.now)) after → IsFault fault after in
    passed_on c.from_residual.result fault P p.0 p.1 p.2
    (λ after lead. step_fails fault c.loop-task.self.tasks.items c.pop.new.self.items c.in-Some.task (state_of c.loop-task.self) after c.in-Some.ensures.items c.in_err-step.ensures.err (c.loop-task.invariant.0 after lead))
