use Rattle.std.proofs.Common.{rules}
use Rattle.std.proofs.lemmas.Result.{err_from_is_err_and}
use Rattle.sexpr_text.specs.declared.task.ParseTask.TheVariants.{Conses}
use Rattle.sexpr_text.specs.Tasks.{Fails, state_of}
use Rattle.sexpr_text.specs.Begun.{beginning}
use Rattle.sexpr_text.proofs.RemainingPieces.{passed_on}
use Rattle.sexpr_text.proofs.StepLaws.{cons_fails, cons_steps, next_name}
use Rattle.sexpr_text.proofs.forms.Forms.cons.Goals as goal

pub returns-in_err-first-clause-err : goal.returns-in_err-first-clause-err
returns-in_err-first-clause-err c =
    let p = err_from_is_err_and c.from_residual.result c.from_residual.ensures.1 in
    let old = state_of c.args.self.now in
    passed_on c.from_residual.result c.in_err-first.field-0.0 (Fails (Conses c.args.area c.args.bracket) old) p.0 p.1 p.2
    (cons_fails c.in_err-first.field-0.0 c.args.area c.args.bracket old (next_name c.in_err-first.field-0.0 c.in-Some.next old (search rules) c.in_err-first.ensures))

pub returns-clause-ok : goal.returns-clause-ok
returns-clause-ok c =
    cons_steps c.args.area c.args.bracket c.args.self.now.tasks.items c.enter.new.self.tasks.items (state_of c.args.self.now) (state_of c.enter.new.self) (beginning c.in_ok-first.first c.begin.new.labels c.begin.new.pieces) c.in-Some.next
    c.in_ok-first.ensures (search rules)
    (cc (c.in_ok-enter.ensures.after, c.in_ok-push.ensures.items, c.in_ok-push_cons.ensures.ok, c.len-name.ensures))
    (cc (c.in_ok-enter.ensures.made, c.in_ok-enter.ensures.labels, c.in_ok-enter.ensures.unchanged, c.in_ok-push_cons.ensures.ok))
