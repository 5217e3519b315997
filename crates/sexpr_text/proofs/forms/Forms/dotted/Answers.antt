use Rattle.std.proofs.Common.{length, drop}
use Rattle.std.proofs.lemmas.Result.{err_from_is_err_and}
use Rattle.sexpr_text.specs.declared.task.ParseTask.TheVariants.{Behind}
use Rattle.sexpr_text.specs.Pieces.{token_at}
use Rattle.sexpr_text.specs.Tasks.{Fails, state_of}
use Rattle.sexpr_text.specs.Begun.{beginning}
use Rattle.sexpr_text.proofs.RemainingPieces.{passed_on}
use Rattle.sexpr_text.proofs.StepLaws.{at_dot, begun_at, dot_fails, dot_steps, fault_at}
use Rattle.sexpr_text.proofs.forms.Forms.dotted.Goals as goal

pub returns-in_err-first-clause-err : goal.returns-in_err-first-clause-err
returns-in_err-first-clause-err c =
    let p = err_from_is_err_and c.from_residual.result c.from_residual.ensures.1 in
    let old = state_of c.args.self.now in
    let fault = c.in_err-first.field-0.0 in
    passed_on c.from_residual.result fault (Fails (Behind c.args.name c.args.area c.args.bracket c.args.car) old) p.0 p.1 p.2
    (dot_fails fault c.args.name c.args.area c.args.bracket c.args.car old (at_dot c.args.bracket (token_at old.pieces) c.requires.agrees) c.requires.agrees
    (fault_at fault old.labels c.len.result (length old.objects) c.advance.new.self (drop 1 old.pieces) c.len.ensures c.advance.ensures c.in_err-first.ensures))

pub returns-clause-ok : goal.returns-clause-ok
returns-clause-ok c =
    let old = state_of c.args.self.now in
    let b = beginning c.in_ok-first.first c.begin.new.labels c.begin.new.pieces in
    dot_steps c.args.name c.args.area c.args.bracket c.args.car c.args.self.now.tasks.items c.enter.new.self.tasks.items old (state_of c.enter.new.self) b
    c.requires.made (at_dot c.args.bracket (token_at old.pieces) c.requires.agrees) c.requires.agrees
    (begun_at old.labels c.len.result (length old.objects) c.advance.new.self (drop 1 old.pieces) b c.len.ensures c.advance.ensures c.in_ok-first.ensures)
    (cc (c.in_ok-enter.ensures.after, c.in_ok-push.ensures.items, c.set_cons.ensures))
    (cc (c.in_ok-enter.ensures.made, c.in_ok-enter.ensures.labels, c.in_ok-enter.ensures.unchanged, c.set_cons.ensures))
