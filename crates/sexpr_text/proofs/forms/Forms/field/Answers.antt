use Rattle.std.proofs.Common.{◌≡◌, refl, subst, arith, length, true, false}
use Rattle.std.proofs.lemmas.Result.{err_from_is_err_and}
use Rattle.sexpr_text.specs.declared.bracket.Bracket.TheVariants.{Curly}
use Rattle.sexpr_text.specs.declared.fault.SexprFault.{SexprFault}
use Rattle.sexpr_text.specs.declared.fault.SexprFault.TheVariants.{Bad}
use Rattle.sexpr_text.specs.declared.task.ParseTask.TheVariants.{Fields}
use Rattle.sexpr_text.specs.Pieces.{line_at, token_at}
use Rattle.sexpr_text.specs.Reading.{closes, surplus}
use Rattle.sexpr_text.specs.Tasks.{Fails, state_of}
use Rattle.sexpr_text.specs.Begun.{beginning}
use Rattle.sexpr_text.proofs.RemainingPieces.{passed_on}
use Rattle.sexpr_text.proofs.StepLaws.{begun_at, block_steps, fault_at, field_fails, field_steps, same_token, state, surplus_fails}
use Rattle.sexpr_text.proofs.forms.Forms.field.Goals as goal

pub returns-then-closes-clause-ok : goal.returns-then-closes-clause-ok
returns-then-closes-clause-ok c =
    let old = state_of c.args.self.now in
    block_steps c.args.name c.args.area c.args.code c.args.fields c.args.self.now.tasks.items old (state c.set.new.self old.labels c.advance.new.self)
    (same_token (closes Curly) old.pieces c.token-token.result true c.token-token.ensures c.if-closes.ensures)
    (cc (c.in_ok-set.ensures.ok, c.block_with.ensures, c.advance.ensures))

pub returns-then-len-ge2047-clause-err : goal.returns-then-len-ge2047-clause-err
returns-then-len-ge2047-clause-err c =
    let old = state_of c.args.self.now in
    let P : SexprFault → Type 0 = Fails (Fields c.args.name c.args.area c.args.code c.args.fields) old in
    let e : Bad (line_at old.pieces) (surplus (token_at old.pieces)) ≡ c.refusal.result = cc (c.refusal.ensures, c.surplus.ensures, c.token-token.ensures) in
    subst P e
    (surplus_fails c.args.name c.args.area c.args.code c.args.fields old
    (same_token (closes Curly) old.pieces c.token-token.result false c.token-token.ensures c.if-closes.ensures) (omega (arith, c.len.ensures)))

pub returns-in_err-first-clause-err : goal.returns-in_err-first-clause-err
returns-in_err-first-clause-err c =
    let p = err_from_is_err_and c.from_residual-in_err-first.result c.from_residual-in_err-first.ensures.1 in
    let old = state_of c.args.self.now in
    let fault = c.in_err-first.field-0.0 in
    passed_on c.from_residual-in_err-first.result fault (Fails (Fields c.args.name c.args.area c.args.code c.args.fields) old) p.0 p.1 p.2
    (field_fails fault c.args.name c.args.area c.args.code c.args.fields old
    (same_token (closes Curly) old.pieces c.token-token.result false c.token-token.ensures c.if-closes.ensures) (omega (arith, c.len.ensures))
    (fault_at fault old.labels c.len-2.result (length old.objects) old.pieces old.pieces c.len-2.ensures refl c.in_err-first.ensures))

pub returns-clause-ok : goal.returns-clause-ok
returns-clause-ok c =
    let old = state_of c.args.self.now in
    let b = beginning c.in_ok-first.first c.begin.new.labels c.begin.new.pieces in
    field_steps c.args.name c.args.area c.args.code c.args.fields c.args.self.now.tasks.items c.enter.new.self.tasks.items old (state_of c.enter.new.self) b
    c.requires.made (same_token (closes Curly) old.pieces c.token-token.result false c.token-token.ensures c.if-closes.ensures) (omega (arith, c.len.ensures))
    (begun_at old.labels c.len-2.result (length old.objects) old.pieces old.pieces b c.len-2.ensures refl c.in_ok-first.ensures)
    (cc (c.in_ok-enter.ensures.after, c.in_ok-push-2.ensures.items, c.in_ok-push.ensures.ok))
    (cc (c.in_ok-enter.ensures.made, c.in_ok-enter.ensures.labels, c.in_ok-enter.ensures.unchanged))
