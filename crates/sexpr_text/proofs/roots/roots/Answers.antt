use Rattle.std.proofs.Common.{◌∙◌, sym, ap, subst, length, List, ◌<◌, Result, arith, length-drop}
use Rattle.std.proofs.lemmas.Result.{err_from_is_err_and}
use Rattle.sexpr_text.specs.declared.token.Piece.{Piece}
use Rattle.sexpr_text.specs.declared.fault.SexprFault.{SexprFault}
use Rattle.sexpr_text.specs.Reading.{IsFault, MayGive}
use Rattle.sexpr_text.specs.Roots.{Rooted, ended, root_at, roots_from}
use Rattle.sexpr_text.specs.Rooting.{rooted}
use Rattle.sexpr_text.proofs.RootLaws.{goes_fails, goes_last, goes_other, goes_root}
use Rattle.sexpr_text.proofs.StepLaws.{may_pass}
use Rattle.sexpr_text.proofs.roots.roots.Goals as goal

pub loop-forms-preserved : goal.loop-forms-preserved
loop-forms-preserved c =
    let whole = roots_from (length c.args.forms.now.pieces) (rooted c.args.registers.now c.args.forms.now) c.args.forms.now.pieces in
    let now = rooted c.loop-forms.registers c.loop-forms.forms in
    let pieces = c.loop-forms.forms.pieces in
    let next = rooted c.root.new.registers c.root.new.forms in
    let rest = c.root.new.forms.pieces in
    let less : length rest < length pieces = omega (arith, c.in_ok-root-in-Root.ensures.takes, ap length c.advance.ensures, length-drop 1 pieces) in (
      goes_root whole now next pieces rest c.loop-forms.invariant.0 (sym c.token.ensures ∙ c.in-Root.is) (ap (root_at now) (sym c.advance.ensures) ∙ c.in_ok-root-in-Root.ensures.value) less,
      c.in_ok-root-in-Root.ensures.done,
      omega (arith, c.in_ok-root-in-Root.ensures.count, c.loop-forms.invariant.2),
    )

pub returns-in_err-root-in-Root : goal.returns-in_err-root-in-Root
returns-in_err-root-in-Root c =
    let whole = roots_from (length c.args.forms.now.pieces) (rooted c.args.registers.now c.args.forms.now) c.args.forms.now.pieces in
    let p = err_from_is_err_and c.from_residual.result c.from_residual.ensures.1 in
    let now = rooted c.loop-forms.registers c.loop-forms.forms in
    let pieces = c.loop-forms.forms.pieces in
    let fault = c.in_err-root-in-Root.field-0.0 in
    let P : Result (Rooted × List Piece) SexprFault → Type 0 = λ r. IsFault fault r in
    may_pass _ c.from_residual.result whole fault p.0 p.1 p.2
    (goes_fails fault whole now pieces c.loop-forms.invariant.0 (sym c.token.ensures ∙ c.in-Root.is) (subst P (ap (root_at now) c.advance.ensures) c.in_err-root-in-Root.ensures.value))

pub returns-in-EndSexpr : goal.returns-in-EndSexpr
returns-in-EndSexpr c =
    let whole = roots_from (length c.args.forms.now.pieces) (rooted c.args.registers.now c.args.forms.now) c.args.forms.now.pieces in
    let now = rooted c.loop-forms.registers c.loop-forms.forms in
    let pieces = c.loop-forms.forms.pieces in
    let P : Result Rooted SexprFault → Type 0 = λ r. MayGive (λ _. now) c.ended.result r in
    subst P (ap (ended now) c.advance-in-EndSexpr.ensures ∙ goes_last whole now pieces c.loop-forms.invariant.0 (sym c.token.ensures ∙ c.in-EndSexpr.is)) (c.ended.ensures now)

pub returns-in_default : goal.returns-in_default
returns-in_default c =
    let whole = roots_from (length c.args.forms.now.pieces) (rooted c.args.registers.now c.args.forms.now) c.args.forms.now.pieces in
    goes_other c.refusal.result whole (rooted c.loop-forms.registers c.loop-forms.forms) c.loop-forms.forms.pieces c.token.result c.loop-forms.invariant.0 c.token.ensures c.in_default.not-EndSexpr c.in_default.not-Root
    (c.refusal.ensures ∙ cc (c.misplaced.ensures, c.in_default.token-is))
