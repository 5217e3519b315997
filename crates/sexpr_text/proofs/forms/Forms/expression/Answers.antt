use Rattle.std.proofs.Common.{refl, arith, length}
use Rattle.std.proofs.lemmas.Result.{err_from_is_err_and}
use Rattle.sexpr_text.specs.Reading.{expression}
use Rattle.sexpr_text.specs.Tasks.{grown, grown_value, state_of}
use Rattle.sexpr_text.specs.Begun.{beginning}
use Rattle.sexpr_text.proofs.StepLaws.{begun_at, beginning_leads, fault_at, first_refused, may_pass, value_refused, whole_value}
use Rattle.sexpr_text.proofs.RootLaws.{expression_left}
use Rattle.sexpr_text.proofs.forms.Forms.expression.Goals as goal

pub returns-in_err-first-clause-value : goal.returns-in_err-first-clause-value
returns-in_err-first-clause-value c =
    let p = err_from_is_err_and c.from_residual.result c.from_residual.ensures.1 in
    let old = state_of c.args.self.now in
    let fault = c.in_err-first.field-0.0 in
    may_pass _ c.from_residual.result (grown_value old.objects (expression (length old.pieces) (length old.objects) old.labels old.pieces)) fault p.0 p.1 p.2
    (first_refused fault (length old.pieces) old (omega arith) (fault_at fault old.labels c.len.result (length old.objects) old.pieces old.pieces c.len.ensures refl c.in_err-first.ensures))

pub returns-in_err-run-clause-value : goal.returns-in_err-run-clause-value
returns-in_err-run-clause-value c =
    let p = err_from_is_err_and c.from_residual-in_err-run.result c.from_residual-in_err-run.ensures.1 in
    let old = state_of c.args.self.now in
    let fault = c.in_err-run.field-0.0 in
    let whole = expression (length old.pieces) (length old.objects) old.labels old.pieces in
    let b = beginning c.in_ok-first.first c.begin.new.labels c.begin.new.pieces in
    let is = begun_at old.labels c.len.result (length old.objects) old.pieces old.pieces b c.len.ensures refl c.in_ok-first.ensures in
    may_pass _ c.from_residual-in_err-run.result (grown_value old.objects whole) fault p.0 p.1 p.2
    (value_refused fault old.objects whole (c.in_err-run.ensures.err (grown (λ _. old.objects) whole)
    (beginning_leads (length old.pieces) b old (state_of c.enter.new.self) c.enter.new.self.tasks.items is (omega arith)
    (cc (c.in_ok-enter.ensures.after, c.requires.idle))
    (cc (c.in_ok-enter.ensures.made, c.in_ok-enter.ensures.labels, c.in_ok-enter.ensures.unchanged)))))

pub returns-clause-value : goal.returns-clause-value
returns-clause-value c =
    let old = state_of c.args.self.now in
    let b = beginning c.in_ok-first.first c.begin.new.labels c.begin.new.pieces in
    let is = begun_at old.labels c.len.result (length old.objects) old.pieces old.pieces b c.len.ensures refl c.in_ok-first.ensures in
    let whole = expression (length old.pieces) (length old.objects) old.labels old.pieces in
    whole_value (length old.pieces) b old (state_of c.run.new.self) (omega arith) is
    (c.in_ok-run.ensures.ok (grown (λ _. old.objects) whole)
    (beginning_leads (length old.pieces) b old (state_of c.enter.new.self) c.enter.new.self.tasks.items is (omega arith)
    (cc (c.in_ok-enter.ensures.after, c.requires.idle))
    (cc (c.in_ok-enter.ensures.made, c.in_ok-enter.ensures.labels, c.in_ok-enter.ensures.unchanged))))

pub returns-clause-takes : goal.returns-clause-takes
returns-clause-takes c =
    let old = state_of c.args.self.now in
    expression_left old.objects old.labels old.pieces c.in_ok-first.first.value (state_of c.run.new.self) (returns-clause-value c)
