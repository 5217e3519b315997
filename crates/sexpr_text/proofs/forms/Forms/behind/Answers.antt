use Rattle.std.proofs.Common.{true, false}
use Rattle.sexpr_text.specs.declared.task.ParseTask.TheVariants.{Conses, Behind}
use Rattle.sexpr_text.specs.Reading.{closes, is_dot}
use Rattle.sexpr_text.specs.Tasks.{Fails, Steps, state_of}
use Rattle.sexpr_text.proofs.StepLaws.{goes_fails, goes_steps, if_err_of, on_ok_of, same_token, shut_steps, state}
use Rattle.sexpr_text.proofs.forms.Forms.behind.Goals as goal

pub returns-then-closes-clause-ok : goal.returns-then-closes-clause-ok
returns-then-closes-clause-ok c =
    let old = state_of c.args.self.now in
    shut_steps c.args.name c.args.area c.args.bracket c.args.car c.args.self.now.tasks.items old (state c.set_cons.new.objects old.labels c.advance.new.self)
    (same_token (closes c.args.bracket) old.pieces c.token-token.result true c.token-token.ensures c.if-closes.ensures)
    (cc (c.set_cons.ensures, c.advance.ensures))

pub returns-clause-ok : goal.returns-clause-ok
returns-clause-ok c =
    let old = state_of c.args.self.now in
    let tasks = c.args.self.now.tasks.items in
    let between = state c.set_cons-2.new.objects old.labels old.pieces in
    let new = state_of c.cons.new.self in
    let now = c.cons.new.self.tasks.items in
    on_ok_of c.cons.result (Steps (Conses c.args.area c.args.bracket) tasks between now new) (Steps (Behind c.args.name c.args.area c.args.bracket c.args.car) tasks old now new)
    (λ steps. goes_steps c.args.name c.args.area c.args.bracket c.args.car tasks now old between new
    (same_token (closes c.args.bracket) old.pieces c.token-token.result false c.token-token.ensures c.if-closes.ensures)
    (same_token is_dot old.pieces c.token-token.result false c.token-token.ensures c.if-is_dot.ensures)
    (cc (c.set_cons-2.ensures, c.len.ensures)) steps)
    c.cons.ensures.ok

pub returns-clause-err : goal.returns-clause-err
returns-clause-err c =
    let old = state_of c.args.self.now in
    let between = state c.set_cons-2.new.objects old.labels old.pieces in
    if_err_of c.cons.result (Fails (Conses c.args.area c.args.bracket) between) (Fails (Behind c.args.name c.args.area c.args.bracket c.args.car) old)
    (λ fault fails. goes_fails fault c.args.name c.args.area c.args.bracket c.args.car old between
    (same_token (closes c.args.bracket) old.pieces c.token-token.result false c.token-token.ensures c.if-closes.ensures)
    (same_token is_dot old.pieces c.token-token.result false c.token-token.ensures c.if-is_dot.ensures)
    (cc (c.set_cons-2.ensures, c.len.ensures)) fails)
    c.cons.ensures.err
