use Rattle.std.proofs.Common.{◌≡◌, ◌+◌, Bool, true, false, ℕ, refl, sym, ◌∙◌, arith, ap, cond}
use mir.Val.{bool_byte}
use Rattle.sexpr_print.specs.Marks.{Marks, shared_in}
use Rattle.sexpr_print.proofs.ObjectLabels.{labelled_more}
use Rattle.sexpr_print.proofs.printed.Printed.add.Goals as goal

byte_is : (b : Bool) → bool_byte b ≡ cond {A = ℕ} b 1 0
byte_is true = refl
byte_is false = refl

pub invariant_of-self-2 : goal.invariant_of-self-2
invariant_of-self-2 c =
    let old = c.self.inside in
    let shared = c.is_shared-shared.ensures ∙ ap (λ (marks : Marks). shared_in marks.counts c.args.name) (sym c.self.view_is) in
    labelled_more old.counts old.names c.push.new.self old.entries c.set.new.self old.next c.in-Some.entry _ c.args.name c.self.invariant (rw (← c.self.view_is) at c.requires.in_range)
    (rw (← c.self.view_is) at c.requires.first) c.in_ok-push.ensures.ok (c.in-Some.ensures.1 ∙ (omega arith)) c.set.ensures
    (ap (λ n. old.next + n) (c.from.ensures ∙ byte_is c.is_shared-shared.result ∙ ap (λ (b : Bool). cond {A = ℕ} b 1 0) shared))

pub returns-clause-room : goal.returns-clause-room
returns-clause-room c = let are = invariant_of-self-2 c in omega (arith, are.room)

pub overflow_cast-name : goal.overflow_cast-name
overflow_cast-name c = omega (arith, c.self.invariant.size, c.self.invariant.few, (rw (← c.self.view_is) at c.requires.in_range))
