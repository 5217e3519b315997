use Rattle.std.proofs.Common.{◌≡◌, ◌∷◌, ◌++◌, ◌<◌, [], ◌∙◌, List, Some, refl, sym, ap, subst, arith, length, length-append}
use Rattle.lisp_graph.specs.Graph.{object_at}
use Rattle.lisp_graph.specs.declared.object.Body.TheVariants as B
use Rattle.lisp_graph.specs.declared.world.AreaRule.{AreaRule}
use Rattle.sexpr_text.specs.declared.token.Token.TheVariants.{Atom}
use Rattle.sexpr_print.specs.declared.task.PrintTask.TheVariants as K
use Rattle.sexpr_print.specs.Printing.{next_of}
use Rattle.sexpr_print.specs.Marks.{shared_in}
use Rattle.sexpr_print.specs.declared.token_text.TokenText.{TokenText}
use Rattle.sexpr_print.specs.Writing.{Adds}
use Rattle.sexpr_print.specs.Tasks.{Steps}
use Rattle.sexpr_print.proofs.TaskLaws.{rest_goes}
use Rattle.sexpr_print.proofs.FormStarts.{next_none, next_some}
use Rattle.sexpr_print.proofs.ListConses.{along_more, along_none, along_steps, cdr_sound}
use Rattle.sexpr_print.proofs.Steps.{cons_sound, object_sound, on_ok, steps_enter, work_two}
use Rattle.sexpr_print.proofs.Writes.{adds_none}
use Rattle.sexpr_print.proofs.printer.Printer.rest.Goals as goal

pub next_of-requires-clause-size : goal.next_of-requires-clause-size
next_of-requires-clause-size c = ap length c.loop-next.invariant.counts ∙ c.requires.size

pub next_of-requires-clause-refers : goal.next_of-requires-clause-refers
next_of-requires-clause-refers c = c.loop-next.invariant.refers

pub loop-next-init : goal.loop-next-init
loop-next-init c = along_none c.args.world.now c.args.area c.args.charge c.args.cdr c.args.self.now c.requires.refers

pub returns-in-Ref : goal.returns-in-Ref
returns-in-Ref c =
    let world = c.args.world.now in
    let old = c.loop-next.self in
    let new = c.cons.new.self in
    let shared = shared_in old.printed.counts in
    let next = c.in-Some.next in
    let cdr = c.loop-next.cdr in
    let task = K.Rest c.args.area c.args.charge cdr in
    let is : next_of world.objects shared old.printed.names c.args.area c.args.charge cdr ≡ Some next.name =
    next_some c.next_of.result next _ c.in-Some.is c.next_of.ensures.value in
    let body : (object_at world.objects next.name).body ≡ B.Cons next.car next.cdr = c.in-Some.ensures.some in
    let within : next.name < length world.objects = c.in-Some.ensures.in_range in
    let pushed = K.Rest c.args.area c.args.charge next.cdr ∷ K.Value next.car ∷ [] in
    let A : TokenText → Type 0 = λ t. Adds world.areas [] old.text t in
    on_ok c.cons.result (new.tasks.items ≡ old.tasks.items ++ pushed) (Steps world (K.Rest c.args.area c.args.charge c.args.cdr) c.args.self.now.tasks.items c.args.self.now new)
    (λ stack. along_steps world c.args.area c.args.charge c.args.cdr cdr c.args.self.now old new c.loop-next.invariant
    (steps_enter world task old.tasks.items pushed old new [] next.name stack (subst A (sym c.cons.ensures.text) (adds_none world.areas old.text))
    (ap (λ m. m.counts) c.cons.ensures.unchanged ∙ c.in_ok-add.ensures.unchanged) (ap (λ m. m.names) c.cons.ensures.unchanged ∙ c.in_ok-add.ensures.after)
    (rw c.cons.ensures.unchanged c.in_ok-add.ensures.room)
    (λ others after all. rest_goes world.objects shared c.args.area c.args.charge next.name next.car next.cdr cdr old.printed.names after others is body all)
    (cons_sound (length world.objects) c.args.area c.args.charge (object_at world.objects next.name) next.car next.cdr body (object_sound world next.name c.requires.graph within))
    (let a = work_two world.objects (K.Rest c.args.area c.args.charge next.cdr) (K.Value next.car) in omega (arith, a))))
    c.cons.ensures.after

pub loop-next-preserved : goal.loop-next-preserved
loop-next-preserved c =
    let world = c.args.world.now in
    let old = c.loop-next.self in
    let shared = shared_in old.printed.counts in
    let next = c.in-Some.next in
    let cdr = c.loop-next.cdr in
    let is : next_of world.objects shared old.printed.names c.args.area c.args.charge cdr ≡ Some next.name =
    next_some c.next_of.result next _ c.in-Some.is c.next_of.ensures.value in
    let body : (object_at world.objects next.name).body ≡ B.Cons next.car next.cdr = c.in-Some.ensures.some in
    let within : next.name < length world.objects = c.in-Some.ensures.in_range in
    let P : List AreaRule → Type 0 = λ areas. Adds areas (Atom next.car ∷ []) old.text c.add-in-Some.new.self in
    along_more world c.args.area c.args.charge c.args.cdr cdr next.car next.cdr next.name c.args.self.now old (record old { printed = c.add.new.self; text = c.add-in-Some.new.self }) c.loop-next.invariant is body c.in_default-car.not-Ref
    refl (subst P c.as_slice.ensures c.in_ok-add-2.ensures) c.in_ok-add.ensures.unchanged c.in_ok-add.ensures.after
    (cdr_sound (length world.objects) (object_at world.objects next.name) next.car next.cdr body (object_sound world next.name c.requires.graph within))

pub loop-next-smaller : goal.loop-next-smaller
loop-next-smaller c =
    let old = c.loop-next.self in
    let a = ap length c.in_ok-add.ensures.unchanged in
    let b = ap length c.in_ok-add.ensures.after ∙ length-append old.printed.names (c.in-Some.next.name ∷ []) in
    omega (arith, a, b, c.in_ok-add.ensures.room)

pub last-requires-clause-refers : goal.last-requires-clause-refers
last-requires-clause-refers c = c.loop-next.invariant.refers

pub last-requires-clause-none : goal.last-requires-clause-none
last-requires-clause-none c =
    let old = c.loop-next.self in
    next_none c.next_of.result _ c.in_default.is c.next_of.ensures.value

pub returns : goal.returns
returns c =
    let world = c.args.world.now in
    let old = c.loop-next.self in
    let new = c.last.new.self in
    on_ok c.last.result (Steps world (K.Rest c.args.area c.args.charge c.loop-next.cdr) old.tasks.items old new) (Steps world (K.Rest c.args.area c.args.charge c.args.cdr) c.args.self.now.tasks.items c.args.self.now new)
    (λ steps. along_steps world c.args.area c.args.charge c.args.cdr c.loop-next.cdr c.args.self.now old new c.loop-next.invariant steps)
    c.last.ensures
