use Rattle.std.proofs.Common.{◌∷◌, [], ◌∙◌, refl, sym, arith}
use Rattle.sexpr_text.specs.declared.token.Token.TheVariants.{Again, Atom}
use Rattle.sexpr_print.specs.declared.task.PrintTask.TheVariants as K
use Rattle.sexpr_print.specs.Marks.{shared_in}
use Rattle.sexpr_print.specs.Writing.{Adds}
use Rattle.sexpr_print.specs.Tasks.{Steps}
use Rattle.sexpr_print.proofs.TaskLaws.{prints_atom}
use Rattle.sexpr_print.proofs.FormStarts.{prints_again}
use Rattle.sexpr_print.proofs.Steps.{on_ok, steps_end}
use Rattle.sexpr_print.proofs.printer.Printer.value.Goals as goal

pub returns-in_default : goal.returns-in_default
returns-in_default c =
    let world = c.args.world.now in
    let old = c.args.self.now in
    let new = record old { text = c.add.new.self } in
    on_ok c.add.result (Adds c.as_slice-areas.result.now (Atom c.args.value ∷ []) old.text c.add.new.self) (Steps world (K.Value c.args.value) old.tasks.items old new)
    (λ adds. steps_end world (K.Value c.args.value) old.tasks.items old new (Atom c.args.value ∷ []) refl (rw c.as_slice-areas.ensures at adds) refl
    (prints_atom world.objects (shared_in old.printed.counts) c.args.value old.printed.names c.in_default.not-Ref) (omega arith))
    c.add.ensures

pub returns-in-Some : goal.returns-in-Some
returns-in-Some c =
    let world = c.args.world.now in
    let old = c.args.self.now in
    let new = record old { text = c.add-in-Some.new.self } in
    on_ok c.add-in-Some.result (Adds c.as_slice-areas.result.now (Again c.in-Some.label ∷ []) old.text c.add-in-Some.new.self) (Steps world (K.Value c.args.value) old.tasks.items old new)
    (λ adds. steps_end world (K.Value c.args.value) old.tasks.items old new (Again c.in-Some.label ∷ []) refl (rw c.as_slice-areas.ensures at adds) refl
    (prints_again world.objects old.printed c.args.value c.in-Ref.name c.in-Some.label c.in-Ref.is (sym c.label.ensures ∙ c.in-Some.is)) (omega arith))
    c.add-in-Some.ensures
