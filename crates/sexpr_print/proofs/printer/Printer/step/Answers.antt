use Rattle.std.proofs.Common.{◌∷◌, [], refl, sym, subst, arith, OnOk}
use Rattle.sexpr_text.specs.declared.token.Token.TheVariants.{Close}
use Rattle.sexpr_print.specs.declared.task.PrintTask.{PrintTask}
use Rattle.sexpr_print.specs.declared.task.PrintTask.TheVariants as K
use Rattle.sexpr_print.specs.Writing.{Adds}
use Rattle.sexpr_print.specs.Tasks.{Steps}
use Rattle.sexpr_print.proofs.Steps.{on_ok, steps_end}
use Rattle.sexpr_print.proofs.printer.Printer.step.Goals as goal

pub returns-in-Close : goal.returns-in-Close
returns-in-Close c =
    let world = c.args.world.now in
    let old = c.args.self.now in
    let new = record old { text = c.add.new.self } in
    let P : PrintTask → Type 0 = λ t. OnOk c.add.result (Steps world t old.tasks.items old new) in
    subst P (sym c.in-Close.is)
    (on_ok c.add.result (Adds c.as_slice.result.now (Close c.in-Close.bracket ∷ []) old.text c.add.new.self) (Steps world (K.Close c.in-Close.bracket) old.tasks.items old new)
    (λ adds. steps_end world (K.Close c.in-Close.bracket) old.tasks.items old new (Close c.in-Close.bracket ∷ []) refl (rw c.as_slice.ensures at adds) refl (refl, refl) (omega arith))
    c.add.ensures)
