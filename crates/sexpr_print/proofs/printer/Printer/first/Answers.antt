use Rattle.std.proofs.Common.{refl}
use Rattle.lisp_graph.specs.declared.object.Value.TheVariants.{Ref}
use Rattle.sexpr_print.specs.declared.task.PrintTask.TheVariants as K
use Rattle.sexpr_print.specs.Tasks.{Opens, Steps}
use Rattle.sexpr_print.proofs.Steps.{first_steps, on_ok}
use Rattle.sexpr_print.proofs.printer.Printer.first.Goals as goal

pub returns : goal.returns
returns c =
    let world = c.args.world.now in
    let old = c.args.self.now in
    let new = c.form.new.self in
    let middle = record old { printed = c.add.new.self; text = c.add_label.new.self } in
    on_ok c.form.result (Opens world c.args.name middle new) (Steps world (K.Value (Ref c.args.name)) old.tasks.items old new)
    (λ opens. first_steps world c.args.name c.in_ok-label.label old middle new c.requires.first c.in_ok-label.ensures.value refl (rw c.as_slice.ensures at c.in_ok-add_label.ensures)
    c.in_ok-label.ensures.unchanged c.in_ok-label.ensures.after c.in_ok-label.ensures.room opens)
    c.form.ensures
