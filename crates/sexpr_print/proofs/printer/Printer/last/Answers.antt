use Rattle.std.proofs.Common.{◌∷◌, [], sym, refl, subst, List, arith, ◌∙◌, true, false, ◌≡◌}
use Rattle.lisp_graph.specs.declared.world.AreaRule.{AreaRule}
use Rattle.lisp_graph.specs.Groups.{is_nil}
use Rattle.sexpr_text.specs.declared.bracket.Bracket.{Bracket}
use Rattle.sexpr_text.specs.declared.token.Token.TheVariants.{Close}
use Rattle.sexpr_print.specs.declared.task.PrintTask.TheVariants as K
use Rattle.sexpr_print.specs.Printing.{bracket_of}
use Rattle.sexpr_print.specs.Marks.{shared_in}
use Rattle.sexpr_print.specs.Writing.{Adds}
use Rattle.sexpr_print.specs.Tasks.{Steps}
use Rattle.sexpr_print.proofs.TaskLaws.{rest_ends}
use Rattle.sexpr_print.proofs.FormStarts.{dotted_steps}
use Rattle.sexpr_print.proofs.Steps.{on_ok, steps_end}
use Rattle.sexpr_print.proofs.printer.Printer.last.Goals as goal

pub returns-then-is_nil : goal.returns-then-is_nil
returns-then-is_nil c =
    let world = c.args.world.now in
    let old = c.args.self.now in
    let new = record old { text = c.add.new.self } in
    let task = K.Rest c.args.area c.args.charge c.args.cdr in
    let nil : is_nil c.args.cdr ≡ true = sym c.is_nil.ensures ∙ c.if-is_nil.true in
    let P : List AreaRule → Bracket → Type 0 = λ areas bracket. Adds areas (Close bracket ∷ []) old.text c.add.new.self in
    on_ok c.add.result (P c.as_slice-areas.result.now c.bracket_of-bracket.result) (Steps world task old.tasks.items old new)
    (λ adds. steps_end world task old.tasks.items old new (Close (bracket_of c.args.charge) ∷ []) refl
    (subst (λ b. P world.areas b) c.bracket_of-bracket.ensures (subst (λ a. P a c.bracket_of-bracket.result) c.as_slice-areas.ensures adds)) refl
    (rest_ends world.objects (shared_in old.printed.counts) c.args.area c.args.charge c.args.cdr old.printed.names nil) (omega arith))
    c.add.ensures

pub returns : goal.returns
returns c =
    let world = c.args.world.now in
    let old = c.args.self.now in
    let new = c.dotted.new.self in
    let some : is_nil c.args.cdr ≡ false = sym c.is_nil.ensures ∙ c.if-is_nil.false in
    dotted_steps world c.args.area c.args.charge c.args.cdr c.bracket_of-bracket.result c.dotted.result old new c.bracket_of-bracket.ensures some c.requires.none c.requires.refers c.dotted.ensures.after c.dotted.ensures.unchanged
    (rw c.as_slice-areas.ensures at c.dotted.ensures.text)
