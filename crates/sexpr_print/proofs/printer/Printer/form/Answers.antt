use Rattle.std.proofs.Common.{◌≡◌, ◌∷◌, ◌++◌, [], List, Some, sym, ap, subst}
use Rattle.lisp_graph.specs.Graph.{object_at}
use Rattle.lisp_graph.specs.Objects.{body_copied, object_copied}
use Rattle.lisp_graph.specs.declared.object.Object.{Object}
use Rattle.lisp_graph.specs.declared.world.AreaRule.{AreaRule}
use Rattle.sexpr_text.specs.declared.bracket.Bracket.{Bracket}
use Rattle.sexpr_text.specs.declared.token.Token.TheVariants.{Open}
use Rattle.sexpr_print.specs.declared.task.PrintTask.TheVariants as K
use Rattle.sexpr_print.specs.declared.token_text.TokenText.{TokenText}
use Rattle.sexpr_print.specs.Printing.{bracket_of}
use Rattle.sexpr_print.specs.Writing.{Adds}
use Rattle.sexpr_print.specs.Tasks.{Opens}
use Rattle.sexpr_print.proofs.FormStarts.{block_begun, list_begun}
use Rattle.sexpr_print.proofs.Steps.{on_ok}
use Rattle.sexpr_print.proofs.printer.Printer.form.Goals as goal

pub returns-in_ok-add-in-Cons : goal.returns-in_ok-add-in-Cons
returns-in_ok-add-in-Cons c =
    let world = c.args.world.now in
    let old = c.args.self.now in
    let new = c.cons.new.self in
    let object : Object = object_copied c.at-object.result in
    let at : object ≡ object_at world.objects c.args.name = c.at-object.ensures in
    let rest = K.Rest object.area object.charge c.in-Cons.cdr ∷ K.Value c.in-Cons.car ∷ [] in
    let P : List AreaRule → Bracket → Type 0 = λ areas bracket. Adds areas (Open (Some object.area) bracket ∷ []) old.text c.add.new.self in
    let adds : P world.areas (bracket_of object.charge) = subst (λ b. P world.areas b) c.bracket_of.ensures (subst (λ a. P a c.bracket_of.result) c.as_slice-areas.ensures c.in_ok-add-in-Cons.ensures) in
    let Q : TokenText → Type 0 = λ t. Adds world.areas (Open (Some object.area) (bracket_of object.charge) ∷ []) old.text t in
    on_ok c.cons.result (new.tasks.items ≡ old.tasks.items ++ rest) (Opens world c.args.name old new)
    (λ stack. list_begun world c.args.name object c.in-Cons.car c.in-Cons.cdr old new at (ap body_copied c.in-Cons.is) c.requires.graph c.requires.in_range stack c.cons.ensures.unchanged (subst Q (sym c.cons.ensures.text) adds))
    c.cons.ensures.after

pub returns-in-Block : goal.returns-in-Block
returns-in-Block c =
    let world = c.args.world.now in
    let old = c.args.self.now in
    let new = c.block.new.self in
    let object : Object = object_copied c.at-object.result in
    let at : object ≡ object_at world.objects c.args.name = c.at-object.ensures in
    block_begun world c.args.name object c.in-Block.code c.in-Block.fields.now c.block.result old new at (ap body_copied c.in-Block.is) c.requires.graph c.requires.in_range c.block.ensures.after c.block.ensures.unchanged
    (rw c.as_slice-areas.ensures at c.block.ensures.text)
