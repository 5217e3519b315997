use Rattle.std.proofs.Common.{◌≡◌, ◌∷◌, [], ◌∙◌, ap, refl, sym, subst}
use Rattle.std.specs.Prelude.{pos}
use Rattle.lisp_graph.specs.declared.object.Value.TheVariants.{Fix}
use Rattle.sexpr_text.specs.declared.token.Token.{Token}
use Rattle.sexpr_text.specs.declared.token.Token.TheVariants.{Atom}
use Rattle.sexpr_print.specs.Writing.{Adds}
use Rattle.sexpr_print.proofs.RootLines.{register_ended, register_nil}
use Rattle.sexpr_print.proofs.print.print_register.Goals as goal

pub returns-then-is_nil : goal.returns-then-is_nil
returns-then-is_nil c = register_nil c.args.world.now c.args.register c.args.value c.args.printer.now (sym c.is_nil.ensures ∙ c.if-is_nil.true) c.requires.open c.requires.idle

pub returns : goal.returns
returns c =
    let world = c.args.world.now in
    let old = c.args.printer.now in
    let start = record old { text = c.add-2.new.self } in
    let middle = c.print.new.self in
    let P : Token → Type 0 = λ t. Adds world.areas (t ∷ []) c.add.new.self c.add-2.new.self in
    let token : c.number_token.result ≡ Atom (Fix (pos c.args.register)) = c.number_token.ensures ∙ ap (λ n. Atom (Fix (pos n))) c.from.ensures in
    register_ended world c.args.register c.args.value c.end_line.result old start middle (record middle { text = c.end_line.new.self }) c.add.new.self (sym c.is_nil.ensures ∙ c.if-is_nil.false) c.requires.open refl
    (rw c.as_slice-areas.ensures at c.in_ok-add.ensures) (subst P token (rw c.as_slice-areas.ensures at c.in_ok-add-2.ensures)) c.in_ok-print.ensures.value c.end_line.ensures.text c.end_line.ensures.after refl c.in_ok-print.ensures.done
