use Rattle.std.proofs.Common.{◌≡◌, ◌∙◌, ◌<◌, ◌++◌, sym, ap, subst, refl, length, arith}
use Rattle.std.specs.Fmt.{signed_decimal}
use Rattle.std.proofs.lemmas.Bool.Decides.{nat_tests}
use Rattle.lisp_graph.specs.declared.object.Value.{Value}
use Rattle.lisp_graph.specs.declared.object.Value.TheVariants.{Fix}
use Rattle.world_text.specs.Spelling.{IsWritten, value_text}
use Rattle.sexpr_text.proofs.IntegerPieces.{integer_first, stops_at}
use Rattle.sexpr_text.proofs.piece_reader.integer_piece.Goals as goal

pub returns-in-Fix-clause-value : goal.returns-in-Fix-clause-value
returns-in-Fix-clause-value c = λ areas past line.
    let number = c.in-Fix.field-0 in
    let rest = c.in_ok-value.rest.now in
    let written : IsWritten (Fix number) = subst IsWritten c.in-Fix.is c.in_ok-value.ensures.1 in
    let whole : c.args.text.now ≡ signed_decimal number ++ rest = c.in_ok-value.ensures.0 ∙ ap (λ (v : Value). value_text v ++ rest) c.in-Fix.is in
    let some : 0 < length rest = grind (arith, nat_tests, c.if-is_empty.ensures) in
    let stops = stops_at rest _ some refl (sym c.is_stop.ensures ∙ c.if-not-is_stop.false) in
    integer_first areas past line c.in_ok-value.value number c.args.text.now (signed_decimal number) rest c.in-Fix.is refl whole written stops
