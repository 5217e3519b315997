use Rattle.std.proofs.Common.{◌<◌, ◌≤◌, ◌∙◌, sym, refl, length, take, arith}
use Rattle.std.proofs.lemmas.Bool.Decides.{nat_tests}
use Rattle.std.proofs.lemmas.List.{take_rest}
use Rattle.sexpr_text.proofs.Scans.{pieces_at, pieces_none}
use Rattle.sexpr_text.proofs.piece_reader.PieceReader.at_first.Goals as goal

pub returns-then-is_empty : goal.returns-then-is_empty
returns-then-is_empty c =
    let none : length c.skip_white-line.result.1.now ≤ 0 = grind (arith, nat_tests, c.if-is_empty.ensures) in
    sym (pieces_none c.args.areas.now c.args.past c.skip_white-line.result.0 c.skip_white-line.result.1.now none) ∙ c.skip_white-line.ensures.unchanged c.args.areas.now c.args.past

pub returns : goal.returns
returns c =
    let text = c.skip_white-line.result.1.now in
    let size = c.piece_length-size.result in
    let some : 0 < length text = grind (arith, nat_tests, c.if-is_empty.ensures) in
    pieces_at c.args.areas.now c.args.past c.skip_white-line.result.0 size text (take size text) _ c.token_of-token.result some (c.skip_white-line.ensures.end some)
    c.piece_length-size.ensures.value c.piece_length-size.ensures.some refl (take_rest text size) c.token_of-token.ensures
    ∙ c.skip_white-line.ensures.unchanged c.args.areas.now c.args.past

pub returns-in-Some : goal.returns-in-Some
returns-in-Some c =
    c.in-Some.ensures.value c.args.areas.now c.args.past c.skip_white-line.result.0 ∙ c.skip_white-line.ensures.unchanged c.args.areas.now c.args.past
