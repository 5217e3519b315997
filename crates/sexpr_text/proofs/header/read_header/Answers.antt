use Rattle.std.proofs.Common.{◌≡◌, ◌∙◌, ◌≤◌, ◌<◌, ◌+◌, sym, ap, subst, length, List, ℕ, true, false, arith}
use Rattle.std.proofs.lemmas.Bool.Decides.{nat_tests}
use Rattle.std.proofs.lemmas.Result.{err_from_is_err_and}
use Rattle.world_text.specs.Limits.{has_objects}
use Rattle.sexpr_text.specs.Reading.{IsFault}
use Rattle.sexpr_text.specs.Meaning.{behind_line, header, header_line, second_place}
use Rattle.sexpr_text.proofs.HeaderLines.{LinesGo, lines_end, lines_fail, lines_last, lines_more}
use Rattle.sexpr_text.proofs.StepLaws.{may_pass}
use Rattle.sexpr_text.proofs.header.read_header.Goals as goal

pub returns-in_err-header_line-clause-value : goal.returns-in_err-header_line-clause-value
returns-in_err-header_line-clause-value c =
    let whole = header (length c.args.text.now) second_place 2 c.args.text.now in
    let p = err_from_is_err_and c.from_residual-in_err-header_line.result c.from_residual-in_err-header_line.ensures.1 in
    let fault = c.in_err-header_line.field-0.0 in
    let rest = c.loop-rest.rest.now in
    let some : 0 < length rest = grind (arith, nat_tests, c.loop-rest-test.ensures) in
    let P : List ℕ → Type 0 = λ text. IsFault fault (header_line c.loop-rest.builder c.loop-rest.line text) in
    may_pass _ c.from_residual-in_err-header_line.result whole fault p.0 p.1 p.2
    (lines_fail fault whole c.loop-rest.builder c.loop-rest.line rest c.loop-rest.invariant.0 some (subst P c.split_feed.ensures.after c.in_err-header_line.ensures))

pub returns-then-has_objects-clause-value : goal.returns-then-has_objects-clause-value
returns-then-has_objects-clause-value c =
    let whole = header (length c.args.text.now) second_place 2 c.args.text.now in
    let rest = c.loop-rest.rest.now in
    let some : 0 < length rest = grind (arith, nat_tests, c.loop-rest-test.ensures) in
    let said = ap (header_line c.loop-rest.builder c.loop-rest.line) (sym c.split_feed.ensures.after) ∙ c.in_ok-header_line.ensures in
    let part : has_objects c.header_line.new.builder.part ≡ true = cc (c.part.ensures, c.has_objects.ensures, c.if-has_objects.ensures) in
    lines_last whole c.loop-rest.builder c.header_line.new.builder c.loop-rest.line rest c.loop-rest.invariant.0 some said part ∙ cc (c.so_far.ensures.value, c.split_feed.ensures.unchanged)

pub loop-rest-preserved : goal.loop-rest-preserved
loop-rest-preserved c =
    let whole = header (length c.args.text.now) second_place 2 c.args.text.now in
    let rest = c.loop-rest.rest.now in
    let some : 0 < length rest = grind (arith, nat_tests, c.loop-rest-test.ensures) in
    let fewer = c.split_feed.ensures.left some in
    let said = ap (header_line c.loop-rest.builder c.loop-rest.line) (sym c.split_feed.ensures.after) ∙ c.in_ok-header_line.ensures in
    let part : has_objects c.header_line.new.builder.part ≡ false = cc (c.part.ensures, c.has_objects.ensures, c.if-has_objects.ensures) in
    let less : length (behind_line rest) < length rest = omega (arith, ap length c.split_feed.ensures.unchanged) in
    let P : List ℕ → Type 0 = λ text. LinesGo whole c.header_line.new.builder (c.loop-rest.line + 1) text in (
      subst P (sym c.split_feed.ensures.unchanged) (lines_more whole c.loop-rest.builder c.header_line.new.builder c.loop-rest.line rest c.loop-rest.invariant.0 some said part less),
      omega (arith, c.loop-rest.invariant.1),
    )

pub returns-clause-value : goal.returns-clause-value
returns-clause-value c =
    let whole = header (length c.args.text.now) second_place 2 c.args.text.now in
    let none : length c.loop-rest.rest.now ≤ 0 = grind (arith, nat_tests, c.loop-rest-test.ensures) in
    lines_end whole c.loop-rest.builder c.loop-rest.line c.loop-rest.rest.now c.loop-rest.invariant.0 none
