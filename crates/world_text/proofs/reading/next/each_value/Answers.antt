use Rattle.std.proofs.Common.{◌<◌, ◌≤◌, ◌∷◌, [], length, sym, ◌∙◌, arith, length-append}
use Rattle.std.proofs.lemmas.Bool.Decides.{nat_tests}
use Rattle.std.proofs.lemmas.Result.{err_from_is_err_and}
use Rattle.world_text.specs.reading.Words.{words_of}
use Rattle.world_text.specs.reading.Next.{a_value}
use Rattle.world_text.proofs.reading_laws.WordLemmas.{words_none, words_some}
use Rattle.world_text.proofs.reading_laws.EachLemmas.{each_ends, each_fails, each_goes}
use Rattle.world_text.proofs.reading.next.each_value.Goals as goal

pub returns-in_err-value-clause-value : goal.returns-in_err-value-clause-value
returns-in_err-value-clause-value c =
    let some : 0 < length c.loop-rest.rest.now = grind (arith, nat_tests, c.loop-rest-test.ensures) in
    let p = err_from_is_err_and c.from_residual.result c.from_residual.ensures.1 in
    rw (p.1, p.2) (sym c.loop-rest.invariant.0 ∙ each_fails a_value c.loop-rest.values (words_of c.loop-rest.rest.now) c.in_err-value.field-0.0 (words_some _ some) c.in_err-value.ensures.value)

pub loop-rest-smaller : goal.loop-rest-smaller
loop-rest-smaller c =
    let some : 0 < length c.loop-rest.rest.now = grind (arith, nat_tests, c.loop-rest-test.ensures) in
    omega (arith, words_some _ some, c.in_ok-value.ensures.left)

pub loop-rest-preserved : goal.loop-rest-preserved
loop-rest-preserved c =
    let some : 0 < length c.loop-rest.rest.now = grind (arith, nat_tests, c.loop-rest-test.ensures) in
    let more = words_some _ some in (
      rw c.in_ok-push.ensures.ok
          (sym (each_goes a_value c.loop-rest.values (words_of c.loop-rest.rest.now) c.in_ok-value.value (words_of c.in_ok-value.after.now) more c.in_ok-value.ensures.value) ∙ c.loop-rest.invariant.0),
      rw c.in_ok-push.ensures.ok (omega (arith, more, c.in_ok-value.ensures.left, c.loop-rest.invariant.1, length-append c.loop-rest.values (c.in_ok-value.value ∷ []))),
    )

pub returns-clause-value : goal.returns-clause-value
returns-clause-value c =
    let none : length c.loop-rest.rest.now ≤ 0 = grind (arith, nat_tests, c.loop-rest-test.ensures) in
    sym c.loop-rest.invariant.0 ∙ rw (words_none _ none) (each_ends a_value c.loop-rest.values [] (omega arith))

pub returns-clause-count : goal.returns-clause-count
returns-clause-count c =
    let none : length c.loop-rest.rest.now ≤ 0 = grind (arith, nat_tests, c.loop-rest-test.ensures) in
    let e = words_none _ none in
    let all = rw e at c.loop-rest.invariant.1 in
    omega (arith, all)
