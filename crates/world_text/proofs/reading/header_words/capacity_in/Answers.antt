use Rattle.std.proofs.Common.{◌<◌, ◌≤◌, ◌++◌, ◌∷◌, [], length, refl, sym, ◌∙◌, ap, arith, length-append}
use Rattle.std.proofs.lemmas.Bool.Decides.{nat_tests}
use Rattle.std.proofs.lemmas.Result.{err_from_is_err_and}
use Rattle.world_text.specs.reading.Words.{words_of}
use Rattle.world_text.specs.reading.Next.{a_number}
use Rattle.world_text.specs.reading.Header.{capacity_in}
use Rattle.world_text.proofs.reading_laws.WordLemmas.{words_none, words_some}
use Rattle.world_text.proofs.reading_laws.EachLemmas.{each_ends, each_fails, each_goes}
use Rattle.world_text.proofs.reading_laws.Zeros.{zeros_set}
use Rattle.world_text.proofs.reading.header_words.capacity_in.Goals as goal

pub returns-in_err-number : goal.returns-in_err-number
unfolding capacity_in
returns-in_err-number c =
    let some : 0 < length c.loop-rest.rest.now = grind (arith, nat_tests, c.loop-rest-test.ensures) in
    let p = err_from_is_err_and c.from_residual.result c.from_residual.ensures.1 in
    let e = each_fails (a_number 0 16777216) c.loop-rest.invariant.numbers (words_of c.loop-rest.rest.now) c.in_err-number.field-0.0 (words_some _ some) c.in_err-number.ensures.value in
    rw (p.1, p.2, ← c.loop-rest.invariant.reads, e) refl

pub bounds-capacity-level : goal.bounds-capacity-level
bounds-capacity-level c =
    let some : 0 < length c.loop-rest.rest.now = grind (arith, nat_tests, c.loop-rest-test.ensures) in
    omega (arith, words_some _ some, c.loop-rest.invariant.few)

pub loop-rest-preserved : goal.loop-rest-preserved
loop-rest-preserved c =
    let some : 0 < length c.loop-rest.rest.now = grind (arith, nat_tests, c.loop-rest-test.ensures) in
    let more = words_some _ some in
    let inv = c.loop-rest.invariant in
    let numbers = inv.numbers in
    record {
      numbers = numbers ++ c.in_ok-number.number ∷ [];
      so_far = zeros_set numbers c.loop-rest.capacity c.in_ok-number.number c.loop-rest.level 6 inv.so_far inv.level (omega (arith, more, inv.few));
      level = omega (arith, inv.level, length-append numbers (c.in_ok-number.number ∷ []));
      reads = sym (each_goes (a_number 0 16777216) numbers (words_of c.loop-rest.rest.now) c.in_ok-number.number (words_of c.in_ok-number.after.now) more c.in_ok-number.ensures.value) ∙ inv.reads;
      few = omega (arith, more, c.in_ok-number.ensures.left, inv.few);
    }

pub loop-rest-smaller : goal.loop-rest-smaller
loop-rest-smaller c =
    let some : 0 < length c.loop-rest.rest.now = grind (arith, nat_tests, c.loop-rest-test.ensures) in
    omega (arith, words_some _ some, c.in_ok-number.ensures.left)

pub returns : goal.returns
unfolding capacity_in
returns c =
    let none : length c.loop-rest.rest.now ≤ 0 = grind (arith, nat_tests, c.loop-rest-test.ensures) in
    let e = each_ends (a_number 0 16777216) c.loop-rest.invariant.numbers (words_of c.loop-rest.rest.now) (omega (arith, ap length (words_none _ none))) in
    rw (← c.loop-rest.invariant.reads, e, c.loop-rest.invariant.so_far) refl
