use Rattle.std.proofs.Common.{◌<◌, ◌≤◌, ◌∷◌, [], length, ap, sym, ◌∙◌, arith, length-append}
use Rattle.std.proofs.lemmas.Bool.Decides.{nat_tests}
use Rattle.std.proofs.lemmas.Result.{err_from_is_err_and}
use Rattle.world_text.specs.Words.{words_of}
use Rattle.world_text.specs.Next.{a_register}
use Rattle.world_text.proofs.reading_laws.WordLemmas.{words_none, words_some}
use Rattle.world_text.proofs.reading_laws.EachLemmas.{each_ends, each_fails, each_goes}
use Rattle.trace_text.specs.Items.{items_of}
use Rattle.trace_text.proofs.ListRegisters.{has_room, listed, longer}
use Rattle.trace_text.proofs.words.items.Goals as goal

pub returns-in_err-item-clause-items : goal.returns-in_err-item-clause-items
returns-in_err-item-clause-items c =
    let some : 0 < length c.loop-rest.rest.now = grind (arith, nat_tests, c.loop-rest-test.ensures) in
    let p = err_from_is_err_and c.from_residual.result c.from_residual.ensures.1 in
    rw (p.1, p.2) (sym c.loop-rest.invariant.reads ∙ each_fails (a_register c.args.registers) (items_of c.loop-rest.command) (words_of c.loop-rest.rest.now) c.in_err-item.field-0.0 (words_some _ some) c.in_err-item.ensures.value)

pub push-requires : goal.push-requires
push-requires c =
    let some : 0 < length c.loop-rest.rest.now = grind (arith, nat_tests, c.loop-rest-test.ensures) in
    has_room c.loop-rest.command c.args.to c.args.area c.loop-rest.invariant.list (omega (arith, words_some _ some, c.loop-rest.invariant.count, c.requires.at_most))

pub loop-rest-smaller : goal.loop-rest-smaller
loop-rest-smaller c =
    let some : 0 < length c.loop-rest.rest.now = grind (arith, nat_tests, c.loop-rest-test.ensures) in
    omega (arith, words_some _ some, c.in_ok-item.ensures.left)

pub loop-rest-preserved : goal.loop-rest-preserved
loop-rest-preserved c =
    let some : 0 < length c.loop-rest.rest.now = grind (arith, nat_tests, c.loop-rest-test.ensures) in
    let more = words_some _ some in
    let had = items_of c.loop-rest.command in
    let is = longer c.loop-rest.command c.push.new.self c.args.to c.args.area c.in_ok-item.item c.loop-rest.invariant.list c.push.ensures in
    record {
      list = listed c.push.new.self c.args.to c.args.area _ is;
      reads = rw (ap items_of is)
          (sym (each_goes (a_register c.args.registers) had (words_of c.loop-rest.rest.now) c.in_ok-item.item (words_of c.in_ok-item.after.now) more c.in_ok-item.ensures.value) ∙ c.loop-rest.invariant.reads);
      count = rw (ap items_of is) (omega (arith, more, c.in_ok-item.ensures.left, c.loop-rest.invariant.count, length-append had (c.in_ok-item.item ∷ [])));
    }

pub returns-clause-items : goal.returns-clause-items
returns-clause-items c =
    let none : length c.loop-rest.rest.now ≤ 0 = grind (arith, nat_tests, c.loop-rest-test.ensures) in
    sym c.loop-rest.invariant.reads ∙ each_ends (a_register c.args.registers) (items_of c.loop-rest.command) (words_of c.loop-rest.rest.now) (omega (arith, ap length (words_none _ none)))
