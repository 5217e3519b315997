use Rattle.std.proofs.Common.{◌∙◌, suc, zero, ap, arith, length, refl, take}
use Rattle.std.proofs.lemmas.List.{length-drop}
use Rattle.input_verdict.proofs.AcceptedLines.{next_bytes}
use Rattle.input_verdict.proofs.conses.pass_each.Goals as goal

pub loop-cons-init : goal.loop-cons-init
loop-cons-init c = record { passed = (zero, (refl, refl)); place = c.requires; ended = refl; never_falls = omega arith }

pub loop-cons-smaller : goal.loop-cons-smaller
loop-cons-smaller c =
    let e = c.in-Some.ensures in
    omega (arith, e.found.below, e.found.size, ap length c.pass.ensures.bytes, length-drop c.in-Some.cons.size c.loop-cons.reader.bytes)

pub loop-cons-preserved : goal.loop-cons-preserved
loop-cons-preserved c =
    let e = c.in-Some.ensures in
    let i = c.loop-cons.invariant in
    record {
      passed = (suc i.passed.0, (c.loop-cons.place, c.loop-cons.reader, i.passed.1, record { sound = i.place; found = c.in-Some.cons; here = e.found; accepted = e.judged; rest = c.pass.ensures.bytes; ended = c.pass.ensures.ended }));
      place = c.buffered_cons.ensures.stays_sound;
      ended = c.pass.ensures.ended ∙ i.ended;
      never_falls = omega (arith, i.never_falls, next_bytes c.loop-cons.place (take c.in-Some.cons.length c.loop-cons.reader.bytes) c.in-Some.cons.size _ e.judged);
    }

pub returns-clause-judged : goal.returns-clause-judged
returns-clause-judged c = rw (c.buffered_cons.ensures.none c.in_default.is) c.loop-cons.invariant.passed

pub returns-clause-ended : goal.returns-clause-ended
returns-clause-ended c = c.loop-cons.invariant.ended

pub returns-clause-never_falls : goal.returns-clause-never_falls
returns-clause-never_falls c = rw (c.buffered_cons.ensures.none c.in_default.is) c.loop-cons.invariant.never_falls
