use Rattle.std.proofs.Common.{◌-◌, ◌<◌, ◌^◌, ◌∙◌, refl, sym}
use Rattle.line_input.specs.WorldFile.{file_rules, start}
use Rattle.line_input.proofs.Cuts.{passes_whole}
use Rattle.line_input.proofs.ReaderInvariant.{going_filled, going_passed, going_start, less_left, passes_accepted, start_place, was_read_end, was_read_fault, was_read_refused}
use Rattle.file_modes.proofs.BufferedConses.{going_same, whole_fits}
use Rattle.file_modes.proofs.read.judge_world.Goals as goal

pub loop-cons-init : goal.loop-cons-init
loop-cons-init g c =
    let first = rw c.start.ensures at c.start-place.ensures in
    record {
      going = going_start file_rules start c.start-place.result c.args.reader.now first c.requires.bytes;
      place = start_place start c.start-place.result first;
      end = λ is. (let off = c.requires.ended in cc);
      source = refl;
    }

pub loop-cons-smaller-in-Some : goal.loop-cons-smaller-in-Some
loop-cons-smaller-in-Some g c =
    let e = c.in-Some.ensures in
    less_left file_rules start c.loop-cons.place c.buffered_cons.new.place c.loop-cons.reader c.in-Some.cons e.judged (whole_fits c.loop-cons.reader c.in-Some.cons e.found) e.at_most

pub loop-cons-preserved-in-Some : goal.loop-cons-preserved-in-Some
loop-cons-preserved-in-Some g c =
    let e = c.in-Some.ensures in
    let i = c.loop-cons.invariant in
    record {
      going = going_passed file_rules start c.buffered_cons.new.place c.pass.new.self c.in-Some.cons i.going (passes_whole c.loop-cons.reader c.in-Some.cons e.found) e.judged c.pass.ensures.bytes c.pass.ensures.ended;
      place = c.buffered_cons.ensures.stays_sound;
      end = λ whole. i.end (sym c.pass.ensures.ended ∙ whole);
      source = i.source;
    }

pub returns-in-Ok-None-clause-judged : goal.returns-in-Ok-None-clause-judged
returns-in-Ok-None-clause-judged g c =
    let e = c.in-Ok-None.ensures in
    let same = c.buffered_cons.ensures.none c.in_default.is in
    let going = going_filled file_rules start c.next.new.self (going_same same c.loop-cons.invariant.going) e.given e.ended in
    let none = rw c.in-Ok-None.field-0-is at e.value in
    was_read_end file_rules start c.close.result going none.0 (e.end none.1) c.close.ensures.value

pub returns-in-Err-clause-judged : goal.returns-in-Err-clause-judged
returns-in-Err-clause-judged g c =
    let e = c.in-Err.ensures in
    let same = c.buffered_cons.ensures.none c.in_default.is in
    let going = going_filled file_rules start c.next.new.self (going_same same c.loop-cons.invariant.going) e.given e.ended in
    was_read_fault file_rules start going c.enough.result c.buffered_cons.ensures.stays_sound.within c.enough.ensures.value e.err e.open

pub returns-in-Err-line-clause-judged : goal.returns-in-Err-line-clause-judged
returns-in-Err-line-clause-judged g c =
    let e = c.in-Ok-Some.ensures in
    let same = c.buffered_cons.ensures.none c.in_default.is in
    let going = going_filled file_rules start c.next.new.self (going_same same c.loop-cons.invariant.going) e.given e.ended in
    let judged = rw c.bytes.ensures.value at c.in-Err-line.ensures.judged in
    let is = rw c.in-Ok-Some.field-0-is at e.value in
    was_read_refused file_rules start going c.enough.result c.in-Ok-Some.found c.line.new.self c.in-Err-line.trouble e.end c.buffered_cons.ensures.stays_sound.within c.enough.ensures.value is judged

pub loop-cons-smaller : goal.loop-cons-smaller
loop-cons-smaller g c =
    let e = c.in-Ok-Some.ensures in
    let same = c.buffered_cons.ensures.none c.in_default.is in
    let judged = rw c.bytes.ensures.value at c.in-Ok.ensures.judged in
    let fits = rw c.in-Ok-Some.field-0-is at e.fits in
    let less : 2 ^ 40 - c.line.new.self.bytes < 2 ^ 40 - c.buffered_cons.new.place.bytes = less_left file_rules start c.buffered_cons.new.place c.line.new.self c.next.new.self c.in-Ok-Some.found judged fits e.at_most in
    rw same at less

pub loop-cons-preserved : goal.loop-cons-preserved
loop-cons-preserved g c =
    let e = c.in-Ok-Some.ensures in
    let same = c.buffered_cons.ensures.none c.in_default.is in
    let going = going_filled file_rules start c.next.new.self (going_same same c.loop-cons.invariant.going) e.given e.ended in
    let judged = rw c.bytes.ensures.value at c.in-Ok.ensures.judged in
    let is = rw c.in-Ok-Some.field-0-is at e.value in
    let p = passes_accepted file_rules start c.next.new.self c.enough.result c.in-Ok-Some.found c.buffered_cons.new.place c.line.new.self c.buffered_cons.ensures.stays_sound.within c.enough.ensures.value judged is in
    record {
      going = going_passed file_rules start c.line.new.self c.pass-in-loop-cons.new.self c.in-Ok-Some.found going p judged c.pass-in-loop-cons.ensures.bytes c.pass-in-loop-cons.ensures.ended;
      place = c.in-Ok.ensures.stays_sound;
      end = λ whole. e.end (sym c.pass-in-loop-cons.ensures.ended ∙ whole);
      source = e.cause.quiet ∙ c.loop-cons.invariant.source;
    }
