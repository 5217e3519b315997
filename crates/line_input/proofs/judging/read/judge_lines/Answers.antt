use Rattle.std.proofs.Common.{◌∙◌, refl, sym}
use Rattle.line_input.proofs.ReaderInvariant.{going_filled, going_passed, going_start, less_left, passes_accepted, start_place, was_read_end, was_read_fault, was_read_refused}
use Rattle.line_input.proofs.judging.read.judge_lines.Goals as goal

pub loop-found-init : goal.loop-found-init
loop-found-init g c = record {
  going = going_start g.J.LineJudge.rules c.args.judge c.start-place.result c.args.reader.now c.start-place.ensures c.requires.bytes;
  place = start_place c.args.judge c.start-place.result c.start-place.ensures;
  end = λ is. (let off = c.requires.ended in cc);
  source = refl;
}

pub returns-in-Ok-None-clause-judged : goal.returns-in-Ok-None-clause-judged
returns-in-Ok-None-clause-judged g c =
    let e = c.in-Ok-None.ensures in
    let going = going_filled g.J.LineJudge.rules c.args.judge c.next.new.self c.loop-found.invariant.going e.given e.ended in
    let none = rw c.in-Ok-None.field-0-is at e.value in
    was_read_end g.J.LineJudge.rules c.args.judge c.close.result going none.0 (e.end none.1) c.close.ensures.value

pub returns-in-Err-clause-judged : goal.returns-in-Err-clause-judged
returns-in-Err-clause-judged g c =
    let e = c.in-Err.ensures in
    let going = going_filled g.J.LineJudge.rules c.args.judge c.next.new.self c.loop-found.invariant.going e.given e.ended in
    was_read_fault g.J.LineJudge.rules c.args.judge going c.enough.result c.loop-found.invariant.place.within c.enough.ensures.value e.err e.open

pub returns-in-Err-line-clause-judged : goal.returns-in-Err-line-clause-judged
returns-in-Err-line-clause-judged g c =
    let e = c.in-Ok-Some.ensures in
    let going = going_filled g.J.LineJudge.rules c.args.judge c.next.new.self c.loop-found.invariant.going e.given e.ended in
    let judged = rw c.bytes.ensures.value at c.in-Err-line.ensures.judged in
    let is = rw c.in-Ok-Some.field-0-is at e.value in
    was_read_refused g.J.LineJudge.rules c.args.judge going c.enough.result c.in-Ok-Some.found c.line.new.self c.in-Err-line.trouble e.end c.loop-found.invariant.place.within c.enough.ensures.value is judged

pub loop-found-smaller : goal.loop-found-smaller
loop-found-smaller g c =
    let e = c.in-Ok-Some.ensures in
    let judged = rw c.bytes.ensures.value at c.in-Ok.ensures.judged in
    let fits = rw c.in-Ok-Some.field-0-is at e.fits in
    less_left g.J.LineJudge.rules c.args.judge c.loop-found.place c.line.new.self c.next.new.self c.in-Ok-Some.found judged fits e.at_most

pub loop-found-preserved : goal.loop-found-preserved
loop-found-preserved g c =
    let e = c.in-Ok-Some.ensures in
    let going = going_filled g.J.LineJudge.rules c.args.judge c.next.new.self c.loop-found.invariant.going e.given e.ended in
    let judged = rw c.bytes.ensures.value at c.in-Ok.ensures.judged in
    let is = rw c.in-Ok-Some.field-0-is at e.value in
    let p = passes_accepted g.J.LineJudge.rules c.args.judge c.next.new.self c.enough.result c.in-Ok-Some.found c.loop-found.place c.line.new.self c.loop-found.invariant.place.within c.enough.ensures.value judged is in
    record {
      going = going_passed g.J.LineJudge.rules c.args.judge c.line.new.self c.pass.new.self c.in-Ok-Some.found going p judged c.pass.ensures.bytes c.pass.ensures.ended;
      place = c.in-Ok.ensures.stays_sound;
      end = λ whole. e.end (sym c.pass.ensures.ended ∙ whole);
      source = e.cause.quiet ∙ c.loop-found.invariant.source;
    }
