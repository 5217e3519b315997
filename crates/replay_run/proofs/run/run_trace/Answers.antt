use Rattle.std.proofs.Common.{◌∙◌, ap, arith, inl, inr, refl, sym, take}
use Rattle.line_input.proofs.Cuts.{passes_whole}
use Rattle.line_input.proofs.ReaderInvariant.{falls}
use Rattle.input_verdict.specs.Events.{Does, event_of}
use Rattle.input_verdict.specs.Verdict.{enough}
use Rattle.input_verdict.proofs.AcceptedLines.{goes_on, next_bytes}
use Rattle.replay_run.proofs.SessionInvariant.{going_start, going_filled, passes_accepted}
use Rattle.replay_run.proofs.Events.{idle_opens, is_in, stands_command, takes_command, takes_with}
use Rattle.replay_run.proofs.RunEnds.{next_part, ran_end, ran_fetch, ran_judge, unopened, unread}
use Rattle.replay_run.proofs.AcceptedLines.{fits_accepted, going_act, ran_stopped, stopped_opened}
use Rattle.replay_run.proofs.PassedLines.{going_here, going_passed}
use Rattle.replay_run.proofs.run.run_trace.Goals as goal

pub loop-found-init : goal.loop-found-init
loop-found-init g c = record {
  going = rw (c.start-place.ensures, c.new.ensures) (going_start (g.E.Engine.faults c.args.engine.now) c.args.reader.now c.args.buffer.now.pending c.requires.bytes c.requires.empty (c.requires.idle, refl));
  place = rw (c.start-place.ensures, c.new.ensures) (record { counts = record { few = omega arith; within = omega arith }; accepted = λ is. absurd (cc (is)) });
  end = λ is. let off = c.requires.ended in cc;
  source = refl;
  sink = refl;
}

-- a command that was buffered

pub serve-requires-clause-can : goal.serve-requires-clause-can
serve-requires-clause-can g c =
    let place = c.pass_conses.new.place in
    let held = c.pass_conses.new.reader in
    let found = c.in-Some.found in
    let e = c.in-Some.ensures in
    let i = c.loop-found.invariant in
    let passed = c.pass_conses.ensures.judged in
    let went = going_passed passed.0 passed.1 i.going i.end in
    takes_command place c.judge_buffered.new.place (g.E.Engine.takes c.loop-found.engine) went.takes_all (Does c.judge_buffered.new.command) (goes_on place (take found.length held.bytes) found.size _ e.judged) e.allowed c.judge_buffered.new.command refl

pub serve-requires-clause-stands : goal.serve-requires-clause-stands
serve-requires-clause-stands g c =
    let place = c.pass_conses.new.place in
    let held = c.pass_conses.new.reader in
    let found = c.in-Some.found in
    let e = c.in-Some.ensures in
    let i = c.loop-found.invariant in
    let passed = c.pass_conses.ensures.judged in
    let went = going_passed passed.0 passed.1 i.going i.end in
    rw c.world.ensures (stands_command place c.judge_buffered.new.place (g.E.Engine.stands c.loop-found.engine) (is_in place c.pass_conses.ensures.stays_sound went.tells went.limits) (Does c.judge_buffered.new.command) (goes_on place (take found.length held.bytes) found.size _ e.judged) c.judge_buffered.new.command refl)

pub returns-in-Err-clause-ran : goal.returns-in-Err-clause-ran
returns-in-Err-clause-ran g c =
    let held = c.pass_conses.new.reader in
    let found = c.in-Some.found in
    let e = c.in-Some.ensures in
    let p = passes_whole held found e.found in
    let i = c.loop-found.invariant in
    let passed = c.pass_conses.ensures.judged in
    let went = going_passed passed.0 passed.1 i.going i.end in
    rw c.stop.ensures.value (ran_stopped went c.pass_conses.ensures.stays_sound (λ is. i.end (sym c.pass_conses.ensures.ended ∙ is)) found p _ e.judged (g.E.Engine.faults c.serve.new.engine) (Does c.judge_buffered.new.command) c.in-Err.halt refl (λ is. absurd (cc (is))) (c.serve.ensures.never_falls, rw c.world.ensures at c.in-Err.ensures.did))

pub returns-in-Err-clause-unopened : goal.returns-in-Err-clause-unopened
returns-in-Err-clause-unopened g c = λ bytes tells none.
    let held = c.pass_conses.new.reader in
    let found = c.in-Some.found in
    let e = c.in-Some.ensures in
    let p = passes_whole held found e.found in
    let i = c.loop-found.invariant in
    let passed = c.pass_conses.ensures.judged in
    let went = going_passed passed.0 passed.1 i.going i.end in
    absurd (stopped_opened went c.pass_conses.ensures.stays_sound (λ is. i.end (sym c.pass_conses.ensures.ended ∙ is)) found p _ e.judged _ _ _ _ (Does c.judge_buffered.new.command) c.in-Err.halt refl (c.serve.ensures.never_falls, rw c.world.ensures at c.in-Err.ensures.did) bytes tells none)

pub loop-found-smaller-in-Some : goal.loop-found-smaller-in-Some
loop-found-smaller-in-Some g c =
    let place = c.pass_conses.new.place in
    let held = c.pass_conses.new.reader in
    let found = c.in-Some.found in
    let e = c.in-Some.ensures in
    let p = passes_whole held found e.found in
    let less = falls place.bytes c.judge_buffered.new.place.bytes found.size (next_bytes place (take found.length held.bytes) found.size _ e.judged) p.some (fits_accepted held found place _ e.judged p) in
    omega (arith, less, c.pass_conses.ensures.never_falls)

pub loop-found-preserved-in-Some : goal.loop-found-preserved-in-Some
loop-found-preserved-in-Some g c =
    let place = c.pass_conses.new.place in
    let held = c.pass_conses.new.reader in
    let found = c.in-Some.found in
    let e = c.in-Some.ensures in
    let p = passes_whole held found e.found in
    let i = c.loop-found.invariant in
    let passed = c.pass_conses.ensures.judged in
    let went = going_passed passed.0 passed.1 i.going i.end in
    record {
      going = going_act went c.pass_conses.ensures.stays_sound (λ is. i.end (sym c.pass_conses.ensures.ended ∙ is)) found p _ e.judged c.pass.new.self c.pass.ensures.bytes c.pass.ensures.ended (c.serve.ensures.never_falls, rw c.world.ensures at c.in-Ok.ensures.did) c.serve.ensures.takes;
      place = c.judge_buffered.ensures.stays_sound;
      end = λ is. i.end (sym c.pass_conses.ensures.ended ∙ sym c.pass.ensures.ended ∙ is);
      source = i.source;
      sink = c.in-Ok.ensures.sink.quiet (λ is. cc (is)) ∙ i.sink;
    }

-- any other line

pub returns-in-Ok-None-clause-ran : goal.returns-in-Ok-None-clause-ran
returns-in-Ok-None-clause-ran g c =
    let e = c.in-Ok-None.ensures in
    let i = c.loop-found.invariant in
    let passed = c.pass_conses.ensures.judged in
    let went = going_here (c.judge_buffered.ensures.none c.in_default.is) (going_passed passed.0 passed.1 i.going i.end) in
    let going = going_filled c.find_and_judge.new.reader went e.filled in
    let none = rw c.in-Ok-None.field-0-is at e.judged in
    rw (c.close.ensures, none.2) (ran_end going c.judge_buffered.ensures.stays_sound e.end (none.0, none.1))

pub returns-in-Ok-None-clause-unopened : goal.returns-in-Ok-None-clause-unopened
returns-in-Ok-None-clause-unopened g c = λ bytes tells none.
    let e = c.in-Ok-None.ensures in
    let i = c.loop-found.invariant in
    let passed = c.pass_conses.ensures.judged in
    let went = going_here (c.judge_buffered.ensures.none c.in_default.is) (going_passed passed.0 passed.1 i.going i.end) in
    let going = going_filled c.find_and_judge.new.reader went e.filled in
    (going.idle_before (unopened going c.judge_buffered.ensures.stays_sound e.end bytes tells none)).1

pub returns-in-Err-find_and_judge-clause-ran : goal.returns-in-Err-find_and_judge-clause-ran
returns-in-Err-find_and_judge-clause-ran g c =
    let e = c.in-Err-find_and_judge.ensures in
    let i = c.loop-found.invariant in
    let passed = c.pass_conses.ensures.judged in
    let went = going_here (c.judge_buffered.ensures.none c.in_default.is) (going_passed passed.0 passed.1 i.going i.end) in
    let going = going_filled c.find_and_judge.new.reader went e.filled in
    elim e.judged [
      | inl m ↦ rw m.stops (ran_fetch going c.judge_buffered.ensures.stays_sound e.end _ m.halt refl m.fetched)
      | inr r ↦
          rw r.refused.stops
          (ran_judge going c.judge_buffered.ensures.stays_sound e.end _ r.found r.refused.trouble r.refused.place' refl r.here r.refused.judged r.refused.early (λ none. ap (λ e. g.E.Engine.loaded e) (going.idle_before none).1 ∙ c.idle_has_no_world.ensures c.requires.idle))
    ]

pub returns-in-Err-find_and_judge-clause-unopened : goal.returns-in-Err-find_and_judge-clause-unopened
returns-in-Err-find_and_judge-clause-unopened g c = λ bytes tells none.
    let e = c.in-Err-find_and_judge.ensures in
    let i = c.loop-found.invariant in
    let passed = c.pass_conses.ensures.judged in
    let went = going_here (c.judge_buffered.ensures.none c.in_default.is) (going_passed passed.0 passed.1 i.going i.end) in
    let going = going_filled c.find_and_judge.new.reader went e.filled in
    (going.idle_before (unopened going c.judge_buffered.ensures.stays_sound e.end bytes tells none)).1

pub returns-in-Err-find_and_judge-clause-unread : goal.returns-in-Err-find_and_judge-clause-unread
returns-in-Err-find_and_judge-clause-unread g c = λ bytes b tells gave none stopped.
    let e = c.in-Err-find_and_judge.ensures in
    let i = c.loop-found.invariant in
    let passed = c.pass_conses.ensures.judged in
    let went = going_here (c.judge_buffered.ensures.none c.in_default.is) (going_passed passed.0 passed.1 i.going i.end) in
    let going = going_filled c.find_and_judge.new.reader went e.filled in
    let part = next_part c.judge_buffered.new.place c.find_and_judge.new.reader c.find_and_judge.new.buffer.pending c.in-Err-find_and_judge.stop e.judged (cc (stopped)) in
    (going.idle_before (unread going c.judge_buffered.ensures.stays_sound e.end _ part.0 part.1 bytes b tells gave none)).1

pub act-requires-clause-can : goal.act-requires-clause-can
act-requires-clause-can g c = λ is.
    let i = c.loop-found.invariant in
    let passed = c.pass_conses.ensures.judged in
    let went = going_here (c.judge_buffered.ensures.none c.in_default.is) (going_passed passed.0 passed.1 i.going i.end) in
    let next = rw c.in-Ok-Some.field-0-is at c.in-Ok-Some.ensures.judged in
    takes_command c.judge_buffered.new.place c.find_and_judge.new.place (g.E.Engine.takes c.loop-found.engine) went.takes_all (event_of c.in-Ok-Some.next.effect c.find_and_judge.new.command) (goes_on c.judge_buffered.new.place (take next.found.length c.find_and_judge.new.reader.bytes) next.found.size _ next.accepted) (rw c.in-Ok-Some.field-0-is at c.in-Ok-Some.ensures.allowed) c.find_and_judge.new.command (ap (λ effect. event_of effect c.find_and_judge.new.command) is)

pub act-requires-clause-stands : goal.act-requires-clause-stands
act-requires-clause-stands g c = λ is.
    let i = c.loop-found.invariant in
    let passed = c.pass_conses.ensures.judged in
    let went = going_here (c.judge_buffered.ensures.none c.in_default.is) (going_passed passed.0 passed.1 i.going i.end) in
    let next = rw c.in-Ok-Some.field-0-is at c.in-Ok-Some.ensures.judged in
    rw c.world-in-loop-found.ensures (stands_command c.judge_buffered.new.place c.find_and_judge.new.place (g.E.Engine.stands c.loop-found.engine) (is_in c.judge_buffered.new.place c.judge_buffered.ensures.stays_sound went.tells went.limits) (event_of c.in-Ok-Some.next.effect c.find_and_judge.new.command) (goes_on c.judge_buffered.new.place (take next.found.length c.find_and_judge.new.reader.bytes) next.found.size _ next.accepted) c.find_and_judge.new.command (ap (λ effect. event_of effect c.find_and_judge.new.command) is))

pub act-requires-clause-idle : goal.act-requires-clause-idle
act-requires-clause-idle g c = λ is.
    let i = c.loop-found.invariant in
    let passed = c.pass_conses.ensures.judged in
    let went = going_here (c.judge_buffered.ensures.none c.in_default.is) (going_passed passed.0 passed.1 i.going i.end) in
    let next = rw c.in-Ok-Some.field-0-is at c.in-Ok-Some.ensures.judged in
    idle_opens c.judge_buffered.new.place c.find_and_judge.new.place (g.E.Engine.is_idle c.loop-found.engine) (λ none. (went.idle_before none).0) (event_of c.in-Ok-Some.next.effect c.find_and_judge.new.command) (goes_on c.judge_buffered.new.place (take next.found.length c.find_and_judge.new.reader.bytes) next.found.size _ next.accepted) (ap (λ effect. event_of effect c.find_and_judge.new.command) is)

pub returns-in-Err-act-clause-ran : goal.returns-in-Err-act-clause-ran
returns-in-Err-act-clause-ran g c =
    let e = c.in-Ok-Some.ensures in
    let i = c.loop-found.invariant in
    let passed = c.pass_conses.ensures.judged in
    let went = going_here (c.judge_buffered.ensures.none c.in_default.is) (going_passed passed.0 passed.1 i.going i.end) in
    let going = going_filled c.find_and_judge.new.reader went e.filled in
    let next = rw c.in-Ok-Some.field-0-is at c.in-Ok-Some.ensures.judged in
    let p = passes_accepted c.find_and_judge.new.reader (enough c.judge_buffered.new.place) next.found c.judge_buffered.new.place _ c.judge_buffered.ensures.stays_sound.counts.within refl next.accepted next.here in
    rw c.stop-in-Err-act.ensures.value (ran_stopped going c.judge_buffered.ensures.stays_sound e.end next.found p _ next.accepted (g.E.Engine.faults c.act.new.engine) (event_of c.in-Ok-Some.next.effect c.find_and_judge.new.command) c.in-Err-act.halt refl c.in-Err-act.ensures.err (rw c.world-in-loop-found.ensures at c.in-Err-act.ensures.did))

pub returns-in-Err-act-clause-unopened : goal.returns-in-Err-act-clause-unopened
returns-in-Err-act-clause-unopened g c = λ bytes tells none.
    let e = c.in-Ok-Some.ensures in
    let i = c.loop-found.invariant in
    let passed = c.pass_conses.ensures.judged in
    let went = going_here (c.judge_buffered.ensures.none c.in_default.is) (going_passed passed.0 passed.1 i.going i.end) in
    let going = going_filled c.find_and_judge.new.reader went e.filled in
    let next = rw c.in-Ok-Some.field-0-is at c.in-Ok-Some.ensures.judged in
    let p = passes_accepted c.find_and_judge.new.reader (enough c.judge_buffered.new.place) next.found c.judge_buffered.new.place _ c.judge_buffered.ensures.stays_sound.counts.within refl next.accepted next.here in
    absurd (stopped_opened going c.judge_buffered.ensures.stays_sound e.end next.found p _ next.accepted _ _ _ _ (event_of c.in-Ok-Some.next.effect c.find_and_judge.new.command) c.in-Err-act.halt refl (rw c.world-in-loop-found.ensures at c.in-Err-act.ensures.did) bytes tells none)

pub loop-found-smaller : goal.loop-found-smaller
loop-found-smaller g c =
    let next = rw c.in-Ok-Some.field-0-is at c.in-Ok-Some.ensures.judged in
    let p = passes_accepted c.find_and_judge.new.reader (enough c.judge_buffered.new.place) next.found c.judge_buffered.new.place _ c.judge_buffered.ensures.stays_sound.counts.within refl next.accepted next.here in
    let less = falls c.judge_buffered.new.place.bytes c.find_and_judge.new.place.bytes next.found.size (next_bytes c.judge_buffered.new.place (take next.found.length c.find_and_judge.new.reader.bytes) next.found.size _ next.accepted) p.some (fits_accepted c.find_and_judge.new.reader next.found c.judge_buffered.new.place _ next.accepted p) in
    omega (arith, less, c.pass_conses.ensures.never_falls, ap (λ place. place.bytes) (c.judge_buffered.ensures.none c.in_default.is))

pub loop-found-preserved : goal.loop-found-preserved
loop-found-preserved g c =
    let e = c.in-Ok-Some.ensures in
    let i = c.loop-found.invariant in
    let passed = c.pass_conses.ensures.judged in
    let went = going_here (c.judge_buffered.ensures.none c.in_default.is) (going_passed passed.0 passed.1 i.going i.end) in
    let going = going_filled c.find_and_judge.new.reader went e.filled in
    let next = rw c.in-Ok-Some.field-0-is at c.in-Ok-Some.ensures.judged in
    let p = passes_accepted c.find_and_judge.new.reader (enough c.judge_buffered.new.place) next.found c.judge_buffered.new.place _ c.judge_buffered.ensures.stays_sound.counts.within refl next.accepted next.here in
    record {
      going = going_act going c.judge_buffered.ensures.stays_sound e.end next.found p _ next.accepted c.pass-in-Ok-act.new.self (rw next.all at c.pass-in-Ok-act.ensures.bytes) c.pass-in-Ok-act.ensures.ended (rw c.world-in-loop-found.ensures at c.in-Ok-act.ensures.did)
          (takes_with _ _ _ _ _ (event_of c.in-Ok-Some.next.effect c.find_and_judge.new.command) (λ nothing same. c.in-Ok-act.ensures.unchanged nothing ∙ same) (rw c.world-in-loop-found.ensures at c.in-Ok-act.ensures.takes));
      place = e.stays_sound;
      end = λ is. e.end (sym c.pass-in-Ok-act.ensures.ended ∙ is);
      source = e.source.quiet (λ is. cc (is)) ∙ i.source;
      sink = c.in-Ok-act.ensures.sink.quiet (λ is. cc (is)) ∙ e.sink.quiet (λ is. cc (is)) ∙ i.sink;
    }
