-- A line of a session: what was fed before it, seen as a run whose source has given that, and what one more line adds.
use Rattle.std.proofs.Common.{◌≡◌, ◌≢◌, inl, inr, ℕ, zero, suc, ◌+◌, ◌-◌, ◌<◌, ◌≤◌, ◌^◌, List, [], ◌∷◌, ◌++◌, length, take, drop, not, ◌&&◌, ◌==◌, Bool, true, false, Option, Some, None, Result, Ok, Err, refl, sym, ap, ◌∙◌, subst, arith}
use Rattle.std.specs.Prelude.{count_by, if◌then◌else◌, is_some}
use Rattle.std.proofs.lemmas.List.{append-nil, append_assoc, length-append, length-take-le, take_all, drop_all, drop_at, get_or_at, take-append-le}
use Rattle.std.proofs.Math.Seq.{drop-nil}
use Rattle.std.proofs.lemmas.Bool.Decides.{leb_tells}
use Rattle.outer_ports.specs.Ports.{Gained}
use Rattle.outer_ports.specs.Buffers.{Gathered}
use Rattle.outer_ports.proofs.Gains.{gained_nothing}
use Rattle.lisp_graph.specs.declared.command.Command.{Command}
use Rattle.lisp_graph.specs.declared.world.World.{World}
use Rattle.paged_machine.specs.lisp_meaning.State.{State}
use Rattle.paged_machine.specs.lisp_meaning.Opening.{opening}
use Rattle.paged_machine.specs.lisp_meaning.Run.{Run}
use Rattle.paged_machine.specs.Holding.{Holding, StandsFor, Takes}
use Rattle.line_input.specs.declared.lines.found.LineSpan.{LineSpan}
use Rattle.line_input.specs.declared.statuses.status.Status.{Status}
use Rattle.line_input.specs.declared.statuses.status.Status.TheVariants.{Done}
use Rattle.line_input.specs.declared.statuses.status.RunError.{RunError}
use Rattle.line_input.specs.declared.statuses.status.RunError.TheVariants as trouble
use Rattle.line_input.specs.declared.statuses.status.RunStop.{RunStop}
use Rattle.line_input.specs.declared.statuses.status.RunStop.TheVariants.{Write, Tell}
use Rattle.line_input.specs.Limits.{enough_bytes}
use Rattle.line_input.specs.Lines.{Line, lines_of, size_of, whole_lines}
use Rattle.line_input.specs.Reader.{Buffered, IsFound, no_feed, without_latest}
use Rattle.line_input.specs.Statuses.{Finished, status_of, trouble_line}
use Rattle.line_input.specs.Verdict.{early_reason}
use Rattle.world_text.specs.declared.reading.reason.Reason.{Reason}
use Rattle.world_text.specs.declared.reading.reason.Reason.TheVariants.{NotAWorld}
use Rattle.line_input.proofs.Cuts.{Passes}
use Rattle.input_verdict.specs.Input.{JudgedInput, start_place}
use Rattle.input_verdict.specs.Events.{Event, Nothing, Opens, Does}
use Rattle.input_verdict.specs.Places.{IsPlace, Judged}
use Rattle.input_verdict.specs.Verdict.{Next, Read, Said, Stopped, Whole, Broken, decided, ending_at, enough, ended, judged, judged_as, noted, start, world_of}
use Rattle.input_verdict.proofs.VerdictInvariant.{AreInLimits, judged_keeps}
use Rattle.replay_run.specs.declared.halt.LoopExit.{LoopExit}
use Rattle.replay_run.specs.declared.halt.LoopExit.TheVariants as halts
use Rattle.replay_run.specs.Replies.{Answered, is_fault}
use Rattle.replay_run.specs.Outcome.{Wrote}
use Rattle.replay_run.specs.Session.{GoesOn, Seen, fed_of, observed, trouble_of}
use Rattle.replay_run.specs.Steps.{Acted, FailsInDump, Tells, closed, stop_of}
use Rattle.replay_run.specs.OneLine.{LineDone, LineHalted, LineRefused}
use Rattle.replay_run.proofs.Observations.{HasRun, HasStopped, observes}
use Rattle.replay_run.proofs.Runs.{run_length}
use Rattle.replay_run.proofs.BufferedReplies.{tells_answered}
use Rattle.replay_run.proofs.SessionInvariant.{Going, passes_accepted}
use Rattle.replay_run.proofs.RunEnds.{ran_end, ran_judge}
use Rattle.replay_run.proofs.AcceptedLines.{going_act, ran_stopped}
use Rattle.replay_run.proofs.LastLine.{ran_finish}

-- What was read

-- more lines are read after the others
decided_then : (from to : Read) (said : Said) (lines rest : List Line) → ((next : Read) → judged next lines ≡ Ok to → judged next (lines ++ rest) ≡ judged to rest)
    → decided from said (λ next. judged next lines) ≡ Ok to → decided from said (λ next. judged next (lines ++ rest)) ≡ judged to rest
decided_then from to (Ok next) lines rest more is = more (noted from next.event next.place) is
decided_then from to (Err trouble) lines rest more is = absurd (cc (is))

judged_then : (from to : Read) (lines rest : List Line) → judged from lines ≡ Ok to → judged from (lines ++ rest) ≡ judged to rest
judged_then from to [] rest is = let same : from ≡ to = cc (is) in ap (λ r. judged r rest) same
judged_then from to (line ∷ lines) rest is = decided_then from to (judged_as from.place line.text (size_of line)) lines rest (λ next. judged_then next to lines rest) is

-- each command has its start
noted_counts : (read : Read) (event : Event) (place : JudgedInput) → length read.starts ≡ length read.commands → length (noted read event place).starts ≡ length (noted read event place).commands
noted_counts read Nothing place same = same
noted_counts read Opens place same = same
noted_counts read (Does command) place same = omega (arith, same, length-append read.starts (read.place.bytes ∷ []), length-append read.commands (command ∷ []))

decided_counts : (from to : Read) (said : Said) (lines : List Line) → ((next : Read) → length next.starts ≡ length next.commands → judged next lines ≡ Ok to → length to.starts ≡ length to.commands)
    → length from.starts ≡ length from.commands → decided from said (λ next. judged next lines) ≡ Ok to → length to.starts ≡ length to.commands
decided_counts from to (Ok next) lines more same is = more (noted from next.event next.place) (noted_counts from next.event next.place same) is
decided_counts from to (Err trouble) lines more same is = absurd (cc (is))

judged_counts : (from to : Read) (lines : List Line) → length from.starts ≡ length from.commands → judged from lines ≡ Ok to → length to.starts ≡ length to.commands
judged_counts from to [] same is = let e : from ≡ to = cc (is) in subst (λ (r : Read). length r.starts ≡ length r.commands) e same
judged_counts from to (line ∷ lines) same is = decided_counts from to (judged_as from.place line.text (size_of line)) lines (λ next. judged_counts next to lines) same is

judged_limits : (to : Read) (lines : List Line) → judged start lines ≡ Ok to → AreInLimits to.commands
judged_limits to lines is =
    let k = judged_keeps start lines in
    let e : to.commands ≡ k.commands = ap (λ (r : Result Read Stopped). (ended r).read.commands) (sym is) ∙ k.more in
    subst AreInLimits (sym e) k.limits

-- all replies were given
tells_all : (o : Option World) {commands : List Command} {stands : State → Type 0} {rose : ℕ} {w : List ℕ} → Answered o commands stands rose w → (o ≡ None → rose ≡ 0) → Tells o commands stands rose w [] (length commands)
tells_all None a unrisen = record { told = (a.0, a.1, refl, ap length a.0, unrisen refl) }
tells_all (Some world) {commands} {stands} {rose} {w} r unrisen = record {
  told = record {
    first = r.answers;
    later = [];
    last = r.last;
    run = subst (λ xs. Run (opening world) commands xs r.last) (sym (append-nil r.answers)) r.run;
    state = r.state;
    faults = subst (λ xs. count_by is_fault xs ≤ rose) (sym (append-nil r.answers)) r.faults;
    quiet = subst (λ xs. count_by is_fault xs ≡ 0 → rose ≡ 0) (sym (append-nil r.answers)) r.quiet;
    count = sym (run_length (opening world) r.last commands r.answers r.run);
    given = [];
    is = r.is ∙ sym (append-nil _);
    rest = refl;
  };
}

less_nothing : (n : ℕ) → n - 0 ≡ n
less_nothing n = omega arith

-- What a line adds

no_feed_take : (n : ℕ) (text : List ℕ) → no_feed text ≡ true → no_feed (take n text) ≡ true
no_feed_take zero text one = refl
no_feed_take (suc n) [] one = refl
no_feed_take (suc n) (byte ∷ text) one = go (not (byte == 10)) one (no_feed_take n text)
  where
    go : (fine : Bool) → fine && no_feed text ≡ true → (no_feed text ≡ true → no_feed (take n text) ≡ true) → fine && no_feed (take n text) ≡ true
    go true is rest = rest is
    go false is rest = cc (is)

-- a piece of an input that is a line, or a prefix of a line that decides it, as a reader buffers it
record IsFed (piece front : List ℕ) (most : ℕ) : Type 0 where
  found : IsFound (record { bytes = piece; ended = false }) most (record { length = length front; size = length piece })
  text : take (length front) piece ≡ front
  short : length piece ≤ 32769

line_fed : (text : List ℕ) (most : ℕ) → no_feed text ≡ true → length text ≤ 32768 → IsFed (text ++ 10 ∷ []) text most
line_fed text most one short =
    let all : take (length text) (text ++ 10 ∷ []) ≡ text = take-append-le (length text) text (10 ∷ []) (omega arith) ∙ take_all (length text) text (omega arith) in
    let long : length (text ++ 10 ∷ []) ≡ length text + 1 = length-append text (10 ∷ []) in
    record {
      found = inl (record { below = omega (arith, long); first = ap no_feed all ∙ one; feed = get_or_at text 10 [] 0 (length text) refl; size = long });
      text = all;
      short = omega (arith, long);
    }

front_fed : (text : List ℕ) (most : ℕ) → no_feed text ≡ true → most ≤ 32769 → 32769 ≤ length text → IsFed (take 32769 text) (take 32769 text) most
front_fed text most one few long =
    let all : length (take 32769 text) ≡ 32769 = length-take-le 32769 text long in
    record {
      found = inr (inr (record { some = omega (arith, all); none = no_feed_take 32769 text one; all = refl; size = refl }, omega (arith, all)));
      text = take_all (length (take 32769 text)) (take 32769 text) (omega arith);
      short = omega (arith, all);
    }

-- if a text is too long, a prefix of it is fed
pub fed_long : (text : List ℕ) → 32768 < length text → fed_of text ≡ take 32769 text
fed_long text long = elim (leb_tells (length text) 32768) [ inl h ↦ absurd (omega (arith, h.1)) | inr h ↦ rw h.0 refl ]

text_fed : (text : List ℕ) (most : ℕ) → no_feed text ≡ true → most ≤ 32769 → IsFed (fed_of text) (take 32769 text) most
text_fed text most one few = elim (leb_tells (length text) 32768) [
  | inl h ↦
      let whole : take 32769 text ≡ text = take_all 32769 text (omega (arith, h.1)) in
      let piece : fed_of text ≡ text ++ 10 ∷ [] = rw h.0 refl in
      subst (λ p. IsFed p (take 32769 text) most) (sym piece) (subst (λ f. IsFed (text ++ 10 ∷ []) f most) (sym whole) (line_fed text most one h.1))
  | inr h ↦
      let piece : fed_of text ≡ take 32769 text = rw h.0 refl in
      subst (λ p. IsFed p (take 32769 text) most) (sym piece) (front_fed text most one few (omega (arith, h.1)))
]

enough_most : (over : Bool) (bytes : ℕ) → enough_bytes (2 ^ 40) over bytes ≤ 32769
enough_most true bytes = omega arith
enough_most false bytes = omega arith

-- What a line did, for a sink that represented what was written before

gained_after : {old new : List ℕ} (written : List ℕ) {given : List ℕ} → old ≡ [] → Gained (λ had. old ≡ had) (λ had. new ≡ had) given → Gained (λ had. written ≡ had) (λ had. written ++ new ≡ had) given
gained_after {old} {new} written {given} none g =
    let all : new ≡ given = g.each [] none in
    record { each = λ had is. ap (λ h. h ++ new) is ∙ ap (λ x. had ++ x) all }

gathered_after : {old new : List ℕ} (written : List ℕ) {pending text : List ℕ} → old ≡ [] → Gathered (λ had. old ≡ had) (λ had. new ≡ had) pending text → Gathered (λ had. written ≡ had) (λ had. written ++ new ≡ had) pending text
gathered_after written none g = record { given = g.given; all = g.all; gained = gained_after written none g.gained }

acted_after : (old new written had pending : List ℕ) (world : World) (stood stands : State → Type 0) (faults faults' : ℕ) (event : Event) → old ≡ []
    → Acted event world stood stands faults faults' (λ h. old ≡ h) (λ h. new ≡ h) had pending (Ok tt) → Acted event world stood stands faults faults' (λ h. written ≡ h) (λ h. written ++ new ≡ h) had pending (Ok tt)
acted_after old new written had pending world stood stands faults faults' Nothing none acted = (gathered_after written none acted.0, acted.1, acted.2)
acted_after old new written had pending world stood stands faults faults' Opens none acted = (gathered_after written none acted.0, acted.1)
acted_after old new written had pending world stood stands faults faults' (Does command) none acted = (
  acted.0,
  λ s stood reached. elim (acted.1 s stood reached) [
    | inl a ↦ inl (record { answer = a.answer; new = a.new; does = a.does; state = a.state; fault = a.fault; quiet = a.quiet; gathers = record { whole = gathered_after written none a.gathers.whole; part = tt }; write = tt })
    | inr a ↦ absurd (let e = a.halt in cc (e))
  ],
)

-- if the sink had no room for a dump, the dump found no memory
abbrev told : LoopExit → LoopExit
told halts.Write = halts.Memory
told halts.Read = halts.Read
told halts.Memory = halts.Memory
told halts.Swap = halts.Swap

told_trouble : (halt : LoopExit) → stop_of (told halt) ≡ Tell (trouble_of (stop_of halt))
told_trouble halts.Write = refl
told_trouble halts.Read = refl
told_trouble halts.Memory = refl
told_trouble halts.Swap = refl

gathered_nothing : {held : List ℕ → Type 0} → Gathered held held [] []
gathered_nothing = record { given = []; all = refl; gained = gained_nothing }

acted_told : (held held' still : List ℕ → Type 0) (had pending : List ℕ) (world : World) (stood stands : State → Type 0) (faults faults' : ℕ) (halt : LoopExit) (event : Event)
    → (halt ≡ halts.Write → (command : Command) × (event ≡ Does command) × FailsInDump command stood stands faults faults')
    → Acted event world stood stands faults faults' held held' had pending (Err halt) → Acted event world stood stands faults faults' still still [] [] (Err (told halt))
acted_told held held' still had pending world stood stands faults faults' halt Nothing fails acted = absurd acted
acted_told held held' still had pending world stood stands faults faults' halt Opens fails acted = (gathered_nothing, elim acted.1 [ inl o ↦ inl (ap told o.0, o.1) | inr o ↦ inr (ap told o.0, o.1) ])
acted_told held held' still had pending world stood stands faults faults' halt (Does command) fails acted = (
  acted.0,
  λ s stood reached. elim (acted.1 s stood reached) [
    | inl a ↦
        let f = fails a.write in
        let same = f.1 in
        let dumps = f.2.dump in
        inr (record { dump = cc (same, dumps); halt = ap (λ h. Err (told h)) a.write; state = f.2.state s stood; quiet = f.2.quiet; gathered = gathered_nothing })
    | inr a ↦
        let e = a.halt in
        let memory : halt ≡ halts.Memory = cc (e) in
        inr (record { dump = a.dump; halt = ap (λ h. Err (told h)) memory; state = a.state; quiet = a.quiet; gathered = gathered_nothing })
  ],
)

-- Of a session, everything was fed as one piece.
feedless_all : (n : ℕ) (xs : List ℕ) → no_feed (drop n (without_latest (length xs) xs)) ≡ true
feedless_all n xs = let nothing : length xs - length xs ≡ 0 = omega arith in ap (λ k. no_feed (drop n (take k xs))) nothing ∙ ap no_feed (drop-nil n)

-- An open session, as a run

module _ {fed written : List ℕ} {s : Seen} (g : GoesOn fed written s) where
  -- the bytes of the next piece are in the reader's buffer
  pub going_of : (piece : List ℕ) (over : Bool) → length piece ≤ 32769
      → Going (Some (fed ++ piece)) (Some []) (length (fed ++ piece)) (λ had. [] ≡ had) (λ had. written ≡ had) (StandsFor s.machine.heap) (Takes s.machine.heap) (s.machine.idle ≡ true) 0 s.machine.faults s.place (record { bytes = piece; ended = over }) []
  going_of piece over short =
      let counts = judged_counts start g.read (lines_of fed) refl g.lines in
      record {
        lines = lines_of fed;
        b = fed ++ piece;
        w = written;
        read = g.read;
        m = length g.read.commands;
        base = s.place.bytes;
        taken = record {
          gave = ap Some (sym (append-nil (fed ++ piece)));
          cuts = λ more _. ap lines_of (append_assoc fed piece more) ∙ g.cuts (piece ++ more);
          wholes = λ _. g.whole;
          long = omega (arith, length-append fed piece, g.size);
          tail = ap (λ n. drop n (fed ++ piece)) (sym g.size) ∙ drop_at fed piece (length fed) refl;
        };
        gained = record { each = λ had is. ap (λ h. h ++ written) is };
        judges = λ rest. judged_then start g.read (lines_of fed) rest g.lines;
        at = g.at;
        counts = counts;
        limits = judged_limits g.read (lines_of fed) g.lines;
        tells = subst (λ rose. Tells (world_of s.place) g.read.commands (StandsFor s.machine.heap) rose written [] (length g.read.commands)) (sym (less_nothing s.machine.faults)) (tells_all (world_of s.place) g.answered g.untouched);
        takes_all = g.takes;
        idle_before = g.idle;
        later = omega arith;
        near = omega (arith, length-append fed piece, g.size, short);
        feedless = feedless_all s.place.bytes (fed ++ piece);
        behind = λ n above below. absurd (omega (arith, counts));
        reached = omega arith;
      }

-- a run between two lines, as an open session
goes_on_of : {last : ℕ} (fed written new pending : List ℕ) (place : JudgedInput) (machine : Holding) (s : Seen) → s.place ≡ place → s.machine ≡ machine
    → Going (Some fed) (Some []) last (λ had. [] ≡ had) (λ had. written ++ new ≡ had) (StandsFor machine.heap) (Takes machine.heap) (machine.idle ≡ true) 0 machine.faults place (record { bytes = []; ended = false }) pending
    → IsPlace place → GoesOn fed (written ++ (new ++ pending)) s
goes_on_of fed written new pending place machine s place_is machine_is going form = rw (place_is, machine_is) made
  where
    given : fed ≡ going.b ++ []
    given = let e = going.taken.gave in cc (e)

    bytes : fed ≡ going.b
    bytes = given ∙ append-nil going.b

    cut : lines_of fed ≡ going.lines ++ []
    cut = ap lines_of given ∙ going.taken.cuts [] (λ _. refl)

    same : lines_of fed ≡ going.lines
    same = cut ∙ append-nil going.lines

    all : written ++ new ≡ going.w
    all = going.gained.each [] refl

    none_rose : (o : Option World) → o ≡ None → Tells o going.read.commands (StandsFor machine.heap) (machine.faults - 0) going.w pending going.m → machine.faults ≡ 0
    none_rose o none tells = let t = (subst (λ o. Tells o going.read.commands (StandsFor machine.heap) (machine.faults - 0) going.w pending going.m) none tells).told in omega (arith, t.4)

    made : GoesOn fed (written ++ (new ++ pending)) (record { place = place; machine = machine; state = s.state; answer = s.answer })
    made = record {
      read = going.read;
      lines = ap (judged start) cut ∙ going.judges [];
      at = going.at;
      answered = subst (λ w. Answered (world_of place) going.read.commands (StandsFor machine.heap) machine.faults w) (ap (λ w. w ++ pending) (sym all) ∙ append_assoc written new pending)
          (subst (λ rose. Answered (world_of place) going.read.commands (StandsFor machine.heap) rose (going.w ++ pending)) (less_nothing machine.faults) (tells_answered going.tells));
      untouched = λ none. none_rose (world_of place) none going.tells;
      cuts = λ more. ap (λ xs. lines_of (xs ++ more)) bytes ∙ going.taken.cuts more (λ is. absurd (cc (is))) ∙ ap (λ ls. ls ++ lines_of more) (sym same);
      whole = ap whole_lines same ∙ going.taken.wholes refl ∙ sym same;
      size = omega (arith, ap length bytes, going.taken.long);
      form = form;
      takes = going.takes_all;
      idle = going.idle_before;
    }

-- a run that stopped, with the line that it reports
wrote_of : {fed written : List ℕ} {stands : State → Type 0} {loaded : Bool} {faults : ℕ} (outcome : Result (Unit {0}) RunStop) (status : Status) (line : List ℕ) → (outcome ≢ Err (Tell trouble.Read)) → (outcome ≡ Err (Tell trouble.Swap) → 0 < faults)
    → HasStopped (Some fed) (Some []) (length fed) (λ had. [] ≡ had) (λ had. written ≡ had) stands loaded ⊥ (faults - 0) [] outcome → Finished (λ had. written ≡ had) (λ had. written ++ line ≡ had) [] outcome status
    → Wrote status (observes fed fed (length fed) (written ++ line) stands loaded ⊥ faults)
wrote_of {fed} {written} {stands} {loaded} {faults} outcome status line read swap r finished = at_is
  where
    ran : HasRun (Some fed) (Some []) (length fed) (λ had. [] ≡ had) (λ had. written ++ line ≡ had) stands loaded ⊥ (faults - 0) status
    ran = ran_finish {source_rose = ⊥} 0 faults outcome status read swap r finished

    i_is : fed ≡ ran.0
    i_is = ran.3.input

    b_is : fed ≡ ran.1
    b_is = (let e = ran.3.gave in cc (e)) ∙ append-nil ran.1

    w_is : written ++ line ≡ ran.2
    w_is = ran.3.gained.each [] refl

    at_is : Wrote status (observes fed fed (length fed) (written ++ line) stands loaded ⊥ faults)
    at_is = subst (λ rose. Wrote status (observes fed fed (length fed) (written ++ line) stands loaded ⊥ rose)) (less_nothing faults)
        (subst (λ i. Wrote status (observes i fed (length fed) (written ++ line) stands loaded ⊥ (faults - 0))) (sym i_is) (subst (λ b. Wrote status (observes ran.0 b (length fed) (written ++ line) stands loaded ⊥ (faults - 0))) (sym b_is)
        (subst (λ w. Wrote status (observes ran.0 ran.1 (length fed) w stands loaded ⊥ (faults - 0))) (sym w_is) ran.3.wrote)))

trouble_swap : (stop : RunStop) → trouble_of stop ≡ trouble.Swap → stop ≡ Tell trouble.Swap
trouble_swap (Tell t) is = ap Tell is
trouble_swap Write is = absurd (cc (is))

trouble_read : (stop : RunStop) → trouble_of stop ≡ trouble.Read → stop ≡ Tell trouble.Read
trouble_read (Tell t) is = ap Tell is
trouble_read Write is = absurd (cc (is))

trouble_finished : {written : List ℕ} (t : RunError) → Finished (λ had. written ≡ had) (λ had. written ++ trouble_line t ≡ had) [] (Err (Tell t)) (status_of t)
trouble_finished t = inl (refl, record { each = λ had is. ap (λ h. h ++ trouble_line t) is })

module _ {fed written : List ℕ} {s : Seen} (g : GoesOn fed written s) (text : List ℕ) (one : no_feed text ≡ true) {front : List ℕ} {size : ℕ} (front_is : front ≡ take 32769 text) (size_is : size ≡ length (fed_of text)) where
  fed_here : IsFed (fed_of text) (take 32769 text) (enough s.place)
  fed_here = text_fed text (enough s.place) one (enough_most s.place.judge.ended s.place.bytes)

  abbrev held : Buffered
  held = record { bytes = fed_of text; ended = false }

  abbrev found : LineSpan
  found = record { length = length (take 32769 text); size = length (fed_of text) }

  here : Going (Some (fed ++ fed_of text)) (Some []) (length (fed ++ fed_of text)) (λ had. [] ≡ had) (λ had. written ≡ had) (StandsFor s.machine.heap) (Takes s.machine.heap) (s.machine.idle ≡ true) 0 s.machine.faults s.place held []
  here = going_of g (fed_of text) false fed_here.short

  never : held.ended ≡ true → ⊥
  never is = cc (is)

  judged_here : judged_as s.place (take found.length held.bytes) found.size ≡ judged_as s.place front size
  judged_here = ap (λ t. judged_as s.place t (length (fed_of text))) (fed_here.text ∙ sym front_is) ∙ ap (judged_as s.place front) (sym size_is)

  passes : (next : Next) → judged_as s.place front size ≡ Ok next → Passes held found
  passes next accepted = passes_accepted held (enough s.place) found s.place next g.form.counts.within refl (judged_here ∙ accepted) fed_here.found

  -- a line was answered
  pub line_goes : {place : JudgedInput} {machine : Holding} {same : Type 0} {old new had pending : List ℕ} (after : Seen) → after.place ≡ place → after.machine ≡ machine → old ≡ [] → had ≡ []
      → LineDone s.place place front size same (StandsFor s.machine.heap) (StandsFor machine.heap) (Takes s.machine.heap) (Takes machine.heap) (s.machine.idle ≡ true) (machine.idle ≡ true) s.machine.faults machine.faults
      (λ h. old ≡ h) (λ h. new ≡ h) had pending
      → IsPlace place → GoesOn (fed ++ fed_of text) (written ++ (new ++ pending)) after
  line_goes {place} {machine} {same} {old} {new} {had} {pending} after place_is machine_is none nothing d form =
      let next : Next = record { event = d.event; place = place } in
      let p = passes next d.accepted in
      let acted = acted_after old new written had pending place.judge.builder.world (StandsFor s.machine.heap) (StandsFor machine.heap) s.machine.faults machine.faults d.event none d.acted in
      let acted' = subst (λ p. Acted d.event place.judge.builder.world (StandsFor s.machine.heap) (StandsFor machine.heap) s.machine.faults machine.faults (λ h. written ≡ h) (λ h. written ++ new ≡ h) p pending (Ok tt)) nothing acted in
      goes_on_of (fed ++ fed_of text) written new pending place machine after place_is machine_is
      (going_act here g.form (λ is. absurd (never is)) found p next (judged_here ∙ d.accepted) (record { bytes = []; ended = false }) (sym (drop_all (length (fed_of text)) (fed_of text) (omega arith))) refl acted' d.takes_after) form

  -- a line was refused, and its trouble reported
  pub line_refused : {same : Type 0} (stop : RunStop) → stop ≢ Tell trouble.Read → (stop ≡ Tell trouble.Swap → 0 < s.machine.faults) → LineRefused s.place front size stop same → (s.machine.idle ≡ true → is_some s.machine.heap ≡ false)
      → Wrote (status_of (trouble_of stop)) (observed (fed ++ fed_of text) (written ++ trouble_line (trouble_of stop)) s.machine)
  line_refused stop read swap r bare =
      let t = trouble_of stop in
      let is : t ≡ r.trouble = ap trouble_of r.stops in
      wrote_of (Err (Tell t)) (status_of t) (trouble_line t) (λ e. read (trouble_read stop (cc (e)))) (λ e. swap (trouble_swap stop (cc (e))))
      (subst (λ t. HasStopped (Some (fed ++ fed_of text)) (Some []) (length (fed ++ fed_of text)) (λ had. [] ≡ had) (λ had. written ≡ had) (StandsFor s.machine.heap) (is_some s.machine.heap) ⊥ (s.machine.faults - 0) [] (Err (Tell t))) (sym is)
      (ran_judge here g.form (λ e. absurd (never e)) (enough s.place) found r.trouble r.place' refl fed_here.found (subst (λ said. Judged s.place r.place' (Err r.trouble) said) (sym judged_here) r.judged) r.early (λ none. bare (g.idle none))))
      (trouble_finished t)

  -- a line was accepted, and the run stops in what it requests
  pub line_halted : (place : JudgedInput) (machine : Holding) (room : Type 0) (old new : List ℕ → Type 0) (had pending : List ℕ) (stop : RunStop) → stop ≢ Tell trouble.Read → (stop ≡ Tell trouble.Swap → 0 < machine.faults) → room
      → LineHalted s.place place front size stop room (StandsFor s.machine.heap) (StandsFor machine.heap) (is_some machine.heap) s.machine.faults machine.faults old new had pending
      → Wrote (status_of (trouble_of stop)) (observed (fed ++ fed_of text) (written ++ trouble_line (trouble_of stop)) machine)
  line_halted place machine room old new had pending stop read swap has h =
      let t = trouble_of stop in
      let next : Next = record { event = h.event; place = place } in
      let p = passes next h.accepted in
      let acted = acted_told old new (λ had. written ≡ had) had pending place.judge.builder.world (StandsFor s.machine.heap) (StandsFor machine.heap) s.machine.faults machine.faults h.halt h.event (λ write. h.fits write has) h.acted in
      let ran = ran_stopped here g.form (λ e. absurd (never e)) found p next (judged_here ∙ h.accepted) machine.faults h.event (told h.halt) refl h.unloaded acted in
      let is : stop_of (told h.halt) ≡ Tell t = told_trouble h.halt ∙ ap (λ s. Tell (trouble_of s)) (sym h.stops) in
      wrote_of (Err (Tell t)) (status_of t) (trouble_line t) (λ e. read (trouble_read stop (cc (e)))) (λ e. swap (trouble_swap stop (cc (e))))
      (subst (λ o. HasStopped (Some (fed ++ fed_of text)) (Some []) (length (fed ++ fed_of text)) (λ had. [] ≡ had) (λ had. written ≡ had) (StandsFor machine.heap) (is_some machine.heap) ⊥ (machine.faults - 0) [] (Err o)) is ran) (trouble_finished t)

-- The end of the input

closed_tells : (place : JudgedInput) (stop : RunStop) → closed (ending_at place) ≡ Err stop → (n : ℕ) × (reason : Reason) × (stop ≡ Tell (trouble.Line n reason))
closed_tells place stop is = go place.judge.ended is
  where
    go : (over : Bool) → closed (if over then Whole else Broken (trouble.Line (place.lines + 1) (early_reason place.lines NotAWorld))) ≡ Err stop → (n : ℕ) × (reason : Reason) × (stop ≡ Tell (trouble.Line n reason))
    go true is = absurd (cc (is))
    go false is = (place.lines + 1, early_reason place.lines NotAWorld, cc (is))

module _ {fed written : List ℕ} {s : Seen} (g : GoesOn fed written s) where
  ends_here : HasStopped (Some fed) (Some []) (length fed) (λ had. [] ≡ had) (λ had. written ≡ had) (StandsFor s.machine.heap) (is_some s.machine.heap) ⊥ (s.machine.faults - 0) [] (closed (ending_at s.place))
  ends_here = subst (λ b. HasStopped (Some b) (Some []) (length b) (λ had. [] ≡ had) (λ had. written ≡ had) (StandsFor s.machine.heap) (is_some s.machine.heap) ⊥ (s.machine.faults - 0) [] (closed (ending_at s.place))) (append-nil fed)
      (ran_end (going_of g [] true (omega arith)) g.form (λ _. refl) (refl, refl))

  pub end_whole : closed (ending_at s.place) ≡ Ok tt → Wrote Done (observed fed (written ++ []) s.machine)
  end_whole is = wrote_of (Ok tt) Done [] (λ e. cc (e)) (λ e. absurd (cc (e))) (subst (λ o. HasStopped (Some fed) (Some []) (length fed) (λ had. [] ≡ had) (λ had. written ≡ had) (StandsFor s.machine.heap) (is_some s.machine.heap) ⊥ (s.machine.faults - 0) [] o) is ends_here)
      (inl (refl, record { each = λ had e. ap (λ h. h ++ []) e }))

  pub end_early : (stop : RunStop) → closed (ending_at s.place) ≡ Err stop → Wrote (status_of (trouble_of stop)) (observed fed (written ++ trouble_line (trouble_of stop)) s.machine)
  end_early stop is =
      let told = closed_tells s.place stop is in
      let t = trouble.Line told.0 told.1 in
      let same : trouble_of stop ≡ t = ap trouble_of told.2 in
      subst (λ t. Wrote (status_of t) (observed fed (written ++ trouble_line t) s.machine)) (sym same)
      (wrote_of (Err (Tell t)) (status_of t) (trouble_line t) (λ e. cc (e)) (λ e. absurd (cc (e)))
      (subst (λ o. HasStopped (Some fed) (Some []) (length fed) (λ had. [] ≡ had) (λ had. written ≡ had) (StandsFor s.machine.heap) (is_some s.machine.heap) ⊥ (s.machine.faults - 0) [] o) (is ∙ ap Err told.2) ends_here) (trouble_finished t))

-- A session that was fed nothing

pub goes_on_start : (s : Seen) → s.place ≡ start_place → s.machine.idle ≡ true → s.machine.faults ≡ 0 → GoesOn [] [] s
goes_on_start s at idle quiet = record {
  read = start;
  lines = refl;
  at = sym at;
  answered = subst (λ (p : JudgedInput). Answered (world_of p) [] (StandsFor s.machine.heap) s.machine.faults []) (sym at) (refl, refl);
  untouched = λ _. quiet;
  cuts = λ more. refl;
  whole = refl;
  size = ap (λ (p : JudgedInput). p.bytes) (sym at);
  form = subst IsPlace (sym at) (record { counts = record { few = omega arith; within = omega arith }; accepted = λ is. absurd (cc (is)) });
  takes = λ world opened. absurd (let none = ap world_of at in cc (none, opened));
  idle = λ _. idle;
}
