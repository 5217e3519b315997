-- How a run stops.
use Rattle.std.proofs.Common.{◌≡◌, ◌≢◌, ◌⊎◌, inl, inr, ℕ, ◌+◌, ◌-◌, ◌<◌, ◌≤◌, ◌^◌, List, [], ◌++◌, length, take, Bool, true, false, Option, Some, None, Result, Ok, Err, refl, sym, ap, ◌∙◌, subst, arith}
use Rattle.std.specs.Prelude.{if◌then◌else◌, IfSome}
use Rattle.std.proofs.lemmas.List.{append-nil, append_cancel_right, length-append}
use Rattle.world_text.specs.declared.reading.reason.Reason.TheVariants.{NotAWorld}
use Rattle.outer_ports.specs.Ports.{Gained, Gave, IsAtEnd}
use Rattle.outer_ports.specs.Buffers.{Gathered}
use Rattle.outer_ports.proofs.Gains.{gained_more, gained_nothing}
use Rattle.lisp_graph.specs.declared.command.Command.{Command}
use Rattle.lisp_graph.specs.declared.world.World.{World}
use Rattle.paged_machine.specs.lisp_meaning.State.{State}
use Rattle.line_input.specs.declared.lines.found.LineSpan.{LineSpan}
use Rattle.line_input.specs.declared.statuses.status.Status.{Status}
use Rattle.line_input.specs.declared.statuses.status.Status.TheVariants as status
use Rattle.line_input.specs.declared.statuses.status.RunStop.{RunStop}
use Rattle.line_input.specs.declared.statuses.status.RunStop.TheVariants.{Write, Tell}
use Rattle.line_input.specs.declared.statuses.status.RunError.{RunError}
use Rattle.line_input.specs.declared.statuses.status.RunError.TheVariants as trouble
use Rattle.line_input.specs.Limits.{enough_bytes}
use Rattle.line_input.specs.Lines.{lines_of, size_of, whole_lines}
use Rattle.line_input.specs.Reader.{Buffered, IsFound, IsPart}
use Rattle.line_input.specs.Statuses.{IsOfLine, status_of, trouble_line}
use Rattle.line_input.specs.Verdict.{early_reason}
use Rattle.input_verdict.specs.Input.{JudgedInput}
use Rattle.input_verdict.specs.Places.{IsPlace, Judged}
use Rattle.input_verdict.specs.Verdict.{Read, Whole, Broken, enough, judged, judged_as, verdict, start, decided, ended, ending_at, world_of}
use Rattle.input_verdict.proofs.VerdictInvariant.{judged_keeps, judged_world}
use Rattle.replay_run.specs.Replies.{Answered}
use Rattle.replay_run.specs.Outcome.{BeforeDump, Demands, HasNoWorld, HasNoWorldYet, IsAhead, IsUndecided, IsUntouched, CutReply, Observed}
use Rattle.replay_run.specs.declared.halt.LoopExit.{LoopExit}
use Rattle.replay_run.specs.declared.halt.LoopExit.TheVariants as halts
use Rattle.replay_run.specs.OneLine.{NextMissing, NextRefused}
use Rattle.replay_run.specs.Steps.{Fetched, Stopped, Tells, closed, stop_of}
use Rattle.replay_run.proofs.Observations.{HasStopped, observes}
use Rattle.replay_run.proofs.SoundWorlds.{sound_at}
use Rattle.replay_run.proofs.BufferedReplies.{cut_reply, tells_moved, tells_few, tells_answered, told_moved}
use Rattle.replay_run.proofs.SessionInvariant.{Going, going_given, ahead, judges_next}
use Rattle.line_input.proofs.ReaderInvariant.{rest_end, rest_of, taken_whole, told_input}

-- what the status of a trouble with the input requires
broken_demands : (t : RunError) (o : Observed) (read : Read) → IsOfLine t → verdict o.input ≡ record { read = read; ending = Broken t } → (status_of t ≢ status.Refused → read.commands ≡ []) → Demands (status_of t) o read (trouble_line t)
broken_demands (trouble.Line n reason) o read of is alone = record { trouble = trouble.Line n reason; verdict_is = is; status_is = refl; told = refl }
broken_demands (trouble.TooSmall n) o read of is alone = (record { trouble = trouble.TooSmall n; verdict_is = is; status_is = refl; told = refl }, alone (λ e. absurd (cc (e))))
broken_demands (trouble.Exhausted n area charged wanted quota) o read of is alone =
    (record { trouble = trouble.Exhausted n area charged wanted quota; verdict_is = is; status_is = refl; told = refl }, alone (λ e. absurd (cc (e))))
broken_demands trouble.Read o read of is alone = absurd of
broken_demands trouble.Memory o read of is alone = absurd of
broken_demands trouble.Swap o read of is alone = absurd of
broken_demands trouble.Usage o read of is alone = absurd of
broken_demands (trouble.NoObject object) o read of is alone = absurd of

gave_same : (left' : Option (List ℕ)) (i b b' : List ℕ) → Gave (Some i) left' b → Gave (Some i) left' b' → b ≡ b'
gave_same None i b b' gave other = absurd (cc (gave))
gave_same (Some rest) i b b' gave other = let both : ◌≡◌ {A = Option (List ℕ)} (Some (b ++ rest)) (Some (b' ++ rest)) = sym gave ∙ other in append_cancel_right b b' rest (cc (both))

module _ {left left' : Option (List ℕ)} {last : ℕ} {held held' : List ℕ → Type 0} {stands : State → Type 0} {takes : Command → Type 0} {idle : Type 0} {before now : ℕ} {place : JudgedInput} {reader : Buffered} {pending : List ℕ}
    (going : Going left left' last held held' stands takes idle before now place reader pending) (form : IsPlace place) (end : reader.ended ≡ true → IsAtEnd left') where
  pub input : List ℕ
  input = going.b ++ rest_of left'

  pub none_left : reader.ended ≡ true → rest_of left' ≡ []
  none_left is = rest_end left' (end is)

  pub verdict_here : verdict input ≡ ended (judged going.read (lines_of (reader.bytes ++ rest_of left')))
  unfolding input
  verdict_here = ap ended (ap (judged start) (going.taken.cuts (rest_of left') none_left) ∙ going.judges (lines_of (reader.bytes ++ rest_of left')))

  pub reached_here : going.base ≤ going.read.place.bytes
  reached_here = subst (λ (p : JudgedInput). going.base ≤ p.bytes) (sym going.at) going.reached

  pub ahead_here : (n : ℕ) → going.m ≤ n → n ≤ length going.read.commands → IsAhead n input going.b last
  ahead_here n above within = ahead input going.b last going.read (lines_of (reader.bytes ++ rest_of left')) going.base going.m verdict_here going.behind reached_here going.near going.feedless n above (omega (arith, going.counts))

  -- the run stops here, with what was written and what is pending
  pub ran_with : {held'' : List ℕ → Type 0} {stands' : State → Type 0} {loaded : Bool} {source_rose : Type 0} {rose : ℕ} (w pending' : List ℕ) (result : Result (Unit {0}) RunStop) → Gained held held'' w → Stopped result (observes input going.b last w stands' loaded source_rose rose) pending'
      → HasStopped left left' last held held'' stands' loaded source_rose rose pending' result
  unfolding input
  ran_with w pending' result gained stopped = (
    input,
    going.b,
    w,
    record {
      input = told_input left left' going.b going.taken.gave;
      gave = going.taken.gave;
      rest = refl;
      gained = gained;
      stopped = stopped;
    },
  )

  -- the opened world is that of the input
  opened_verdict : (world : World) → world_of place ≡ Some world → world_of (verdict input).read.place ≡ Some world
  opened_verdict world open_is = ap (λ v. world_of v.read.place) verdict_here ∙ judged_world world going.read (lines_of (reader.bytes ++ rest_of left')) (ap world_of going.at ∙ open_is)

  answered_here : Answered (world_of going.read.place) going.read.commands stands (now - before) (going.w ++ pending)
  answered_here = subst (λ (q : JudgedInput). Answered (world_of q) going.read.commands stands (now - before) (going.w ++ pending)) (sym going.at) (tells_answered going.tells)

  -- before a world was opened the swap device's count of failed calls didn't rise
  pub unrisen : world_of place ≡ None → now - before ≡ 0
  unrisen none = (subst (λ o. Tells o going.read.commands stands (now - before) going.w pending going.m) none going.tells).told.4

  untouched_here : (s : Status) → IsUntouched s (world_of going.read.place) (now - before)
  untouched_here s none _ = unrisen (ap world_of (sym going.at) ∙ none)

  far_here : IsAhead (length going.read.commands) input going.b last
  far_here = ahead_here (length going.read.commands) (tells_few going.tells) (omega arith)

  -- if the sink fails in what is pending, it fails in a reply
  pub cut_here : {loaded : Bool} {source_rose : Type 0} (front rest : List ℕ) → pending ≡ front ++ rest → 0 < length rest → CutReply (observes input going.b last (going.w ++ front) stands loaded source_rose (now - before))
  cut_here {loaded} {source_rose} front rest is some = go (world_of place) refl
    where
      go : (o : Option World) → world_of place ≡ o → CutReply (observes input going.b last (going.w ++ front) stands loaded source_rose (now - before))
      go None none =
          let t = (subst (λ o. Tells o going.read.commands stands (now - before) going.w pending going.m) none going.tells).told in
          absurd (omega (arith, ap length t.2, ap length is, length-append front rest))
      go (Some world) open_is =
          let t = (subst (λ o. Tells o going.read.commands stands (now - before) going.w pending going.m) open_is going.tells).told in
          let k = judged_keeps going.read (lines_of (reader.bytes ++ rest_of left')) in
          cut_reply input going.b last k.commands (opened_verdict world open_is) (ap (λ v. v.read.commands) verdict_here ∙ k.more) going.limits k.limits
          (sound_at place form world open_is) some (told_moved front is t) (λ n above below. ahead_here n above (omega (arith, below)))

  -- the run stops here with a trouble that requires this line
  ran_demanded : {loaded : Bool} {source_rose : Type 0} (t : RunError) → Demands (status_of t) (observes input going.b last going.w stands loaded source_rose (now - before)) going.read (trouble_line t) → HasStopped left left' last held held' stands loaded source_rose (now - before) pending (Err (Tell t))
  ran_demanded t demands = ran_with going.w pending (Err (Tell t)) going.gained (record { read = going.read; demands = demands; answered = answered_here; untouched = untouched_here (status_of t); far = far_here; cut = cut_here })

  -- if a line has trouble, or the lines end too early
  ran_broken : {loaded : Bool} {source_rose : Type 0} (t : RunError) → IsOfLine t → verdict input ≡ record { read = going.read; ending = Broken t } → (status_of t ≢ status.Refused → world_of place ≡ None) → HasStopped left left' last held held' stands loaded source_rose (now - before) pending (Err (Tell t))
  ran_broken {loaded} {source_rose} t of is alone =
      ran_demanded t (broken_demands t (observes input going.b last going.w stands loaded source_rose (now - before)) going.read of is (λ other. none_read (world_of place) (alone other) going.tells))
    where
      none_read : (o : Option World) → o ≡ None → Tells o going.read.commands stands (now - before) going.w pending going.m → going.read.commands ≡ []
      none_read o none tells = (subst (λ o. Tells o going.read.commands stands (now - before) going.w pending going.m) none tells).told.0

  -- at the end of the input
  pub ran_end : {loaded : Bool} {source_rose : Type 0} → (reader.bytes ≡ []) × (reader.ended ≡ true) → HasStopped left left' last held held' stands loaded source_rose (now - before) pending (closed (ending_at place))
  unfolding input
  ran_end {loaded} {source_rose} none = go place.judge.ended v
    where
      e : reader.bytes ++ rest_of left' ≡ []
      e = rw (none.0, none_left none.1) refl

      v : verdict input ≡ record { read = going.read; ending = ending_at place }
      v = verdict_here ∙ ap (λ xs. ended (judged going.read (lines_of xs))) e ∙ ap (λ p. record { read = going.read; ending = ending_at p }) going.at

      same : going.b ≡ input
      same = sym (append-nil going.b) ∙ ap (λ xs. going.b ++ xs) (sym (none_left none.1))

      go : (ended : Bool) → verdict input ≡ record { read = going.read; ending = if ended then Whole else Broken (trouble.Line (place.lines + 1) (early_reason place.lines NotAWorld)) }
          → HasStopped left left' last held held' stands loaded source_rose (now - before) pending (closed (if ended then Whole else Broken (trouble.Line (place.lines + 1) (early_reason place.lines NotAWorld))))
      go true is = ran_with going.w pending (Ok tt) going.gained (record { read = going.read; demands = (same, is, refl); answered = answered_here; untouched = untouched_here status.Done; far = far_here; cut = cut_here })
      go false is = ran_broken (trouble.Line (place.lines + 1) (early_reason place.lines NotAWorld)) tt is (λ other. absurd (other refl))

  -- if the source failed
  undecided : (many : ℕ) → many ≡ enough place → IsPart reader many → IsUndecided going.read going.b
  undecided many of part = subst (λ p. IsUndecided (record going.read { place = p }) going.b) (sym going.at) (record { part = (here place.judge.ended refl few).0; within = (here place.judge.ended refl few).1 })
    where
      few : length reader.bytes < enough place
      few = subst (λ n. length reader.bytes < n) of part.few

      here : (ended : Bool) → place.judge.ended ≡ ended → length reader.bytes < enough_bytes (2 ^ 40) ended place.bytes → ((length going.b ≡ place.bytes) ⊎ ((place.judge.ended ≡ false) × (length going.b ≤ place.bytes + 32768))) × (length going.b ≤ 2 ^ 40)
      here true on few = (inl (omega (arith, going.taken.long, few)), omega (arith, going.taken.long, few, form.counts.within))
      here false off few = (inr (off, omega (arith, going.taken.long, few)), omega (arith, going.taken.long, few, form.counts.within))

  whole_here : (many : ℕ) → IsPart reader many → reader.ended ≡ false → judged start (whole_lines (lines_of going.b)) ≡ Ok going.read
  whole_here many part on =
      ap (judged start) (taken_whole going.taken part.none on) ∙ going.judges []

  pub ran_fault : {loaded : Bool} {source_rose : Type 0} (many : ℕ) → many ≡ enough place → IsPart reader many → reader.ended ≡ false → HasStopped left left' last held held' stands loaded source_rose (now - before) pending (Err (Tell trouble.Read))
  ran_fault many of part on = ran_demanded trouble.Read (whole_here many part on, undecided many of part, refl)

  -- if a line has trouble
  pub ran_refused : {loaded : Bool} {source_rose : Type 0} (many : ℕ) (found : LineSpan) (t : RunError) → many ≡ enough place → IsFound reader many found → IsOfLine t → judged_as place (take found.length reader.bytes) found.size ≡ Err t
      → (status_of t ≢ status.Refused → world_of place ≡ None) → HasStopped left left' last held held' stands loaded source_rose (now - before) pending (Err (Tell t))
  ran_refused many found t is next of refused alone =
      let j = judges_next place reader many found (rest_of left') form.counts.within is none_left next in
      let e : judged_as going.read.place j.line.text (size_of j.line) ≡ Err t = ap (λ p. judged_as p j.line.text (size_of j.line)) going.at ∙ j.same ∙ refused in
      let v : verdict input ≡ record { read = going.read; ending = Broken t } =
      verdict_here ∙ ap (λ ls. ended (judged going.read ls)) j.is ∙ ap (λ r. ended (decided going.read r (λ next. judged next j.lines))) e in
      ran_broken t of v alone

  -- if memory ran out, or the swap device failed, before a world was open
  pub ran_early : {held'' : List ℕ → Type 0} {stands' : State → Type 0} {loaded : Bool} {source_rose : Type 0} {rose : ℕ} {pending' : List ℕ} (t : RunError) (g : Gathered held' held'' pending' pending) → Demands (status_of t) (observes input going.b last (going.w ++ g.given) stands' loaded source_rose rose) start (trouble_line t)
      → (status_of t ≢ status.SwapFailed → rose ≡ 0) → world_of place ≡ None → HasStopped left left' last held held'' stands' loaded source_rose rose pending' (Err (Tell t))
  ran_early {stands' = stands'} {rose = rose} {pending' = pending'} trouble g demands unrose none =
      let t = (tells_moved g.given g.all (subst (λ o. Tells o going.read.commands stands (now - before) going.w pending going.m) none going.tells)).told in
      ran_with (going.w ++ g.given) pending' (Err (Tell trouble)) (gained_more going.gained g.gained)
      (record {
        read = start;
        demands = demands;
        answered = (refl, rw (t.1, t.2) refl);
        untouched = λ _ other. unrose other;
        far = ahead_here 0 (omega (arith, t.3)) (omega arith);
        cut = λ front rest is some. absurd (omega (arith, ap length t.2, ap length is, length-append front rest));
      })

  -- if the sink failed with something pending
  pub ran_write : {loaded : Bool} {source_rose : Type 0} → 0 < length pending → HasStopped left left' last held held' stands loaded source_rose (now - before) pending (Err Write)
  ran_write {loaded} {source_rose} some =
      ran_with going.w pending (Err Write) going.gained (subst (λ w. CutReply (observes input going.b last w stands loaded source_rose (now - before))) (append-nil going.w) (cut_here [] pending refl some))

  -- if no line was found
  pub ran_fetch : {loaded : Bool} {source_rose : Type 0} (many : ℕ) (halt : LoopExit) → many ≡ enough place → Fetched reader many pending (Err halt) → HasStopped left left' last held held' stands loaded source_rose (now - before) pending (Err (stop_of halt))
  ran_fetch many halts.Write is f = ran_write f
  ran_fetch many halts.Read is f = ran_fault many is f.0 f.1
  ran_fetch many halts.Memory is f = absurd f
  ran_fetch many halts.Swap is f = absurd f

  -- if a line was refused
  pub ran_judge : {loaded : Bool} {source_rose : Type 0} (many : ℕ) (found : LineSpan) (t : RunError) (new : JudgedInput) → many ≡ enough place → IsFound reader many found
      → Judged place new (Err t) (judged_as place (take found.length reader.bytes) found.size) → (status_of t ≢ status.Refused → world_of place ≡ None) → (world_of place ≡ None → loaded ≡ false)
      → HasStopped left left' last held held' stands loaded source_rose (now - before) pending (Err (Tell t))
  ran_judge many found trouble.Memory new is next judged early unloaded =
      let none : world_of place ≡ None = early (λ e. absurd (cc (e))) in
      ran_early trouble.Memory (record { given = []; all = refl; gained = gained_nothing }) (inl (refl, unloaded none), refl) (λ _. unrisen none) none
  ran_judge many found (trouble.Line n reason) new is next judged early unloaded = ran_refused many found (trouble.Line n reason) is next judged.0 judged.1 early
  ran_judge many found (trouble.TooSmall n) new is next judged early unloaded = ran_refused many found (trouble.TooSmall n) is next judged.0 judged.1 early
  ran_judge many found (trouble.Exhausted n area charged wanted quota) new is next judged early unloaded = ran_refused many found (trouble.Exhausted n area charged wanted quota) is next judged.0 judged.1 early
  ran_judge many found trouble.Read new is next judged early unloaded = absurd judged.0
  ran_judge many found trouble.Swap new is next judged early unloaded = absurd judged.0
  ran_judge many found trouble.Usage new is next judged early unloaded = absurd judged.0
  ran_judge many found (trouble.NoObject object) new is next judged early unloaded = absurd judged.0

  -- If no world was opened

  pub input_is : (i : List ℕ) → left ≡ Some i → i ≡ input
  unfolding input
  input_is i tells = subst (λ l. IfSome l (λ bytes. bytes ≡ input)) tells (told_input left left' going.b going.taken.gave)

  -- none is open if the input has none
  pub unopened : (i : List ℕ) → left ≡ Some i → HasNoWorld i → world_of place ≡ None
  unopened i tells none = go (world_of place) refl
    where
      go : (o : Option World) → world_of place ≡ o → world_of place ≡ None
      go None is = is
      go (Some world) is = absurd (let some = opened_verdict world is in let nothing = subst HasNoWorld (input_is i tells) none in cc (some, nothing))

  -- none is open, either, if the source failed after whole lines that open none
  pub unread : (many : ℕ) → IsPart reader many → reader.ended ≡ false → (i b : List ℕ) → left ≡ Some i → Gave (Some i) left' b → HasNoWorldYet b → world_of place ≡ None
  unread many part on i b tells gave none =
      let same : b ≡ going.b = gave_same left' i b going.b gave (sym tells ∙ going.taken.gave) in
      let read : ◌≡◌ {A = Result Read _} (Ok none.read) (Ok going.read) = sym none.lines ∙ ap (λ xs. judged start (whole_lines (lines_of xs))) same ∙ whole_here many part on in
      let at : going.read ≡ none.read = cc (read) in
      ap world_of (sym going.at) ∙ ap (λ (r : Read). world_of r.place) at ∙ none.none

-- there is no line if the source failed
pub next_part : (place : JudgedInput) (held : Buffered) (pending : List ℕ) (stop : RunStop) → NextMissing place held pending stop ⊎ NextRefused place held stop → stop ≡ Tell trouble.Read → IsPart held (enough place) × (held.ended ≡ false)
next_part place held pending stop (inl m) is = go m.halt m.fetched (sym m.stops ∙ is)
  where
    go : (halt : LoopExit) → Fetched held (enough place) pending (Err halt) → stop_of halt ≡ Tell trouble.Read → IsPart held (enough place) × (held.ended ≡ false)
    go halts.Read fetched same = fetched
    go halts.Write fetched same = absurd (cc (same))
    go halts.Memory fetched same = absurd (cc (same))
    go halts.Swap fetched same = absurd (cc (same))
next_part place held pending stop (inr r) is =
    let same : r.refused.trouble ≡ trouble.Read = let stops = r.refused.stops in cc (stops, is) in
    absurd (subst (λ t. Judged place r.refused.place' (Err t) (judged_as place (take r.found.length held.bytes) r.found.size)) same r.refused.judged).0

-- memory ran out at a dump
pub ran_none : {left left' : Option (List ℕ)} {last : ℕ} {held held' held'' : List ℕ → Type 0} {stands stands' : State → Type 0} {loaded : Bool} {source_rose : Type 0} {takes : Command → Type 0} {idle : Type 0} {before now now' : ℕ} {place : JudgedInput} {reader : Buffered} {pending pending' : List ℕ}
    (going : Going left left' last held held' stands takes idle before now place reader pending) (form : IsPlace place) (end : reader.ended ≡ true → IsAtEnd left') (g : Gathered held' held'' pending' pending)
    → Tells (world_of place) going.read.commands stands' (now' - before) (going.w ++ g.given) pending' going.m → now ≤ now' → BeforeDump (input going form end) going.read
    → HasStopped left left' last held held'' stands' loaded source_rose (now' - before) pending' (Err (Tell trouble.Memory))
unfolding input going_given
ran_none going form end g tells rose dump = ran_demanded (going_given going g tells rose) form end trouble.Memory (inr dump, refl)
