-- After a line that was accepted.
use Rattle.std.proofs.Common.{◌≡◌, ◌≢◌, inl, inr, ℕ, ◌+◌, ◌-◌, ◌<◌, ◌≤◌, ◌^◌, List, [], ◌∷◌, ◌++◌, length, take, drop, true, Option, Some, Ok, Err, refl, sym, ap, ◌∙◌, subst, arith, Bool, false}
use Rattle.std.proofs.lemmas.List.{append_assoc, length-append}
use Rattle.outer_ports.specs.Ports.{IsAtEnd}
use Rattle.outer_ports.proofs.Gains.{gained_more}
use Rattle.lisp_graph.specs.declared.command.Command.{Command}
use Rattle.lisp_graph.specs.declared.world.World.{World}
use Rattle.paged_machine.specs.lisp_meaning.State.{State}
use Rattle.line_input.specs.declared.lines.found.LineSpan.{LineSpan}
use Rattle.line_input.specs.declared.statuses.status.RunStop.TheVariants.{Write, Tell}
use Rattle.line_input.specs.declared.statuses.status.RunError.TheVariants.{Memory, Swap}
use Rattle.line_input.specs.Lines.{Line, lines_of, size_of}
use Rattle.line_input.specs.Reader.{Buffered}
use Rattle.line_input.proofs.Cuts.{Passes}
use Rattle.input_verdict.specs.Input.{JudgedInput}
use Rattle.input_verdict.specs.Events.{Event, Nothing, Opens, Does}
use Rattle.input_verdict.specs.Places.{IsPlace}
use Rattle.input_verdict.specs.Verdict.{Next, Read, judged, judged_as, verdict, start, noted, decided, ended, world_of}
use Rattle.input_verdict.proofs.AcceptedLines.{Goes, goes_on, next_bytes, passed}
use Rattle.input_verdict.proofs.VerdictInvariant.{judged_keeps, judged_world, noted_place}
use Rattle.replay_run.specs.declared.halt.LoopExit.{LoopExit}
use Rattle.replay_run.specs.declared.halt.LoopExit.TheVariants as halts
use Rattle.replay_run.specs.Replies.{answer_text}
use Rattle.replay_run.specs.Outcome.{BeforeDump, HasNoWorld, HasObject}
use Rattle.replay_run.specs.Steps.{Acted, Answers, HasNoRoom, TakesAfter, Tells, Told, stop_of}
use Rattle.replay_run.proofs.Observations.{HasStopped}
use Rattle.replay_run.proofs.SoundWorlds.{sound_at}
use Rattle.replay_run.proofs.Runs.{AreInLimits-append}
use Rattle.replay_run.proofs.BufferedReplies.{cut_reply, told_as, told_more, told_moved, told_reached}
use Rattle.line_input.proofs.ReaderInvariant.{rest_of, taken_passed}
use Rattle.replay_run.proofs.SessionInvariant.{Going}
use Rattle.replay_run.proofs.Events.{steps}
use Rattle.replay_run.proofs.RunEnds.{ahead_here, input, input_is, none_left, ran_early, ran_none, ran_with, reached_here, unrisen, verdict_here}

-- the place remains within the limit
pub fits_accepted : (reader : Buffered) (found : LineSpan) (place : JudgedInput) (next : Next) → judged_as place (take found.length reader.bytes) found.size ≡ Ok next → Passes reader found → place.bytes + found.size ≤ 2 ^ 40
fits_accepted reader found place next accepted p =
    let q = passed place (take found.length reader.bytes) found.size next accepted in
    omega (arith, q.within, q.short, p.close, ap length p.text)

some_of : {A : Type 0} (items : List A) → items ≢ [] → 0 < length items
some_of [] some = absurd (some refl)
some_of (item ∷ items) some = omega arith

module _ {left left' : Option (List ℕ)} {last : ℕ} {held held' : List ℕ → Type 0} {stands : State → Type 0} {takes : Command → Type 0} {idle : Type 0} {before now : ℕ} {place : JudgedInput} {reader : Buffered} {pending : List ℕ}
    (going : Going left left' last held held' stands takes idle before now place reader pending) (form : IsPlace place) (end : reader.ended ≡ true → IsAtEnd left')
    (found : LineSpan) (p : Passes reader found) (next : Next) (accepted : judged_as place (take found.length reader.bytes) found.size ≡ Ok next) where
  accepted_here : judged_as going.read.place p.line.text (size_of p.line) ≡ Ok next
  accepted_here = ap (judged_as going.read.place p.line.text) p.size ∙ ap (λ t. judged_as going.read.place t found.size) p.text ∙ ap (λ q. judged_as q (take found.length reader.bytes) found.size) going.at ∙ accepted

  abbrev pub next_read : Read
  next_read = noted going.read next.event next.place

  judged_next : (lines : List Line) → judged going.read (p.line ∷ lines) ≡ judged next_read lines
  judged_next lines = ap (λ r. decided going.read r (λ next. judged next lines)) accepted_here

  goes_here : Goes place next.event next.place
  goes_here = goes_on place (take found.length reader.bytes) found.size next accepted

  bytes_here : next.place.bytes ≡ place.bytes + found.size
  bytes_here = next_bytes place (take found.length reader.bytes) found.size next accepted

  -- a line was read, and what it requests was done
  pub going_act : {held'' : List ℕ → Type 0} {stands' : State → Type 0} {takes' : Command → Type 0} {idle' : Type 0} {now' : ℕ} {pending' : List ℕ} (reader' : Buffered) → reader'.bytes ≡ drop found.size reader.bytes → reader'.ended ≡ reader.ended
      → Acted next.event next.place.judge.builder.world stands stands' now now' held' held'' pending pending' (Ok tt) → TakesAfter next.event next.place.judge.builder.world takes takes' idle idle'
      → Going left left' last held held'' stands' takes' idle' before now' next.place reader' pending'
  going_act {held''} {stands'} {takes'} {idle'} {now'} {pending'} reader' bytes ended_same acted after =
      let s = steps held held' held'' stands stands' takes takes' idle idle' before now now' pending pending' place next.place going.read going.w going.m going.base going.gained going.tells going.takes_all going.idle_before going.later (λ world is. sound_at place form world is) going.counts going.limits going.behind (reached_here going form end) next.event goes_here acted after in
      record {
        lines = going.lines ++ p.line ∷ [];
        b = going.b;
        w = s.w;
        read = next_read;
        m = going.m;
        base = going.base;
        taken = taken_passed next.place.bytes reader' found going.taken p bytes ended_same bytes_here;
        gained = s.gained;
        judges = λ rest. ap (judged start) (append_assoc going.lines (p.line ∷ []) rest) ∙ going.judges (p.line ∷ rest) ∙ judged_next rest;
        at = noted_place going.read next.event next.place;
        counts = s.counts;
        limits = s.limits;
        tells = s.tells;
        takes_all = s.takes_all;
        idle_before = s.idle_before;
        later = s.later;
        near = going.near;
        feedless = going.feedless;
        behind = s.behind;
        reached = omega (arith, bytes_here, going.reached);
      }

  verdict_next : verdict (input going form end) ≡ ended (judged next_read (lines_of (drop found.size reader.bytes ++ rest_of left')))
  verdict_next = verdict_here going form end ∙ ap (λ ls. ended (judged going.read ls)) (p.cuts (rest_of left') (none_left going form end)) ∙ ap ended (judged_next (lines_of (drop found.size reader.bytes ++ rest_of left')))

  -- a world that is open after the line is that of the input
  opened_behind : (world : World) → world_of next.place ≡ Some world → world_of (verdict (input going form end)).read.place ≡ Some world
  opened_behind world open_is =
      let inside : world_of next_read.place ≡ Some world = ap world_of (noted_place going.read next.event next.place) ∙ open_is in
      ap (λ v. world_of v.read.place) verdict_next ∙ judged_world world next_read (lines_of (drop found.size reader.bytes ++ rest_of left')) inside

  -- the world that the line opens has an object
  objects_here : world_of next.place ≡ Some next.place.judge.builder.world → next.place.judge.builder.world.objects ≢ [] → HasObject (input going form end)
  objects_here open_is some =
      let world = next.place.judge.builder.world in
      record { world = world; opened = opened_behind world open_is; some = some_of world.objects some }

  -- the line's command, after those that were read
  opened_here : (command : Command) → Goes place (Does command) next.place → world_of (verdict (input going form end)).read.place ≡ Some next.place.judge.builder.world
  opened_here command goes =
      ap (λ v. world_of v.read.place) (verdict_here going form end) ∙ judged_world next.place.judge.builder.world going.read (lines_of (reader.bytes ++ rest_of left')) (ap world_of going.at ∙ goes.0)

  commands_here : (command : Command) → next.event ≡ Does command
      → (verdict (input going form end)).read.commands ≡ (going.read.commands ++ command ∷ []) ++ (judged_keeps next_read (lines_of (drop found.size reader.bytes ++ rest_of left'))).commands
  commands_here command event =
      let k = judged_keeps next_read (lines_of (drop found.size reader.bytes ++ rest_of left')) in
      let names : next_read.commands ≡ going.read.commands ++ command ∷ [] = ap (λ e. (noted going.read e next.place).commands) event in
      ap (λ v. v.read.commands) verdict_next ∙ k.more ∙ ap (λ cs. cs ++ k.commands) names

  -- the sink failed in the text for the line's command
  ran_reply : {held'' : List ℕ → Type 0} {stands' : State → Type 0} {loaded : Bool} {source_rose : Type 0} (now' : ℕ) {pending' : List ℕ} (command : Command) → next.event ≡ Does command → Goes place (Does command) next.place
      → (t : Told next.place.judge.builder.world going.read.commands stands (now - before) going.w pending going.m) → now ≤ now'
      → Answers next.place.judge.builder.world command t.last stands' now now' held' held'' pending pending' (Err halts.Write) → HasStopped left left' last held held'' stands' loaded source_rose (now' - before) pending' (Err Write)
  ran_reply {held''} {stands'} {loaded} {source_rose} now' {pending'} command event goes t rose a =
      let world = next.place.judge.builder.world in
      let more = told_more command a.answer a.new t a.does a.state going.later rose a.fault a.quiet in
      let part = a.gathers.part in
      let front = part.0 in
      let cut = part.1 in
      let g = part.2 in
      let text : List ℕ = answer_text world.areas a.answer in
      let all : pending ++ text ≡ g.given ++ (pending' ++ cut.0) =
      ap (λ xs. pending ++ xs) cut.2 ∙ sym (append_assoc pending front cut.0) ∙ ap (λ xs. xs ++ cut.0) g.all ∙ append_assoc g.given pending' cut.0 in
      let told : Told world (going.read.commands ++ command ∷ []) stands' (now' - before) (going.w ++ g.given) (pending' ++ cut.0) going.m = told_moved g.given all more in
      let k = judged_keeps next_read (lines_of (drop found.size reader.bytes ++ rest_of left')) in
      ran_with going form end (going.w ++ g.given) pending' (Err Write) (gained_more going.gained g.gained)
      (cut_reply (input going form end) going.b last k.commands (opened_here command goes) (commands_here command event) (AreInLimits-append going.read.commands (command ∷ []) going.limits (goes.2, tt)) k.limits (sound_at place form world goes.0)
      (omega (arith, length-append pending' cut.0, cut.1)) told (λ n above below. ahead_here going form end n above (omega (arith, below, length-append going.read.commands (command ∷ [])))))

  -- memory ran out at the line's dump
  ran_dump : {held'' : List ℕ → Type 0} {stands' : State → Type 0} {loaded : Bool} {source_rose : Type 0} (now' : ℕ) {pending' : List ℕ} (command : Command) → next.event ≡ Does command → Goes place (Does command) next.place
      → (t : Told next.place.judge.builder.world going.read.commands stands (now - before) going.w pending going.m) → now ≤ now'
      → HasNoRoom command t.last stands' now now' held' held'' pending pending' (Err halts.Memory) → HasStopped left left' last held held'' stands' loaded source_rose (now' - before) pending' (Err (Tell Memory))
  ran_dump {held''} {stands'} {loaded} {source_rose} now' {pending'} command event goes t rose a =
      let world = next.place.judge.builder.world in
      let g = a.gathered in
      let told : Told world going.read.commands stands' (now' - before) (going.w ++ g.given) pending' going.m = told_moved g.given g.all (told_as before t a.state a.quiet) in
      let tells : Tells (world_of place) going.read.commands stands' (now' - before) (going.w ++ g.given) pending' going.m =
      subst (λ o. Tells o going.read.commands stands' (now' - before) (going.w ++ g.given) pending' going.m) (sym goes.0) (record { told = told }) in
      let k = judged_keeps next_read (lines_of (drop found.size reader.bytes ++ rest_of left')) in
      let before_dump : BeforeDump (input going form end) going.read = record {
        world = ap world_of going.at ∙ goes.0 ∙ sym (opened_here command goes);
        later = k.commands;
        commands = commands_here command event ∙ append_assoc going.read.commands (command ∷ []) k.commands ∙ ap (λ c. going.read.commands ++ c ∷ k.commands) a.dump;
      } in
      ran_none going form end g tells rose before_dump

  pub ran_stopped : {held'' : List ℕ → Type 0} {stands' : State → Type 0} {loaded : Bool} {source_rose : Type 0} (now' : ℕ) {pending' : List ℕ} (event : Event) (halt : LoopExit) → next.event ≡ event → (event ≡ Opens → loaded ≡ false) → Acted event next.place.judge.builder.world stands stands' now now' held' held'' pending pending' (Err halt)
      → HasStopped left left' last held held'' stands' loaded source_rose (now' - before) pending' (Err (stop_of halt))
  ran_stopped now' Nothing halt is unloaded acted = absurd acted
  ran_stopped {held''} {stands'} {loaded} {source_rose} now' {pending'} Opens halt is unloaded acted =
      let g : Goes place Opens next.place = subst (λ e. Goes place e next.place) is goes_here in
      elim acted.1 [
        | inl o ↦
            let none : now - before ≡ 0 = unrisen going form end g.0 in
            let same : now' ≡ now = o.1 in
            subst (λ e. HasStopped left left' last held held'' stands' loaded source_rose (now' - before) pending' (Err (stop_of e))) (sym o.0) (ran_early going form end Memory acted.0 (inl (refl, unloaded refl), refl) (λ _. omega (arith, none, same)) g.0)
        | inr o ↦
            subst (λ e. HasStopped left left' last held held'' stands' loaded source_rose (now' - before) pending' (Err (stop_of e))) (sym o.0)
            (ran_early going form end Swap acted.0 ((refl, unloaded refl), objects_here g.1 o.1, refl) (λ other. absurd (other refl)) g.0)
      ]
  ran_stopped {held''} {stands'} {loaded} {source_rose} now' {pending'} (Does command) halt is unloaded acted =
      let g : Goes place (Does command) next.place = subst (λ e. Goes place e next.place) is goes_here in
      let t = (subst (λ o. Tells o going.read.commands stands (now - before) going.w pending going.m) g.0 going.tells).told in
      elim (acted.1 t.last t.state (told_reached t going.limits (sound_at place form next.place.judge.builder.world g.0))) [
        | inl a ↦
            let e : halt ≡ halts.Write = a.write in
            subst (λ x. HasStopped left left' last held held'' stands' loaded source_rose (now' - before) pending' (Err (stop_of x))) (sym e)
            (ran_reply now' command is g t acted.0 (subst (λ x. Answers next.place.judge.builder.world command t.last stands' now now' held' held'' pending pending' (Err x)) e a))
        | inr a ↦
            let e : halt ≡ halts.Memory = let f = a.halt in cc (f) in
            subst (λ x. HasStopped left left' last held held'' stands' loaded source_rose (now' - before) pending' (Err (stop_of x))) (sym e)
            (ran_dump now' command is g t acted.0 (subst (λ x. HasNoRoom command t.last stands' now now' held' held'' pending pending' (Err x)) e a))
      ]

  nothing_open : (i : List ℕ) → left ≡ Some i → HasNoWorld i → HasNoWorld (input going form end)
  nothing_open i tells none = subst HasNoWorld (input_is going form end i tells) none

  -- if a run stops in what a line requests, its input has a world
  pub stopped_opened : (held'' : List ℕ → Type 0) (stands' : State → Type 0) (now' : ℕ) (pending' : List ℕ) (event : Event) (halt : LoopExit) → next.event ≡ event
      → Acted event next.place.judge.builder.world stands stands' now now' held' held'' pending pending' (Err halt) → (i : List ℕ) → left ≡ Some i → HasNoWorld i → ⊥
  stopped_opened held'' stands' now' pending' Nothing halt is acted i tells none = acted
  stopped_opened held'' stands' now' pending' Opens halt is acted i tells none =
      let g : Goes place Opens next.place = subst (λ e. Goes place e next.place) is goes_here in
      let some = opened_behind next.place.judge.builder.world g.1 in
      let nothing = nothing_open i tells none in
      absurd (cc (some, nothing))
  stopped_opened held'' stands' now' pending' (Does command) halt is acted i tells none =
      let g : Goes place (Does command) next.place = subst (λ e. Goes place e next.place) is goes_here in
      let some = opened_here command g in
      let nothing = nothing_open i tells none in
      absurd (cc (some, nothing))
