-- Replies on their way to the sink.
use Rattle.std.proofs.Common.{◌≡◌, ◌⊎◌, inl, inr, ℕ, ◌+◌, ◌-◌, ◌<◌, ◌≤◌, List, [], ◌∷◌, ◌++◌, length, Bool, true, false, refl, sym, subst, ap, ◌∙◌, arith, Option, Some, None}
use Rattle.std.specs.Prelude.{count_by}
use Rattle.std.proofs.lemmas.List.{append-nil, append_assoc, length-append}
use Rattle.std.proofs.lemmas.List.Concat.{flat_map-append, flat_map-cons}
use Rattle.std.proofs.lemmas.Bool.{cases_Bool}
use Rattle.std.proofs.lemmas.List.Sums.{sum_by-append}
use Rattle.lisp_graph.specs.declared.command.Command.{Command}
use Rattle.lisp_graph.specs.declared.world.AreaRule.{AreaRule}
use Rattle.lisp_graph.specs.declared.world.World.{World}
use Rattle.paged_machine.specs.lisp_meaning.State.{State}
use Rattle.paged_machine.specs.lisp_meaning.Step.{Answer}
use Rattle.paged_machine.specs.lisp_meaning.Run.{Does, Run}
use Rattle.paged_machine.specs.lisp_meaning.Opening.{opening}
use Rattle.paged_machine.specs.lisp_meaning.Sound.{IsSound}
use Rattle.input_verdict.specs.Verdict.{verdict, world_of}
use Rattle.input_verdict.proofs.VerdictInvariant.{AreInLimits}
use Rattle.replay_run.specs.Replies.{Answered, Replies, answer_text, is_fault, text_of}
use Rattle.replay_run.specs.Outcome.{CutReply, IsAhead, IsCutAt}
use Rattle.replay_run.specs.Steps.{IsReached, Told, Tells}
use Rattle.replay_run.proofs.Observations.{observes}
use Rattle.replay_run.proofs.SpaceAndAreas.{opened_of}
use Rattle.replay_run.proofs.Runs.{run_then, run_more, run_length, run_sound, run_some}

pub text_of-append : (areas : List AreaRule) (a b : List Answer) → text_of areas (a ++ b) ≡ text_of areas a ++ text_of areas b
text_of-append areas a b = flat_map-append (answer_text areas) a b

text_of-one : (areas : List AreaRule) (a : Answer) → text_of areas (a ∷ []) ≡ answer_text areas a
text_of-one areas a = flat_map-cons (answer_text areas) a [] ∙ append-nil _

-- Two ways to cut one list

-- the first cut is within the prefix of the other, or after it
split_at : (a b x y : List ℕ) → a ++ b ≡ x ++ y → ((r : List ℕ) × (0 < length r) × (a ≡ x ++ r)) ⊎ ((r : List ℕ) × (x ≡ a ++ r) × (b ≡ r ++ y))
split_at [] b x y h = inr (x, refl, h)
split_at (a ∷ rest_) b [] y h = inl (a ∷ rest_, omega arith, refl)
split_at (a ∷ rest_) b (x ∷ xs) y h =
    let head : a ≡ x = cc in
    let tail : rest_ ++ b ≡ xs ++ y = cc in
    elim (split_at rest_ b xs y tail) [
      | inl p ↦ inl (p.0, p.1, (λ i. head i ∷ p.2 i))
      | inr p ↦ inr (p.0, (λ i. sym head i ∷ p.1 i), p.2)
    ]

-- a prefix of several texts, and not all of them, ends within one of them
pub cut_within : (areas : List AreaRule) (answers : List Answer) (front rest : List ℕ) → text_of areas answers ≡ front ++ rest → 0 < length rest
    → (n : ℕ) × (n < length answers) × IsCutAt areas answers front n
cut_within areas [] front rest is some = absurd (omega (arith, ap length is, length-append front rest))
cut_within areas (a ∷ others) front rest is some =
    elim (split_at (answer_text areas a) (text_of areas others) front rest (sym (flat_map-cons (answer_text areas) a others) ∙ is)) [
      | inl p ↦ (0, omega arith, record { before = []; answer = a; after = others; split = refl; count = refl; part = front; cut = p; is = refl })
      | inr p ↦ let q = cut_within areas others p.0 rest p.2 some in (
        q.0 + 1,
        omega (arith, q.1),
        record {
          before = a ∷ q.2.before;
          answer = q.2.answer;
          after = q.2.after;
          split = ap (λ xs. a ∷ xs) q.2.split;
          count = omega (arith, q.2.count);
          part = q.2.part;
          cut = q.2.cut;
          is = p.1 ∙ ap (λ xs. answer_text areas a ++ xs) q.2.is ∙ sym (append_assoc (answer_text areas a) (text_of areas q.2.before) q.2.part) ∙ ap (λ xs. xs ++ q.2.part) (sym (flat_map-cons (answer_text areas) a q.2.before));
        },
      )
    ]

-- the same after other answers
cut_behind_first : (areas : List AreaRule) (first later : List Answer) (given : List ℕ) (n : ℕ) → IsCutAt areas later given n → IsCutAt areas (first ++ later) (text_of areas first ++ given) (length first + n)
cut_behind_first areas first later given n c = record {
  before = first ++ c.before;
  answer = c.answer;
  after = c.after;
  split = ap (λ xs. first ++ xs) c.split ∙ sym (append_assoc first c.before (c.answer ∷ c.after));
  count = omega (arith, length-append first c.before, c.count);
  part = c.part;
  cut = c.cut;
  is = ap (λ xs. text_of areas first ++ xs) c.is ∙ sym (append_assoc (text_of areas first) (text_of areas c.before) c.part) ∙ ap (λ xs. xs ++ c.part) (sym (text_of-append areas first c.before));
}

-- What was gathered and given

-- more was given
pub told_moved : {world : World} {commands : List Command} {stands : State → Type 0} {rose : ℕ} {w : List ℕ} {pending pending' : List ℕ} {m : ℕ} (given : List ℕ) → pending ≡ given ++ pending'
    → Told world commands stands rose w pending m → Told world commands stands rose (w ++ given) pending' m
told_moved {world = world} {w = w} {pending = pending} {pending' = pending'} given all t = record {
  first = t.first;
  later = t.later;
  last = t.last;
  run = t.run;
  state = t.state;
  faults = t.faults;
  quiet = t.quiet;
  count = t.count;
  given = t.given ++ given;
  is = ap (λ xs. xs ++ given) t.is ∙ append_assoc (text_of world.areas t.first) t.given given;
  rest = t.rest ∙ ap (λ xs. t.given ++ xs) all ∙ sym (append_assoc t.given given pending');
}

-- all of it was given
pub told_whole : {world : World} {commands : List Command} {stands : State → Type 0} {rose : ℕ} {w pending : List ℕ} {m : ℕ} → pending ≡ [] → Told world commands stands rose w pending m
    → Told world commands stands rose w [] (length commands)
told_whole {world = world} {commands = commands} {rose = rose} {w = w} {pending = pending} none t = record {
  first = t.first ++ t.later;
  later = [];
  last = t.last;
  run = subst (λ xs. Run (opening world) commands xs t.last) (sym (append-nil (t.first ++ t.later))) t.run;
  state = t.state;
  faults = subst (λ xs. count_by is_fault xs ≤ rose) (sym (append-nil (t.first ++ t.later))) t.faults;
  quiet = subst (λ xs. count_by is_fault xs ≡ 0 → rose ≡ 0) (sym (append-nil (t.first ++ t.later))) t.quiet;
  count = sym (run_length (opening world) t.last commands (t.first ++ t.later) t.run);
  given = [];
  is = t.is ∙ ap (λ xs. text_of world.areas t.first ++ xs) (sym (t.rest ∙ ap (λ xs. t.given ++ xs) none ∙ append-nil t.given)) ∙ sym (text_of-append world.areas t.first t.later) ∙ sym (append-nil _);
  rest = refl;
}

faults_more : (before now now' : ℕ) (a : Answer) (xs : List Answer) → before ≤ now → now ≤ now' → (is_fault a ≡ true → now < now') → count_by is_fault xs ≤ now - before → count_by is_fault (xs ++ a ∷ []) ≤ now' - before
faults_more before now now' a xs l m f h =
    let both : count_by is_fault (xs ++ a ∷ []) ≡ count_by is_fault xs + count_by is_fault (a ∷ []) = sum_by-append _ xs (a ∷ []) in
    elim (cases_Bool (is_fault a)) [
      | inl on ↦ let e : count_by is_fault (a ∷ []) ≡ 1 = rw on refl in omega (arith, both, e, f on)
      | inr off ↦ let e : count_by is_fault (a ∷ []) ≡ 0 = rw off refl in omega (arith, both, e)
    ]

quiet_more : (before now now' : ℕ) (a : Answer) (xs : List Answer) → (is_fault a ≡ false → now' ≡ now) → (count_by is_fault xs ≡ 0 → now - before ≡ 0) → count_by is_fault (xs ++ a ∷ []) ≡ 0 → now' - before ≡ 0
quiet_more before now now' a xs same h none =
    let both : count_by is_fault (xs ++ a ∷ []) ≡ count_by is_fault xs + count_by is_fault (a ∷ []) = sum_by-append _ xs (a ∷ []) in
    elim (cases_Bool (is_fault a)) [
      | inl on ↦ let e : count_by is_fault (a ∷ []) ≡ 1 = rw on refl in absurd (omega (arith, both, e, none))
      | inr off ↦ let e : count_by is_fault (a ∷ []) ≡ 0 = rw off refl in omega (arith, same off, h (omega (arith, both, e, none)))
    ]

-- one more command was answered
pub told_more : {world : World} {commands : List Command} {stands stands' : State → Type 0} {before now now' : ℕ} {w pending : List ℕ} {m : ℕ} (command : Command) (answer : Answer) (new : State) (t : Told world commands stands (now - before) w pending m)
    → Does t.last command answer new → stands' new → before ≤ now → now ≤ now' → (is_fault answer ≡ true → now < now') → (is_fault answer ≡ false → now' ≡ now)
    → Told world (commands ++ command ∷ []) stands' (now' - before) w (pending ++ answer_text world.areas answer) m
told_more {world = world} {commands = commands} {before = before} {now = now} {now' = now'} {pending = pending} command answer new t does state l later cause same =
    let assoc : (t.first ++ t.later) ++ answer ∷ [] ≡ t.first ++ (t.later ++ answer ∷ []) = append_assoc t.first t.later (answer ∷ []) in
    record {
      first = t.first;
      later = t.later ++ answer ∷ [];
      last = new;
      run = subst (λ xs. Run (opening world) (commands ++ command ∷ []) xs new) assoc (run_more (opening world) t.last new commands (t.first ++ t.later) command answer t.run does);
      state = state;
      faults = subst (λ xs. count_by is_fault xs ≤ now' - before) assoc (faults_more before now now' answer (t.first ++ t.later) l later cause t.faults);
      quiet = subst (λ xs. count_by is_fault xs ≡ 0 → now' - before ≡ 0) assoc (quiet_more before now now' answer (t.first ++ t.later) same t.quiet);
      count = t.count;
      given = t.given;
      is = t.is;
      rest = text_of-append world.areas t.later (answer ∷ []) ∙ ap (λ xs. text_of world.areas t.later ++ xs) (text_of-one world.areas answer) ∙ ap (λ xs. xs ++ answer_text world.areas answer) t.rest ∙ append_assoc t.given pending (answer_text world.areas answer);
    }

-- the machine represents the same state, and its count of failed page calls is unchanged
pub told_as : (before : ℕ) {stands stands' : State → Type 0} {world : World} {commands : List Command} {now now' : ℕ} {w pending : List ℕ} {m : ℕ} (t : Told world commands stands (now - before) w pending m) → stands' t.last → now' ≡ now
    → Told world commands stands' (now' - before) w pending m
told_as before t state same = record {
  first = t.first;
  later = t.later;
  last = t.last;
  run = t.run;
  state = state;
  faults = omega (arith, t.faults, same);
  quiet = λ none. omega (arith, t.quiet none, same);
  count = t.count;
  given = t.given;
  is = t.is;
  rest = t.rest;
}

-- a run in the world reached its last state
pub told_reached : {world : World} {commands : List Command} {stands : State → Type 0} {rose : ℕ} {w pending : List ℕ} {m : ℕ} (t : Told world commands stands rose w pending m) → AreInLimits commands → IsSound (opening world) → IsReached world t.last
told_reached {world = world} {commands = commands} t limits sound = record {
  of = opened_of world t.last commands (t.first ++ t.later) t.run;
  sound = run_sound (opening world) t.last commands (t.first ++ t.later) limits sound t.run;
}

told_text : {world : World} {commands : List Command} {stands : State → Type 0} {rose : ℕ} {w pending : List ℕ} {m : ℕ} (t : Told world commands stands rose w pending m) → w ++ pending ≡ text_of world.areas (t.first ++ t.later)
told_text {world = world} {pending = pending} t =
    ap (λ xs. xs ++ pending) t.is ∙ append_assoc (text_of world.areas t.first) t.given pending ∙ ap (λ xs. text_of world.areas t.first ++ xs) (sym t.rest) ∙ sym (text_of-append world.areas t.first t.later)

-- the replies are a text
pub told_replies : {world : World} {commands : List Command} {stands : State → Type 0} {rose : ℕ} {w pending : List ℕ} {m : ℕ} → Told world commands stands rose w pending m → Replies world commands stands rose (w ++ pending)
told_replies t = record {
  answers = t.first ++ t.later;
  last = t.last;
  run = t.run;
  is = told_text t;
  state = t.state;
  faults = t.faults;
  quiet = t.quiet;
}

-- if something is pending, the sink stopped in a reply after those that it gained in full
pub cut_reply : {world : World} {commands : List Command} {stands : State → Type 0} {loaded : Bool} {source_rose : Type 0} {rose : ℕ} {w pending : List ℕ} {m : ℕ} (i b : List ℕ) (latest : ℕ) (later : List Command) → world_of (verdict i).read.place ≡ Some world → (verdict i).read.commands ≡ commands ++ later
    → AreInLimits commands → AreInLimits later → IsSound (opening world) → 0 < length pending → Told world commands stands rose w pending m → ((n : ℕ) → m ≤ n → n < length commands → IsAhead n i b latest) → CutReply (observes i b latest w stands loaded source_rose rose)
cut_reply {world = world} {commands = commands} {w = w} {pending = pending} {m = m} i b latest later opened all limits after sound some t ahead =
    let c = cut_within world.areas t.later t.given pending t.rest some in
    let e = run_length (opening world) t.last commands (t.first ++ t.later) t.run in
    let more = run_some t.last later after (run_sound (opening world) t.last commands (t.first ++ t.later) limits sound t.run) in
    let whole : text_of world.areas ((t.first ++ t.later) ++ more.0) ≡ w ++ (pending ++ text_of world.areas more.0) =
    text_of-append world.areas (t.first ++ t.later) more.0 ∙ ap (λ xs. xs ++ text_of world.areas more.0) (sym (told_text t)) ∙ append_assoc w pending (text_of world.areas more.0) in record {
      n = length t.first + c.0;
      ahead = ahead (length t.first + c.0) (omega (arith, t.count)) (omega (arith, e, length-append t.first t.later, c.1));
      world = world;
      opened = opened;
      done = commands;
      later = later;
      commands = all;
      text = w ++ pending;
      replies = record { answers = t.first ++ t.later; last = t.last; run = t.run; is = told_text t; state = t.state; faults = t.faults; quiet = t.quiet };
      at = subst (λ xs. IsCutAt world.areas (t.first ++ t.later) xs (length t.first + c.0)) (sym t.is) (cut_behind_first world.areas t.first t.later t.given c.0 c.2);
      answers = (t.first ++ t.later) ++ more.0;
      last = more.1;
      run = subst (λ cs. Run (opening world) cs ((t.first ++ t.later) ++ more.0) more.1) (sym all) (run_then (opening world) t.last more.1 commands (t.first ++ t.later) later more.0 t.run more.2);
      front = (pending ++ text_of world.areas more.0, omega (arith, length-append pending (text_of world.areas more.0), some), whole);
    }

-- The same if no world may be open

both_empty : (a b : List ℕ) → a ++ b ≡ [] → (a ≡ []) × (b ≡ [])
both_empty [] b e = (refl, e)
both_empty (x ∷ xs) b e = absurd cc

pub tells_moved : {world : Option World} {commands : List Command} {stands : State → Type 0} {rose : ℕ} {w pending pending' : List ℕ} {m : ℕ} (given : List ℕ) → pending ≡ given ++ pending'
    → Tells world commands stands rose w pending m → Tells world commands stands rose (w ++ given) pending' m
tells_moved {world = Some world} given all t = record { told = told_moved given all t.told }
tells_moved {world = None} {pending' = pending'} given all t =
    let p = both_empty given pending' (sym all ∙ t.told.2) in
    record { told = (t.told.0, rw (t.told.1, p.0) refl, p.1, t.told.3, t.told.4) }

pub tells_whole : {world : Option World} {commands : List Command} {stands : State → Type 0} {rose : ℕ} {w pending : List ℕ} {m : ℕ} → pending ≡ [] → Tells world commands stands rose w pending m → Tells world commands stands rose w pending (length commands)
tells_whole {world = Some world} {commands = commands} {stands = stands} {rose = rose} {w = w} none t = record { told = subst (λ xs. Told world commands stands rose w xs (length commands)) (sym none) (told_whole none t.told) }
tells_whole {world = None} none t = record { told = (t.told.0, t.told.1, t.told.2, ap length t.told.0, t.told.4) }

pub tells_as : (before : ℕ) {stands stands' : State → Type 0} {world : Option World} {commands : List Command} {now now' : ℕ} {w pending : List ℕ} {m : ℕ} → ((state : State) → stands state → stands' state) → now' ≡ now
    → Tells world commands stands (now - before) w pending m → Tells world commands stands' (now' - before) w pending m
tells_as before {world = Some world} f same t = record { told = told_as before t.told (f t.told.last t.told.state) same }
tells_as before {world = None} f same t = let t = t.told in record { told = (t.0, t.1, t.2, t.3, omega (arith, t.4, same)) }

pub tells_answered : {world : Option World} {commands : List Command} {stands : State → Type 0} {rose : ℕ} {w pending : List ℕ} {m : ℕ} → Tells world commands stands rose w pending m → Answered world commands stands rose (w ++ pending)
tells_answered {world = Some world} t = told_replies t.told
tells_answered {world = None} t = let t = t.told in (t.0, rw (t.1, t.2) refl)

pub tells_few : {world : Option World} {commands : List Command} {stands : State → Type 0} {rose : ℕ} {w pending : List ℕ} {m : ℕ} → Tells world commands stands rose w pending m → m ≤ length commands
tells_few {world = Some world} {commands = commands} t =
    let t = t.told in
    omega (arith, t.count, length-append t.first t.later, run_length (opening world) t.last commands (t.first ++ t.later) t.run)
tells_few {world = None} t = let t = t.told in omega (arith, t.3)
