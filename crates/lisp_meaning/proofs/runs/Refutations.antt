-- Runs that are impossible, by computation: each choice of the machine is tested, as far as it could give these answers.
use Rattle.std.proofs.Common.{◌≡◌, ℕ, suc, ◌*◌, ◌<◌, ◌≤◌, ◌⊎◌, inl, inr, Bool, true, false, not, ◌&&◌, ◌||◌, if◌then◌else◌, refl, sym, ◌∙◌, ap, arith, List, [], ◌∷◌, length, Option, Some, None, nat_le, IsTrue, is_some}
use Rattle.std.specs.Prelude.{MatchBool}
use Rattle.std.proofs.lemmas.Bool.{and_parts, and_from, or_cases, cases_Bool, le-leb}
use Rattle.lisp_graph.specs.declared.command.Command.{Command}
use Rattle.lisp_graph.specs.declared.command.Command.TheVariants as C
use Rattle.lisp_graph.specs.declared.command.Condemn.{Condemn}
use Rattle.lisp_graph.specs.declared.command.Condemn.TheVariants.{Chosen}
use Rattle.lisp_graph.specs.declared.reply.Reply.{Reply}
use Rattle.lisp_graph.specs.declared.reply.Reply.TheVariants as R
use Rattle.lisp_graph.specs.Effect.{Effect, effect}
use Rattle.lisp_meaning.specs.machine.Maps.{some_below}
use Rattle.lisp_meaning.specs.machine.State.{Condemned, Phase, Idle, Running, is_over, is_idle, survivor, State, is_held, in_use}
use Rattle.lisp_meaning.specs.machine.Reach.{closure}
use Rattle.lisp_meaning.specs.machine.Flip.{graph_of, flipped, Settles}
use Rattle.lisp_meaning.specs.machine.Step.{AreaLine, Answer, Replied, Accounts, Contents, area_lines, world_of, counted, answer_of, with_over, is_paid, scans, may_fault, IsOverAfter, Flips, Scavenges, Reclaims, Serves, StepsBy, Step}
use Rattle.lisp_meaning.specs.machine.Run.{collects_itself, is_full, full_levels, allocates, SilentReclaim, SilentFlip, Silent, Run}
use Rattle.lisp_meaning.specs.machine.Sound.{IsSound}
use Rattle.lisp_meaning.specs.Laws.{is_root}
use Rattle.lisp_meaning.proofs.closure.Collections.{settled, settled_level, level_or_zero, settles_reachable}
use Rattle.lisp_meaning.proofs.runs.Plays.{implies, may_be_over, is_allowed, allowed}
use Rattle.lisp_meaning.proofs.closure.Transitions.{silent_sound, step_sound}
use Rattle.lisp_meaning.proofs.sums.SomeBelow.{some_below-true}

-- Answers that differ, by a test

abbrev pub reply_code : Reply → List ℕ
reply_code R.Fine = 0 ∷ []
reply_code R.Fault = 1 ∷ []
reply_code R.More = 2 ∷ []
reply_code R.Done = 3 ∷ []
reply_code R.Reclaimed = 4 ∷ []
reply_code R.NotDone = 5 ∷ []
reply_code R.NotFlipped = 6 ∷ []
reply_code R.Busy = 7 ∷ []
reply_code (R.Flipped pages) = 8 ∷ pages ∷ []
reply_code (R.Exhausted area charged wanted quota) = 9 ∷ []
reply_code _ = 10 ∷ []

abbrev pub charged_in : List AreaLine → List ℕ
charged_in [] = []
charged_in (line ∷ lines) = line.charged ∷ charged_in lines

abbrev pub code_of : Answer → List ℕ
code_of (Replied r) = 0 ∷ reply_code r
code_of (Accounts lines) = 1 ∷ charged_in lines
code_of (Contents w) = 2 ∷ []

abbrev pub same_codes : List ℕ → List ℕ → Bool
same_codes [] [] = true
same_codes (x ∷ xs) (y ∷ ys) = Rattle.std.specs.Prelude.nat_eq x y && same_codes xs ys
same_codes _ _ = false

abbrev pub other : Answer → Answer → Bool
other a b = not (same_codes (code_of a) (code_of b))

abbrev pub pages_in : Answer → ℕ
pages_in (Replied (R.Flipped pages)) = pages
pages_in _ = 0

same_codes-refl : (xs : List ℕ) → same_codes xs xs ≡ true
same_codes-refl [] = refl
same_codes-refl (x ∷ xs) = and_from-true (Rattle.std.specs.Prelude.nat_eq x x) (same_codes xs xs) (Rattle.std.proofs.lemmas.Bool.eq-eqb x x refl) (same_codes-refl xs)
  where
    and_from-true : (a b : Bool) → a ≡ true → b ≡ true → (a && b) ≡ true
    and_from-true a b x y = cc

same_not_other : (a b : Answer) → a ≡ b → other a b ≡ true → ⊥
same_not_other a b e o =
    let x : same_codes (code_of a) (code_of b) ≡ true = ap (λ (z : Answer). same_codes (code_of a) (code_of z)) (sym e) ∙ same_codes-refl (code_of a) in
    let y : not (same_codes (code_of a) (code_of b)) ≡ false = ap not x in
    cc

-- One way to settle: each condemned name that is bound has to stay

abbrev pub is_decided : State → Condemned → Bool
is_decided s aim = not (some_below (λ n. aim.condemned n && (aim.bound n && not (closure s.store.objects (is_root s aim) n))) (length s.store.objects))

module _ (s : State) (aim : Condemned) (new : State) (t : Settles s aim new) (names : (n : ℕ) → in_use s.store n → n < length s.store.objects) (decided : is_decided s aim ≡ true) where
  stays : (n level : ℕ) → s.store.held n ≡ Some level → aim.condemned n ≡ true → aim.bound n ≡ true → is_held new.store n ≡ true
  stays n level e c b = go (cases_Bool (closure s.store.objects (is_root s aim) n))
    where
      all : (x y z : Bool) → x ≡ true → y ≡ true → z ≡ false → (x && (y && not z)) ≡ true
      all x y z p q r = cc

      go : (closure s.store.objects (is_root s aim) n ≡ true) ⊎ (closure s.store.objects (is_root s aim) n ≡ false) → is_held new.store n ≡ true
      go (inl x) = settles_reachable s aim new t n x
      go (inr x) =
          let some : some_below (λ m. aim.condemned m && (aim.bound m && not (closure s.store.objects (is_root s aim) m))) (length s.store.objects) ≡ true =
          some_below-true (λ m. aim.condemned m && (aim.bound m && not (closure s.store.objects (is_root s aim) m))) (length s.store.objects) n (names n (ap is_some e)) (all (aim.condemned n) (aim.bound n) (closure s.store.objects (is_root s aim) n) c b x) in
          let no = ap not some in
          absurd (cc)

  held_is : (n : ℕ) → new.store.held n ≡ (settled s aim).store.held n
  held_is n = go (s.store.held n) refl (cases_Bool (aim.condemned n)) (cases_Bool (aim.bound n))
    where
      is : (o : Option ℕ) (condemned bound : Bool) → s.store.held n ≡ o → aim.condemned n ≡ condemned → aim.bound n ≡ bound
          → (settled s aim).store.held n ≡ settled_level condemned bound (survivor s.space.levels aim.what (level_or_zero o)) o
      is o condemned bound e c b = (λ i. settled_level (c i) (b i) (survivor s.space.levels aim.what (level_or_zero (e i))) (e i))

      go : (o : Option ℕ) → s.store.held n ≡ o → (aim.condemned n ≡ true) ⊎ (aim.condemned n ≡ false) → (aim.bound n ≡ true) ⊎ (aim.bound n ≡ false) → new.store.held n ≡ (settled s aim).store.held n
      go None e c b = t.nothing_new n e ∙ sym (is None (aim.condemned n) (aim.bound n) e refl refl)
      go (Some level) e (inr c) b = t.spared n c ∙ e ∙ sym (is (Some level) false (aim.bound n) e c refl)
      go (Some level) e (inl c) (inr b) = gone (t.doomed n level c e) ∙ sym (is (Some level) true false e c b)
        where
          gone : (new.store.held n ≡ None) ⊎ ((new.store.held n ≡ Some (survivor s.space.levels aim.what level)) × IsTrue (aim.bound n)) → new.store.held n ≡ None
          gone (inl x) = x
          gone (inr x) = let y = x.1 in absurd (cc)
      go (Some level) e (inl c) (inl b) = kept (t.doomed n level c e) ∙ sym (is (Some level) true true e c b)
        where
          kept : (new.store.held n ≡ None) ⊎ ((new.store.held n ≡ Some (survivor s.space.levels aim.what level)) × IsTrue (aim.bound n)) → new.store.held n ≡ Some (survivor s.space.levels aim.what level)
          kept (inl x) = let y = ap is_some x in let z = stays n level e c b in absurd (cc)
          kept (inr x) = x.0

  one_way : new ≡ settled s aim
  one_way = λ i. record {
    space = t.space i;
    areas = t.areas i;
    registers = t.registers i;
    store = record { objects = t.objects i; held = λ n. held_is n i; husks = t.husks i };
    phase = t.phase i;
  }

-- Steps that could be taken, with what has to hold after each

abbrev pub ends_to : State → Bool → Reply → State → Answer → (State → Bool) → Bool
ends_to s may r after a rest =
    other a (Replied r) || ((not (may_be_over s may after true) || rest (with_over true after)) && (not (may_be_over s may after false) || rest (with_over false after)))

abbrev pub goes_to : State → Answer → Answer → State → (State → Bool) → Bool
goes_to s a shown after rest = other a shown || rest after

abbrev pub flips_to : State → Phase → Condemn → Answer → (State → Bool) → Bool
flips_to s (Running c) what a rest = goes_to s a (Replied R.Busy) s rest
flips_to s Idle what a rest = not (nat_le (pages_in a) (16 * s.space.regions)) || goes_to s a (Replied (R.Flipped (pages_in a))) (flipped s what (pages_in a)) rest

abbrev pub scavenges_to : State → Phase → ℕ → Answer → (State → Bool) → Bool
scavenges_to s Idle count a rest = goes_to s a (Replied R.NotFlipped) s rest
scavenges_to s (Running c) count a rest =
    (not (may_be_over s true (counted 0 count s) true) || goes_to s a (Replied R.Done) (with_over true (counted 0 count s)) rest)
    && (not (may_be_over s true (counted 0 count s) false) || goes_to s a (Replied R.More) (with_over false (counted 0 count s)) rest)

abbrev pub reclaims_if : State → Condemned → Bool → Answer → (State → Bool) → Bool
reclaims_if s aim true a rest = other a (Replied R.Reclaimed) || (is_decided s aim && rest (settled s aim))
reclaims_if s aim false a rest = goes_to s a (Replied R.NotDone) s rest

abbrev pub reclaims_to : State → Phase → Answer → (State → Bool) → Bool
reclaims_to s Idle a rest = goes_to s a (Replied R.NotFlipped) s rest
reclaims_to s (Running c) a rest = reclaims_if s c.aim c.over a rest

abbrev pub serves_to : State → Command → Answer → (State → Bool) → Bool
serves_to s (C.Flip what) a rest = flips_to s s.phase what a rest
serves_to s (C.Scavenge count) a rest = scavenges_to s s.phase count a rest
serves_to s C.Reclaim a rest = reclaims_to s s.phase a rest
serves_to s (C.PageOut count) a rest = goes_to s a (Replied R.Fine) s rest
serves_to s C.Stats a rest = goes_to s a (Accounts (area_lines s 0 s.areas)) s rest
serves_to s C.Dump a rest = goes_to s a (Contents (world_of s)) s rest
serves_to s _ a rest = true

abbrev pub steps_to : State → Command → Option Effect → Answer → (State → Bool) → Bool
steps_to s c (Some e) a rest = ends_to s (scans s c (answer_of s c e).0) (answer_of s c e).0 (answer_of s c e).1 a rest
steps_to s c None a rest = serves_to s c a rest

abbrev pub faults_to : State → Command → Answer → (State → Bool) → Bool
faults_to s c a rest = not (may_fault c) || ends_to s (scans s c R.Fault) R.Fault s a rest

-- Silent steps, with what has to hold after them

abbrev pub flips_silently_to : State → (State → Bool) → Bool
flips_silently_to s rest = not (some_below (λ pages. not (rest (flipped s (Chosen (full_levels s)) pages))) (suc (16 * s.space.regions)))

abbrev pub silent_flip_if : State → Bool → (State → Bool) → Bool
silent_flip_if s true rest = flips_silently_to s rest
silent_flip_if s false rest = rest s

abbrev pub silent_flip_to : State → (State → Bool) → Bool
silent_flip_to s rest = silent_flip_if s (is_idle s.phase && some_below (λ i. is_full s (suc i)) s.space.levels) rest

abbrev pub silent_reclaim_if : State → Condemned → Bool → (State → Bool) → Bool
silent_reclaim_if s aim true rest = is_decided s aim && rest (settled s aim)
silent_reclaim_if s aim false rest = rest s

abbrev pub silent_reclaim_to : State → Phase → (State → Bool) → Bool
silent_reclaim_to s Idle rest = rest s
silent_reclaim_to s (Running c) rest = silent_reclaim_if s c.aim c.over rest

abbrev pub silent_if : State → Bool → (State → Bool) → Bool
silent_if s true rest = silent_reclaim_to s s.phase (λ mid. silent_flip_to mid rest)
silent_if s false rest = rest s

abbrev pub silent_to : State → Command → (State → Bool) → Bool
silent_to s c rest = silent_if s (allocates c && collects_itself s) rest

-- Runs

abbrev pub step_to : State → Command → Answer → (State → Bool) → Bool
step_to s c a rest = steps_to s c (effect (graph_of s) c) a rest && faults_to s c a rest

-- no run shows so much
abbrev pub cannot : State → List Command → List Answer → Bool
cannot s [] [] = false
cannot s [] (a ∷ answers) = true
cannot s (c ∷ cs) [] = true
cannot s (c ∷ cs) (a ∷ answers) = is_allowed c && silent_to s c (λ mid. step_to mid c a (λ next. cannot next cs answers))

-- What was to hold holds

past : (b c : Bool) → b ≡ true → (not b || c) ≡ true → c ≡ true
past b c x e = cc

goes : (s : State) (a shown : Answer) (after : State) (rest : State → Bool) (new : State) → goes_to s a shown after rest ≡ true → a ≡ shown → new ≡ after → rest new ≡ true
goes s a shown after rest new t e is = go (or_cases (other a shown) (rest after) t)
  where
    go : (other a shown ≡ true) ⊎ (rest after ≡ true) → rest new ≡ true
    go (inl x) = absurd (same_not_other a shown e x)
    go (inr x) = ap rest is ∙ x

over_may : (s : State) (may : Bool) (after : State) (over : Bool) → IsOverAfter s may after over → may_be_over s may after over ≡ true
over_may s may after over o = all (implies (is_over s.phase) over) (implies (not (is_over s.phase) && over) may) (implies (is_paid after.phase) over) (imply (is_over s.phase) over o.stays) (imply (not (is_over s.phase) && over) may only) (imply (is_paid after.phase) over o.at_last)
  where
    imply : (a b : Bool) → (a ≡ true → b ≡ true) → implies a b ≡ true
    imply true b f = f refl
    imply false b f = refl

    all : (a b c : Bool) → a ≡ true → b ≡ true → c ≡ true → (a && (b && c)) ≡ true
    all a b c x y z = cc

    not_so : (b : Bool) → not b ≡ true → b ≡ false
    not_so true e = cc
    not_so false e = refl

    only : (not (is_over s.phase) && over) ≡ true → may ≡ true
    only e = let x = and_parts (not (is_over s.phase)) over e in o.only_by (not_so (is_over s.phase) x.0) x.1

over_holds : (s : State) (may : Bool) (after : State) (over : Bool) (P : Bool → Bool) → IsOverAfter s may after over
    → (not (may_be_over s may after true) || P true) ≡ true → (not (may_be_over s may after false) || P false) ≡ true → P over ≡ true
over_holds s may after true P o ended on = past (may_be_over s may after true) (P true) (over_may s may after true o) ended
over_holds s may after false P o ended on = past (may_be_over s may after false) (P false) (over_may s may after false o) on

ends_hold : (s : State) (may : Bool) (r : Reply) (after : State) (a : Answer) (rest : State → Bool) (new : State) → ends_to s may r after a rest ≡ true
    → ((over : Bool) × IsOverAfter s may after over × (a ≡ Replied r) × (new ≡ with_over over after)) → rest new ≡ true
ends_hold s may r after a rest new t e = go (or_cases (other a (Replied r)) _ t)
  where
    go : (other a (Replied r) ≡ true) ⊎ (((not (may_be_over s may after true) || rest (with_over true after)) && (not (may_be_over s may after false) || rest (with_over false after))) ≡ true) → rest new ≡ true
    go (inl x) = absurd (same_not_other a (Replied r) e.2 x)
    go (inr x) =
        let y = and_parts (not (may_be_over s may after true) || rest (with_over true after)) (not (may_be_over s may after false) || rest (with_over false after)) x in
        ap rest e.3 ∙ over_holds s may after e.0 (λ over. rest (with_over over after)) e.1 y.0 y.1

flips_hold : (s : State) (p : Phase) (what : Condemn) (a : Answer) (rest : State → Bool) (new : State) → flips_to s p what a rest ≡ true → Flips s p what a new → rest new ≡ true
flips_hold s (Running c) what a rest new t e = goes s a (Replied R.Busy) s rest new t e.0 e.1
flips_hold s Idle what a rest new t e =
    let pages : pages_in a ≡ e.0 = ap pages_in e.2 in
    let few : nat_le (pages_in a) (16 * s.space.regions) ≡ true = le-leb (pages_in a) (16 * s.space.regions) (let l = e.1 in omega arith) in
    goes s a (Replied (R.Flipped (pages_in a))) (flipped s what (pages_in a)) rest new
    (past (nat_le (pages_in a) (16 * s.space.regions)) _ few t) (e.2 ∙ ap (λ (n : ℕ). Replied (R.Flipped n)) (sym pages)) (e.3 ∙ ap (flipped s what) (sym pages))

scavenges_hold : (s : State) (p : Phase) (count : ℕ) (a : Answer) (rest : State → Bool) (new : State) → scavenges_to s p count a rest ≡ true → Scavenges s p count a new → rest new ≡ true
scavenges_hold s Idle count a rest new t e = goes s a (Replied R.NotFlipped) s rest new t e.0 e.1
scavenges_hold s (Running c) count a rest new t e =
    let y = and_parts (not (may_be_over s true (counted 0 count s) true) || goes_to s a (Replied R.Done) (with_over true (counted 0 count s)) rest) _ t in
    goes s a (Replied (if e.0 then R.Done else R.More)) (with_over e.0 (counted 0 count s)) rest new
    (over_holds s true (counted 0 count s) e.0 (λ over. goes_to s a (Replied (if over then R.Done else R.More)) (with_over over (counted 0 count s)) rest) e.1 y.0 y.1) e.2 e.3

module _ (s : State) (h : IsSound s) where
  reclaims_hold : (p : Phase) (a : Answer) (rest : State → Bool) (new : State) → reclaims_to s p a rest ≡ true → Reclaims s p a new → rest new ≡ true
  reclaims_hold Idle a rest new t e = goes s a (Replied R.NotFlipped) s rest new t e.0 e.1
  reclaims_hold (Running c) a rest new t e = by c.over t e
    where
      by : (over : Bool) → reclaims_if s c.aim over a rest ≡ true → MatchBool over ((a ≡ Replied R.Reclaimed) × Settles s c.aim new) ((a ≡ Replied R.NotDone) × (new ≡ s)) → rest new ≡ true
      by false t e = goes s a (Replied R.NotDone) s rest new t e.0 e.1
      by true t e = go (or_cases (other a (Replied R.Reclaimed)) _ t)
        where
          go : (other a (Replied R.Reclaimed) ≡ true) ⊎ ((is_decided s c.aim && rest (settled s c.aim)) ≡ true) → rest new ≡ true
          go (inl x) = absurd (same_not_other a (Replied R.Reclaimed) e.0 x)
          go (inr x) = let y = and_parts (is_decided s c.aim) (rest (settled s c.aim)) x in ap rest (one_way s c.aim new e.1 h.references.names y.0) ∙ y.1

  serves_hold : (c : Command) (a : Answer) (rest : State → Bool) (new : State) → serves_to s c a rest ≡ true → Serves s c a new → rest new ≡ true
  serves_hold (C.Flip what) a rest new t e = flips_hold s s.phase what a rest new t e
  serves_hold (C.Scavenge count) a rest new t e = scavenges_hold s s.phase count a rest new t e
  serves_hold C.Reclaim a rest new t e = reclaims_hold s.phase a rest new t e
  serves_hold (C.PageOut count) a rest new t e = goes s a (Replied R.Fine) s rest new t e.0 e.1
  serves_hold C.Stats a rest new t e = goes s a (Accounts (area_lines s 0 s.areas)) s rest new t e.0 e.1
  serves_hold C.Dump a rest new t e = goes s a (Contents (world_of s)) s rest new t e.0 e.1
  serves_hold (C.Set to value) a rest new t e = absurd e
  serves_hold (C.Move to from) a rest new t e = absurd e
  serves_hold (C.Cons to area car cdr) a rest new t e = absurd e
  serves_hold (C.List to area items) a rest new t e = absurd e
  serves_hold (C.Make to area code count) a rest new t e = absurd e
  serves_hold (C.Grow target count) a rest new t e = absurd e
  serves_hold (C.Car to from) a rest new t e = absurd e
  serves_hold (C.Cdr to from) a rest new t e = absurd e
  serves_hold (C.Rplaca target from) a rest new t e = absurd e
  serves_hold (C.Rplacd target from) a rest new t e = absurd e
  serves_hold (C.Get to from index) a rest new t e = absurd e
  serves_hold (C.Put target index from) a rest new t e = absurd e
  serves_hold (C.Size of) a rest new t e = absurd e
  serves_hold (C.Eq left right) a rest new t e = absurd e

  by_effect : (c : Command) (o : Option Effect) (a : Answer) (rest : State → Bool) (new : State) → steps_to s c o a rest ≡ true → StepsBy s c o a new → rest new ≡ true
  by_effect c (Some x) a rest new t e = ends_hold s (scans s c (answer_of s c x).0) (answer_of s c x).0 (answer_of s c x).1 a rest new t e
  by_effect c None a rest new t e = serves_hold c a rest new t e

  step_holds : (c : Command) (a : Answer) (rest : State → Bool) (new : State) → (steps_to s c (effect (graph_of s) c) a rest && faults_to s c a rest) ≡ true → Step s c a new → rest new ≡ true
  step_holds c a rest new t (inl e) = by_effect c (effect (graph_of s) c) a rest new (and_parts (steps_to s c (effect (graph_of s) c) a rest) (faults_to s c a rest) t).0 e
  step_holds c a rest new t (inr e) =
      ends_hold s (scans s c R.Fault) R.Fault s a rest new
      (past (may_fault c) _ e.0 (and_parts (steps_to s c (effect (graph_of s) c) a rest) (faults_to s c a rest) t).1) e.1

-- after the silent steps what was to hold holds
silent_flip_holds : (s : State) (rest : State → Bool) (new : State) → silent_flip_to s rest ≡ true → SilentFlip s new → rest new ≡ true
silent_flip_holds s rest new t x = go (is_idle s.phase && some_below (λ i. is_full s (suc i)) s.space.levels) t x
  where
    after : ℕ → State
    after pages = flipped s (Chosen (full_levels s)) pages

    each : (pages : ℕ) → pages < suc (16 * s.space.regions) → flips_silently_to s rest ≡ true → rest (after pages) ≡ true
    each pages l t = by (cases_Bool (rest (after pages)))
      where
        by : (rest (after pages) ≡ true) ⊎ (rest (after pages) ≡ false) → rest (after pages) ≡ true
        by (inl e) = e
        by (inr e) =
            let some : some_below (λ p. not (rest (after p))) (suc (16 * s.space.regions)) ≡ true = some_below-true (λ p. not (rest (after p))) (suc (16 * s.space.regions)) pages l (ap not e) in
            let no = ap not some in
            absurd (cc)

    go : (b : Bool) → silent_flip_if s b rest ≡ true → MatchBool b ((pages : ℕ) × (pages ≤ 16 * s.space.regions) × (new ≡ after pages)) (new ≡ s) → rest new ≡ true
    go true t x = ap rest x.2 ∙ each x.0 (let l = x.1 in omega arith) t
    go false t x = ap rest x ∙ t

silent_reclaim_holds : (s : State) → IsSound s → (p : Phase) (rest : State → Bool) (new : State) → silent_reclaim_to s p rest ≡ true → SilentReclaim s p new → rest new ≡ true
silent_reclaim_holds s h Idle rest new t x = ap rest x ∙ t
silent_reclaim_holds s h (Running c) rest new t x = go c.over t x
  where
    go : (over : Bool) → silent_reclaim_if s c.aim over rest ≡ true → MatchBool over (Settles s c.aim new) (new ≡ s) → rest new ≡ true
    go true t x = let y = and_parts (is_decided s c.aim) (rest (settled s c.aim)) t in ap rest (one_way s c.aim new x h.references.names y.0) ∙ y.1
    go false t x = ap rest x ∙ t

silent_holds : (s : State) → IsSound s → (c : Command) (rest : State → Bool) (new : State) → silent_to s c rest ≡ true → Silent s c new → rest new ≡ true
silent_holds s h c rest new t x = go (allocates c && collects_itself s) t x
  where
    go : (b : Bool) → silent_if s b rest ≡ true → MatchBool b ((mid : State) × SilentReclaim s s.phase mid × SilentFlip mid new) (new ≡ s) → rest new ≡ true
    go true t x = silent_flip_holds x.0 rest new (silent_reclaim_holds s h s.phase (λ mid. silent_flip_to mid rest) x.0 t x.1) x.2
    go false t x = ap rest x ∙ t

pub no_run : (s : State) (cs : List Command) (answers : List Answer) (new : State) → IsSound s → cannot s cs answers ≡ true → Run s cs answers new → ⊥
no_run s [] [] new h t r = cc
no_run s [] (a ∷ answers) new h t r = r
no_run s (c ∷ cs) [] new h t r = r
no_run s (c ∷ cs) (a ∷ answers) new h t r =
    let x = and_parts (is_allowed c) (silent_to s c (λ mid. step_to mid c a (λ next. cannot next cs answers))) t in
    let mid = r.1.0 in
    let sound = silent_sound s c mid h r.1.1 in
    let step = silent_holds s h c (λ mid. step_to mid c a (λ next. cannot next cs answers)) mid x.1 r.1.1 in
    no_run r.0 cs answers new (step_sound mid c a r.0 (allowed c x.0) sound r.1.2) (step_holds mid sound c a (λ next. cannot next cs answers) r.0 step r.1.2) r.2
