-- Each transition of a run keeps what is held closed, and each command has an answer.
use Rattle.std.proofs.Common.{◌≡◌, ℕ, zero, suc, ◌+◌, ◌*◌, ◌<◌, ◌≤◌, ◌⊎◌, inl, inr, Bool, true, false, not, ◌&&◌, ◌||◌, refl, sym, subst, ◌∙◌, ap, arith, List, [], ◌∷◌, length, Option, Some, None, if◌then◌else◌}
use Rattle.std.specs.Prelude.{is_some, MatchBool, IfSome, slice_get}
use Rattle.std.proofs.lemmas.Bool.{cases_Bool, cases_lt, or_cases, or_left, or_right, and_from, le-leb, cond_both}
use Rattle.lisp_graph.specs.declared.command.Command.{Command}
use Rattle.lisp_graph.specs.declared.command.Command.TheVariants as C
use Rattle.lisp_graph.specs.declared.command.Condemn.{Condemn}
use Rattle.lisp_graph.specs.declared.command.Condemn.TheVariants.{Chosen}
use Rattle.lisp_graph.specs.declared.reply.Reply.{Reply}
use Rattle.lisp_graph.specs.declared.reply.Reply.TheVariants as R
use Rattle.lisp_graph.specs.declared.world.World.{World}
use Rattle.lisp_graph.specs.Effect.{Effect, Wanted, effect}
use Rattle.lisp_meaning.specs.machine.Maps.{some_below}
use Rattle.lisp_meaning.specs.machine.State.{Condemned, Phase, Idle, Running, is_over, is_idle, State}
use Rattle.lisp_meaning.specs.machine.Flip.{graph_of, flipped, Settles}
use Rattle.lisp_meaning.specs.machine.Step.{Answer, Replied, Accounts, Contents, area_lines, world_of, counted, counted_phase, owed_by, allocated, exceeds, exhausted, answer_wanting, answer_of, with_over, with_over_phase, is_paid, is_exhausted, wanted_by, is_scavenge, scans, IsOverAfter, Ends, Answers, Flips, Scavenges, Reclaims, Serves, StepsBy, Step}
use Rattle.lisp_meaning.specs.machine.Run.{collects_itself, is_full, full_levels, allocates, SilentReclaim, SilentFlip, Silent, Does, Run}
use Rattle.lisp_meaning.specs.machine.Opening.{opening, IsWhole}
use Rattle.lisp_meaning.specs.machine.Sound.{Reach, IsAllowed, IsClosed, IsOwing, IsSound}
use Rattle.lisp_meaning.proofs.closure.Effects.{effect_sizes}
use Rattle.std.proofs.lemmas.Bool.{leb-true}
use Rattle.lisp_graph.specs.store_word.declared.space.Space.{Space}
use Rattle.lisp_meaning.proofs.closure.Programs.{over_closed, counted_closed, answer_closed, opening_closed}
use Rattle.lisp_meaning.proofs.closure.Collections.{flipped_closed, settles_closed, settled, settled_settles}

-- Sound states

-- a state after which only a finished collection can owe nothing
over_owing : (over : Bool) (p : Phase) → (is_paid p ≡ true → over ≡ true) → IsOwing (with_over_phase over p)
over_owing over Idle h = tt
over_owing over (Running c) h = λ f. go (cases_lt c.paid c.owed) f
  where
    go : (c.paid < c.owed) ⊎ (c.owed ≤ c.paid) → over ≡ false → c.paid < c.owed
    go (inl l) f = l
    go (inr l) f = let x = h (le-leb c.owed c.paid l) in cc

-- with its sizes, and as closed as another
ends_sound : (s : State) (c : Command) (r : Reply) (after : State) (a : Answer) (new : State) → 0 < after.space.registers → IsClosed after → Ends s c r after a new → IsSound new
ends_sound s c r after a new l h e = subst IsSound (sym e.3) (record { registers = l; references = over_closed e.0 after h; owing = over_owing e.0 after.phase (λ x. e.1.at_last x) })

flipped_sound : (s : State) (what : Condemn) (pages : ℕ) → IsSound s → IsSound (flipped s what pages)
flipped_sound s what pages h = record { registers = h.registers; references = flipped_closed s what h.references pages; owing = λ f. (let l = h.registers in omega arith) }

settles_sound : (s : State) (aim : Condemned) (new : State) → IsSound s → Settles s aim new → IsSound new
settles_sound s aim new h t = record {
  registers = (let l = h.registers in let e = ap (λ (w : Space). w.registers) t.space in omega arith);
  references = settles_closed s aim new h.references t;
  owing = subst IsOwing (sym t.phase) tt;
}

-- one of two, by a test
pub either : (b : Bool) {P Q : Type 0} → MatchBool b P Q → P ⊎ Q
either true m = inl m
either false m = inr m

-- Steps

flips_sound : (s : State) (p : Phase) (what : Condemn) (a : Answer) (new : State) → IsSound s → Flips s p what a new → IsSound new
flips_sound s Idle what a new h e = subst IsSound (sym e.3) (flipped_sound s what e.0 h)
flips_sound s (Running c) what a new h e = subst IsSound (sym e.1) h

scavenges_sound : (s : State) (p : Phase) (count : ℕ) (a : Answer) (new : State) → IsSound s → Scavenges s p count a new → IsSound new
scavenges_sound s Idle count a new h e = subst IsSound (sym e.1) h
scavenges_sound s (Running c) count a new h e =
    subst IsSound (sym e.3) (record {
      registers = h.registers;
      references = over_closed e.0 (counted 0 count s) (counted_closed 0 count s h.references);
      owing = over_owing e.0 (counted 0 count s).phase (λ x. e.1.at_last x);
    })

reclaims_sound : (s : State) (p : Phase) (a : Answer) (new : State) → IsSound s → Reclaims s p a new → IsSound new
reclaims_sound s Idle a new h e = subst IsSound (sym e.1) h
reclaims_sound s (Running c) a new h e = go (either c.over e)
  where
    go : ((a ≡ Replied R.Reclaimed) × Settles s c.aim new) ⊎ ((a ≡ Replied R.NotDone) × (new ≡ s)) → IsSound new
    go (inl x) = settles_sound s c.aim new h x.1
    go (inr x) = subst IsSound (sym x.1) h

-- a command that serves is a flip, a scan or a reclaim, or changes nothing
pub serves_by : (P : Type 0) (s : State) (c : Command) (a : Answer) (new : State) → ((what : Condemn) → Flips s s.phase what a new → P) → ((count : ℕ) → Scavenges s s.phase count a new → P)
    → (Reclaims s s.phase a new → P) → (new ≡ s → P) → Serves s c a new → P
serves_by P s (C.Flip what) a new flips scavenges reclaims stays e = flips what e
serves_by P s (C.Scavenge count) a new flips scavenges reclaims stays e = scavenges count e
serves_by P s C.Reclaim a new flips scavenges reclaims stays e = reclaims e
serves_by P s (C.PageOut count) a new flips scavenges reclaims stays e = stays e.1
serves_by P s C.Stats a new flips scavenges reclaims stays e = stays e.1
serves_by P s C.Dump a new flips scavenges reclaims stays e = stays e.1
serves_by P s (C.Set to value) a new flips scavenges reclaims stays e = absurd e
serves_by P s (C.Move to from) a new flips scavenges reclaims stays e = absurd e
serves_by P s (C.Cons to area car cdr) a new flips scavenges reclaims stays e = absurd e
serves_by P s (C.List to area items) a new flips scavenges reclaims stays e = absurd e
serves_by P s (C.Make to area code count) a new flips scavenges reclaims stays e = absurd e
serves_by P s (C.Grow target count) a new flips scavenges reclaims stays e = absurd e
serves_by P s (C.Car to from) a new flips scavenges reclaims stays e = absurd e
serves_by P s (C.Cdr to from) a new flips scavenges reclaims stays e = absurd e
serves_by P s (C.Rplaca target from) a new flips scavenges reclaims stays e = absurd e
serves_by P s (C.Rplacd target from) a new flips scavenges reclaims stays e = absurd e
serves_by P s (C.Get to from index) a new flips scavenges reclaims stays e = absurd e
serves_by P s (C.Put target index from) a new flips scavenges reclaims stays e = absurd e
serves_by P s (C.Size of) a new flips scavenges reclaims stays e = absurd e
serves_by P s (C.Eq left right) a new flips scavenges reclaims stays e = absurd e

serves_sound : (s : State) (c : Command) (a : Answer) (new : State) → IsSound s → Serves s c a new → IsSound new
serves_sound s c a new h = serves_by (IsSound new) s c a new (λ what e. flips_sound s s.phase what a new h e) (λ count e. scavenges_sound s s.phase count a new h e)
    (λ e. reclaims_sound s s.phase a new h e) (λ e. subst IsSound (sym e) h)

answer_registers : (s : State) (c : Command) (e : Effect) → 0 < s.space.registers → 0 < (answer_of s c e).1.space.registers
answer_registers s c e l = go e.wanted
  where
    go : (w : Option Wanted) → 0 < (answer_wanting s c e w).1.space.registers
    go None = l
    go (Some w) = cond_both (exceeds s w) (exhausted s w, s) _ (λ (x : Reply × State). 0 < x.1.space.registers) (λ t. l) (λ t. l)

pub step_sound : (s : State) (c : Command) (a : Answer) (new : State) → IsAllowed c → IsSound s → Step s c a new → IsSound new
step_sound s c a new allowed h (inl e) = go (effect (graph_of s) c) refl e
  where
    go : (o : Option Effect) → effect (graph_of s) c ≡ o → StepsBy s c o a new → IsSound new
    go None is e = serves_sound s c a new h e
    go (Some x) is e = ends_sound s c (answer_of s c x).0 (answer_of s c x).1 a new (answer_registers s c x h.registers) (answer_closed s h.references c allowed x is) e
step_sound s c a new allowed h (inr e) = ends_sound s c R.Fault s a new h.registers h.references e.1

silent_reclaim_sound : (s : State) (p : Phase) (new : State) → IsSound s → SilentReclaim s p new → IsSound new
silent_reclaim_sound s Idle new h e = subst IsSound (sym e) h
silent_reclaim_sound s (Running c) new h e = go (either c.over e)
  where
    go : Settles s c.aim new ⊎ (new ≡ s) → IsSound new
    go (inl x) = settles_sound s c.aim new h x
    go (inr x) = subst IsSound (sym x) h

silent_flip_sound : (s : State) (new : State) → IsSound s → SilentFlip s new → IsSound new
silent_flip_sound s new h e = go (either _ e)
  where
    go : ((pages : ℕ) × (pages ≤ 16 * s.space.regions) × (new ≡ flipped s (Chosen (full_levels s)) pages)) ⊎ (new ≡ s) → IsSound new
    go (inl x) = subst IsSound (sym x.2) (flipped_sound s (Chosen (full_levels s)) x.0 h)
    go (inr x) = subst IsSound (sym x) h

pub silent_sound : (s : State) (c : Command) (new : State) → IsSound s → Silent s c new → IsSound new
silent_sound s c new h e = go (either _ e)
  where
    go : ((mid : State) × SilentReclaim s s.phase mid × SilentFlip mid new) ⊎ (new ≡ s) → IsSound new
    go (inl x) = silent_flip_sound x.0 new (silent_reclaim_sound s s.phase x.0 h x.1) x.2
    go (inr x) = subst IsSound (sym x) h

pub does_sound : (s : State) (c : Command) (a : Answer) (new : State) → IsAllowed c → IsSound s → Does s c a new → IsSound new
does_sound s c a new allowed h d = step_sound d.0 c a new allowed (silent_sound s c d.0 h d.1) d.2

-- Each command has an answer.

-- `over` may always be unchanged, or as the count demands
some_end : (s : State) (may : Bool) (after : State) → (is_over s.phase ≡ false → is_paid after.phase ≡ true → may ≡ true) → (over : Bool) × IsOverAfter s may after over
some_end s may after w = (
  is_over s.phase || is_paid after.phase,
  record {
    stays = λ e. or_left (is_over s.phase) (is_paid after.phase) e;
    only_by = λ n e. go n (or_cases (is_over s.phase) (is_paid after.phase) e);
    at_last = λ e. or_right (is_over s.phase) (is_paid after.phase) e;
  },
)
  where
    go : is_over s.phase ≡ false → (is_over s.phase ≡ true) ⊎ (is_paid after.phase ≡ true) → may ≡ true
    go n (inl x) = cc
    go n (inr x) = w n x

-- more owed is not more paid
not_paid : (p : Phase) (owed : ℕ) → IsOwing p → is_over p ≡ false → is_paid (counted_phase owed 0 p) ≡ true → ⊥
not_paid Idle owed h n e = cc
not_paid (Running c) owed h n e = let l = h n in let m = leb-true (c.owed + owed) (c.paid + 0) e in omega arith

still_not_paid : (p : Phase) → IsOwing p → is_over p ≡ false → is_paid p ≡ true → ⊥
still_not_paid Idle h n e = cc
still_not_paid (Running c) h n e = let l = h n in let m = leb-true c.owed c.paid e in omega arith

some_answer : (s : State) (c : Command) (e : Effect) → IsSound s → effect (graph_of s) c ≡ Some e → (a : Answer) × (new : State) × Answers s c e a new
some_answer s c e h is = (Replied (answer_of s c e).0, with_over over.0 (answer_of s c e).1, (over.0, over.1, refl, refl))
  where
    ends : (w : Option Wanted) → e.wanted ≡ w → is_over s.phase ≡ false → is_paid (answer_wanting s c e w).1.phase ≡ true → scans s c (answer_wanting s c e w).0 ≡ true
    ends None w n p = absurd (not_paid s.phase (owed_by c e.reply) h.owing n p)
    ends (Some x) w n p = go (cases_Bool (exceeds s x)) p
      where
        by : Bool → Reply × State
        by b = if b then (exhausted s x, s) else (e.reply, counted x.charge (s.space.rate * x.charge) (allocated s c x.area e.graph))

        go : (exceeds s x ≡ true) ⊎ (exceeds s x ≡ false) → is_paid (by (exceeds s x)).1.phase ≡ true → scans s c (by (exceeds s x)).0 ≡ true
        go (inl t) p = absurd (still_not_paid s.phase h.owing n (sym (ap (λ (b : Bool). is_paid (by b).1.phase) t) ∙ p))
        go (inr t) p =
            let fine = (effect_sizes (graph_of s) c e is).fine (ap is_some w) in
            let reply : (by (exceeds s x)).0 ≡ R.Fine = ap (λ (b : Bool). (by b).0) t ∙ fine in
            let wants : is_some (wanted_by (effect (graph_of s) c)) ≡ true = ap (λ (o : Option Effect). is_some (wanted_by o)) is ∙ ap is_some w in
            or_right (is_scavenge c) _ (and_from _ (not (is_exhausted (by (exceeds s x)).0)) wants (ap (λ (r : Reply). not (is_exhausted r)) reply))

    over : (over : Bool) × IsOverAfter s (scans s c (answer_of s c e).0) (answer_of s c e).1 over
    over = some_end s (scans s c (answer_of s c e).0) (answer_of s c e).1 (ends e.wanted refl)

some_flip : (s : State) (p : Phase) (what : Condemn) → (a : Answer) × (new : State) × Flips s p what a new
some_flip s Idle what = (Replied (R.Flipped 0), flipped s what 0, (0, omega arith, refl, refl))
some_flip s (Running c) what = (Replied R.Busy, s, (refl, refl))

some_scavenge : (s : State) (p : Phase) (count : ℕ) → (a : Answer) × (new : State) × Scavenges s p count a new
some_scavenge s Idle count = (Replied R.NotFlipped, s, (refl, refl))
some_scavenge s (Running c) count =
    let over = some_end s true (counted 0 count s) (λ n p. refl) in
    (Replied (if over.0 then R.Done else R.More), with_over over.0 (counted 0 count s), (over.0, over.1, refl, refl))

some_reclaim : (s : State) (p : Phase) → Reach s p → (a : Answer) × (new : State) × Reclaims s p a new
some_reclaim s Idle r = (Replied R.NotFlipped, s, (refl, refl))
some_reclaim s (Running c) r = go c.over
  where
    go : (over : Bool) → (a : Answer) × (new : State) × MatchBool over ((a ≡ Replied R.Reclaimed) × Settles s c.aim new) ((a ≡ Replied R.NotDone) × (new ≡ s))
    go true = (Replied R.Reclaimed, settled s c.aim, (refl, settled_settles s c.aim r))
    go false = (Replied R.NotDone, s, (refl, refl))

some_service : (s : State) (c : Command) → IsSound s → effect (graph_of s) c ≡ None → (a : Answer) × (new : State) × Serves s c a new
some_service s (C.Flip what) h is = some_flip s s.phase what
some_service s (C.Scavenge count) h is = some_scavenge s s.phase count
some_service s C.Reclaim h is = some_reclaim s s.phase h.references.reach
some_service s (C.PageOut count) h is = (Replied R.Fine, s, (refl, refl))
some_service s C.Stats h is = (Accounts (area_lines s 0 s.areas), s, (refl, refl))
some_service s C.Dump h is = (Contents (world_of s), s, (refl, refl))
some_service s (C.Set to value) h is = absurd cc
some_service s (C.Move to from) h is = absurd cc
some_service s (C.Cons to area car cdr) h is = absurd cc
some_service s (C.List to area items) h is = absurd cc
some_service s (C.Make to area code count) h is = absurd cc
some_service s (C.Grow target count) h is = absurd cc
some_service s (C.Car to from) h is = absurd cc
some_service s (C.Cdr to from) h is = absurd cc
some_service s (C.Rplaca target from) h is = absurd cc
some_service s (C.Rplacd target from) h is = absurd cc
some_service s (C.Get to from index) h is = absurd cc
some_service s (C.Put target index from) h is = absurd cc
some_service s (C.Size of) h is = absurd cc
some_service s (C.Eq left right) h is = absurd cc

pub some_step : (s : State) (c : Command) → IsSound s → (a : Answer) × (new : State) × Step s c a new
some_step s c h = go (effect (graph_of s) c) refl
  where
    by : (o : Option Effect) → effect (graph_of s) c ≡ o → (a : Answer) × (new : State) × StepsBy s c o a new
    by None is = some_service s c h is
    by (Some e) is = some_answer s c e h is

    go : (o : Option Effect) → effect (graph_of s) c ≡ o → (a : Answer) × (new : State) × Step s c a new
    go o is = let x = by (effect (graph_of s) c) refl in (x.0, x.1, inl x.2)

some_silent_reclaim : (s : State) (p : Phase) → Reach s p → (new : State) × SilentReclaim s p new
some_silent_reclaim s Idle r = (s, refl)
some_silent_reclaim s (Running c) r = go c.over
  where
    go : (over : Bool) → (new : State) × MatchBool over (Settles s c.aim new) (new ≡ s)
    go true = (settled s c.aim, settled_settles s c.aim r)
    go false = (s, refl)

some_silent_flip : (s : State) → (new : State) × SilentFlip s new
some_silent_flip s = go (is_idle s.phase && some_below (λ i. is_full s (suc i)) s.space.levels)
  where
    go : (b : Bool) → (new : State) × MatchBool b ((pages : ℕ) × (pages ≤ 16 * s.space.regions) × (new ≡ flipped s (Chosen (full_levels s)) pages)) (new ≡ s)
    go true = (flipped s (Chosen (full_levels s)) 0, (0, omega arith, refl))
    go false = (s, refl)

some_silent : (s : State) (c : Command) → IsSound s → (new : State) × Silent s c new
some_silent s c h = go (allocates c && collects_itself s)
  where
    go : (b : Bool) → (new : State) × MatchBool b ((mid : State) × SilentReclaim s s.phase mid × SilentFlip mid new) (new ≡ s)
    go true = let first = some_silent_reclaim s s.phase h.references.reach in let second = some_silent_flip first.0 in (second.0, (first.0, first.1, second.1))
    go false = (s, refl)

-- a command has an answer in each sound state
pub some_answers : (s : State) (c : Command) → IsSound s → (a : Answer) × (new : State) × Does s c a new
some_answers s c h =
    let mid = some_silent s c h in
    let x = some_step mid.0 c (silent_sound s c mid.0 h mid.1) in
    (x.0, x.1, (mid.0, mid.1, x.2))

-- and so has a list of commands
pub some_run : (s : State) (commands : List Command) → ((i : ℕ) → i < length commands → IfSome (slice_get commands i) IsAllowed) → IsSound s → (answers : List Answer) × (new : State) × Run s commands answers new
some_run s [] allowed h = ([], s, refl)
some_run s (c ∷ cs) allowed h =
    let x = some_answers s c h in
    let rest = some_run x.1 cs (λ i l. allowed (suc i) (omega arith)) (does_sound s c x.0 x.1 (allowed zero (omega arith)) h x.2) in
    (x.0 ∷ rest.0, rest.1, (x.1, x.2, rest.2))

pub opening_sound : (w : World) → IsWhole w → IsSound (opening w)
opening_sound w h = record { registers = h.registers; references = opening_closed w h; owing = tt }
