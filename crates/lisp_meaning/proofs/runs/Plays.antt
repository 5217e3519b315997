-- Runs by computation: the machine's choices are given, and the answers are computed. Each such play is a run.
use Rattle.std.proofs.Common.{◌≡◌, ℕ, suc, ◌*◌, ◌≤◌, inl, inr, Bool, true, false, not, ◌&&◌, ◌||◌, if◌then◌else◌, refl, ap, arith, List, [], ◌∷◌, length, Option, Some, None, nat_le, nat_lt, nat_eq}
use Rattle.std.specs.Prelude.{MatchBool}
use Rattle.std.specs.List.{list_any}
use Rattle.std.proofs.lemmas.Bool.{and_parts, leb-true, ltb-true}
use Rattle.lisp_graph.specs.declared.object.Value.{Value}
use Rattle.lisp_graph.specs.declared.object.Value.TheVariants as V
use Rattle.lisp_graph.specs.declared.command.Command.{Command}
use Rattle.lisp_graph.specs.declared.command.Command.TheVariants as C
use Rattle.lisp_graph.specs.declared.command.Condemn.{Condemn}
use Rattle.lisp_graph.specs.declared.command.Condemn.TheVariants.{Chosen}
use Rattle.lisp_graph.specs.declared.reply.Reply.TheVariants as R
use Rattle.lisp_graph.specs.store_word.declared.space.Space.{Space}
use Rattle.lisp_graph.specs.Effect.{Effect, effect}
use Rattle.lisp_meaning.specs.machine.Maps.{some_below}
use Rattle.lisp_meaning.specs.machine.State.{Condemned, Phase, Idle, Running, is_over, is_idle, State}
use Rattle.lisp_meaning.specs.machine.Flip.{graph_of, flipped, Settles}
use Rattle.lisp_meaning.specs.machine.Step.{Answer, Replied, Accounts, Contents, area_lines, world_of, counted, answer_of, with_over, is_paid, scans, may_fault, IsOverAfter, Flips, Scavenges, Reclaims, Serves, StepsBy, Step}
use Rattle.lisp_meaning.specs.machine.Run.{collects_itself, is_full, full_levels, allocates, SilentReclaim, SilentFlip, Silent, Does, Run}
use Rattle.lisp_meaning.specs.machine.Sound.{Reach, IsAllowed, IsSound}
use Rattle.lisp_meaning.proofs.closure.Collections.{settled, settled_settles}
use Rattle.lisp_meaning.proofs.closure.Transitions.{silent_sound, does_sound}

-- a command with the machine's choices: base pages, whether the scan is finished after it, and whether it meets a swap error
pub record Turn : Type 0 where
  pub command : Command
  pub pages : ℕ
  pub over : Bool
  pub faults : Bool

abbrev pub commands_of : List Turn → List Command
commands_of [] = []
commands_of (t ∷ ts) = t.command ∷ commands_of ts

-- the commands, by number, that finish a collection, and those that meet a swap error
pub record Choices : Type 0 where
  pub over : List ℕ
  pub faults : List ℕ

abbrev pub turns : Choices → ℕ → List Command → List Turn
turns x i [] = []
turns x i (c ∷ cs) = record { command = c; pages = 0; over = list_any (nat_eq i) x.over; faults = list_any (nat_eq i) x.faults } ∷ turns x (suc i) cs

pub turns_are : (x : Choices) (i : ℕ) (cs : List Command) → commands_of (turns x i cs) ≡ cs
turns_are x i [] = refl
turns_are x i (c ∷ cs) = ap (λ (rest : List Command). c ∷ rest) (turns_are x (suc i) cs)

-- whether over may be so
abbrev pub implies : Bool → Bool → Bool
implies a b = not a || b

abbrev pub may_be_over : State → Bool → State → Bool → Bool
may_be_over s may after over = implies (is_over s.phase) over && (implies (not (is_over s.phase) && over) may && implies (is_paid after.phase) over)

implied : (a b : Bool) → implies a b ≡ true → a ≡ true → b ≡ true
implied true b e x = e
implied false b e x = cc

over_after : (s : State) (may : Bool) (after : State) (over : Bool) → may_be_over s may after over ≡ true → IsOverAfter s may after over
over_after s may after over e =
    let x = and_parts (implies (is_over s.phase) over) _ e in
    let y = and_parts (implies (not (is_over s.phase) && over) may) _ x.1 in
    record {
      stays = implied (is_over s.phase) over x.0;
      only_by = λ n o. implied (not (is_over s.phase) && over) may y.0 (both (is_over s.phase) over n o);
      at_last = implied (is_paid after.phase) over y.1;
    }
  where
    both : (a b : Bool) → a ≡ false → b ≡ true → (not a && b) ≡ true
    both true b n o = cc
    both false b n o = o

-- The step

abbrev pub played_flip : State → Phase → Condemn → ℕ → Answer × State
played_flip s Idle what pages = (Replied (R.Flipped pages), flipped s what pages)
played_flip s (Running c) what pages = (Replied R.Busy, s)

abbrev pub played_scavenge : State → Phase → ℕ → Bool → Answer × State
played_scavenge s Idle count over = (Replied R.NotFlipped, s)
played_scavenge s (Running c) count over = (Replied (if over then R.Done else R.More), with_over over (counted 0 count s))

abbrev pub reclaimed_if : State → Condemned → Bool → Answer × State
reclaimed_if s aim true = (Replied R.Reclaimed, settled s aim)
reclaimed_if s aim false = (Replied R.NotDone, s)

abbrev pub played_reclaim : State → Phase → Answer × State
played_reclaim s Idle = (Replied R.NotFlipped, s)
played_reclaim s (Running c) = reclaimed_if s c.aim c.over

abbrev pub served : State → Turn → Command → Answer × State
served s t (C.Flip what) = played_flip s s.phase what t.pages
served s t (C.Scavenge count) = played_scavenge s s.phase count t.over
served s t C.Reclaim = played_reclaim s s.phase
served s t (C.PageOut count) = (Replied R.Fine, s)
served s t C.Stats = (Accounts (area_lines s 0 s.areas), s)
served s t C.Dump = (Contents (world_of s), s)
served s t c = (Replied R.Fine, s)

abbrev pub played_by : State → Turn → Option Effect → Answer × State
played_by s t None = served s t t.command
played_by s t (Some e) = (Replied (answer_of s t.command e).0, with_over t.over (answer_of s t.command e).1)

abbrev pub may_serve : State → Turn → Command → Bool
may_serve s t (C.Flip what) = nat_le t.pages (16 * s.space.regions)
may_serve s t (C.Scavenge count) = may_be_over s true (counted 0 count s) t.over
may_serve s t c = true

abbrev pub may_play_by : State → Turn → Option Effect → Bool
may_play_by s t None = may_serve s t t.command
may_play_by s t (Some e) = may_be_over s (scans s t.command (answer_of s t.command e).0) (answer_of s t.command e).1 t.over

flip_played : (s : State) (p : Phase) (what : Condemn) (pages : ℕ) → nat_le pages (16 * s.space.regions) ≡ true → Flips s p what (played_flip s p what pages).0 (played_flip s p what pages).1
flip_played s Idle what pages e = (pages, leb-true pages (16 * s.space.regions) e, refl, refl)
flip_played s (Running c) what pages e = (refl, refl)

scavenge_played : (s : State) (p : Phase) (count : ℕ) (over : Bool) → may_be_over s true (counted 0 count s) over ≡ true
    → Scavenges s p count (played_scavenge s p count over).0 (played_scavenge s p count over).1
scavenge_played s Idle count over e = (refl, refl)
scavenge_played s (Running c) count over e = (over, over_after s true (counted 0 count s) over e, refl, refl)

reclaim_played : (s : State) (p : Phase) → Reach s p → Reclaims s p (played_reclaim s p).0 (played_reclaim s p).1
reclaim_played s Idle r = (refl, refl)
reclaim_played s (Running c) r = go c.over
  where
    go : (over : Bool) → MatchBool over (((reclaimed_if s c.aim over).0 ≡ Replied R.Reclaimed) × Settles s c.aim (reclaimed_if s c.aim over).1) (((reclaimed_if s c.aim over).0 ≡ Replied R.NotDone) × ((reclaimed_if s c.aim over).1 ≡ s))
    go true = (refl, settled_settles s c.aim r)
    go false = (refl, refl)

serve_played : (s : State) (t : Turn) (c : Command) → IsSound s → may_serve s t c ≡ true → effect (graph_of s) c ≡ None → Serves s c (served s t c).0 (served s t c).1
serve_played s t (C.Flip what) h e is = flip_played s s.phase what t.pages e
serve_played s t (C.Scavenge count) h e is = scavenge_played s s.phase count t.over e
serve_played s t C.Reclaim h e is = reclaim_played s s.phase h.references.reach
serve_played s t (C.PageOut count) h e is = (refl, refl)
serve_played s t C.Stats h e is = (refl, refl)
serve_played s t C.Dump h e is = (refl, refl)
serve_played s t (C.Set to value) h e is = absurd cc
serve_played s t (C.Move to from) h e is = absurd cc
serve_played s t (C.Cons to area car cdr) h e is = absurd cc
serve_played s t (C.List to area items) h e is = absurd cc
serve_played s t (C.Make to area code count) h e is = absurd cc
serve_played s t (C.Grow target count) h e is = absurd cc
serve_played s t (C.Car to from) h e is = absurd cc
serve_played s t (C.Cdr to from) h e is = absurd cc
serve_played s t (C.Rplaca target from) h e is = absurd cc
serve_played s t (C.Rplacd target from) h e is = absurd cc
serve_played s t (C.Get to from index) h e is = absurd cc
serve_played s t (C.Put target index from) h e is = absurd cc
serve_played s t (C.Size of) h e is = absurd cc
serve_played s t (C.Eq left right) h e is = absurd cc

-- a command that meets a swap error
abbrev pub played_if : State → Turn → Bool → Answer × State
played_if s t true = (Replied R.Fault, with_over t.over s)
played_if s t false = played_by s t (effect (graph_of s) t.command)

abbrev pub may_play_if : State → Turn → Bool → Bool
may_play_if s t true = may_fault t.command && may_be_over s (scans s t.command R.Fault) s t.over
may_play_if s t false = may_play_by s t (effect (graph_of s) t.command)

abbrev pub played_step : State → Turn → Answer × State
played_step s t = played_if s t t.faults

abbrev pub may_step : State → Turn → Bool
may_step s t = may_play_if s t t.faults

step_played : (s : State) (t : Turn) → IsSound s → may_step s t ≡ true → Step s t.command (played_step s t).0 (played_step s t).1
step_played s t h e = by t.faults e
  where
    go : (o : Option Effect) → effect (graph_of s) t.command ≡ o → may_play_by s t o ≡ true → StepsBy s t.command o (played_by s t o).0 (played_by s t o).1
    go None is e = serve_played s t t.command h e is
    go (Some x) is e = (t.over, over_after s (scans s t.command (answer_of s t.command x).0) (answer_of s t.command x).1 t.over e, refl, refl)

    by : (faults : Bool) → may_play_if s t faults ≡ true → Step s t.command (played_if s t faults).0 (played_if s t faults).1
    by true e = let x = and_parts (may_fault t.command) (may_be_over s (scans s t.command R.Fault) s t.over) e in inr (x.0, (t.over, over_after s (scans s t.command R.Fault) s t.over x.1, refl, refl))
    by false e = inl (go (effect (graph_of s) t.command) refl e)

-- Silent steps

abbrev pub settled_if : State → Phase → State
settled_if s Idle = s
settled_if s (Running c) = if c.over then settled s c.aim else s

abbrev pub flipped_if : State → ℕ → Bool → State
flipped_if s pages true = flipped s (Chosen (full_levels s)) pages
flipped_if s pages false = s

abbrev pub silent_flip_by : State → ℕ → State
silent_flip_by s pages = flipped_if s pages (is_idle s.phase && some_below (λ i. is_full s (suc i)) s.space.levels)

abbrev pub silent_if : State → ℕ → Bool → State
silent_if s pages true = silent_flip_by (settled_if s s.phase) pages
silent_if s pages false = s

abbrev pub played_silent : State → Turn → State
played_silent s t = silent_if s t.pages (allocates t.command && collects_itself s)

abbrev pub may_be_silent : State → Turn → Bool
may_be_silent s t = nat_le t.pages (16 * s.space.regions)

settle_played : (s : State) (p : Phase) → Reach s p → SilentReclaim s p (settled_if s p)
settle_played s Idle r = refl
settle_played s (Running c) r = go c.over
  where
    go : (over : Bool) → MatchBool over (Settles s c.aim (if over then settled s c.aim else s)) ((if over then settled s c.aim else s) ≡ s)
    go true = settled_settles s c.aim r
    go false = refl

settled_space : (s : State) (p : Phase) → (settled_if s p).space ≡ s.space
settled_space s Idle = refl
settled_space s (Running c) = go c.over
  where
    go : (over : Bool) → (if over then settled s c.aim else s).space ≡ s.space
    go true = refl
    go false = refl

silent_flip_played : (s : State) (pages : ℕ) → pages ≤ 16 * s.space.regions → SilentFlip s (silent_flip_by s pages)
silent_flip_played s pages l = go (is_idle s.phase && some_below (λ i. is_full s (suc i)) s.space.levels)
  where
    go : (b : Bool) → MatchBool b ((n : ℕ) × (n ≤ 16 * s.space.regions) × (flipped_if s pages b ≡ flipped s (Chosen (full_levels s)) n)) (flipped_if s pages b ≡ s)
    go true = (pages, l, refl)
    go false = refl

silent_played : (s : State) (t : Turn) → IsSound s → may_be_silent s t ≡ true → Silent s t.command (played_silent s t)
silent_played s t h e = go (allocates t.command && collects_itself s)
  where
    go : (b : Bool) → MatchBool b ((mid : State) × SilentReclaim s s.phase mid × SilentFlip mid (silent_if s t.pages b)) (silent_if s t.pages b ≡ s)
    go true = (
      settled_if s s.phase,
      settle_played s s.phase h.references.reach,
      silent_flip_played (settled_if s s.phase) t.pages
          (let x = leb-true t.pages (16 * s.space.regions) e in let y = ap (λ (w : Space). w.regions) (settled_space s s.phase) in omega arith),
    )
    go false = refl

-- Commands

-- a command brings no name of its own, by computation
abbrev pub is_value : Value → Bool
is_value (V.Ref n) = false
is_value V.Nil = true
is_value (V.Fix i) = true

abbrev pub is_allowed : Command → Bool
is_allowed (C.Set to value) = is_value value
is_allowed (C.List to area items) = nat_lt 0 (length items)
is_allowed c = true

pub allowed : (c : Command) → is_allowed c ≡ true → IsAllowed c
allowed (C.Set to (V.Ref n)) e = cc
allowed (C.Set to V.Nil) e = λ n. refl
allowed (C.Set to (V.Fix i)) e = λ n. refl
allowed (C.List to area items) e = ltb-true 0 (length items) e
allowed _ e = tt

-- Plays

abbrev pub played : State → Turn → Answer × State
played s t = played_step (played_silent s t) t

abbrev pub may_play : State → Turn → Bool
may_play s t = is_allowed t.command && (may_be_silent s t && may_step (played_silent s t) t)

abbrev pub shown_first : Answer → List Answer × State → List Answer × State
shown_first a rest = (a ∷ rest.0, rest.1)

abbrev pub play_on : Answer × State → (State → List Answer × State) → List Answer × State
play_on now rest = shown_first now.0 (rest now.1)

abbrev pub plays : State → List Turn → List Answer × State
plays s [] = ([], s)
plays s (t ∷ ts) = play_on (played s t) (λ next. plays next ts)

abbrev pub may_all : State → List Turn → Bool
may_all s [] = true
may_all s (t ∷ ts) = may_play s t && may_all (played s t).1 ts

does_played : (s : State) (t : Turn) → IsSound s → (may_be_silent s t && may_step (played_silent s t) t) ≡ true → Does s t.command (played s t).0 (played s t).1
does_played s t h e =
    let x = and_parts (may_be_silent s t) (may_step (played_silent s t) t) e in
    let silent = silent_played s t h x.0 in
    (played_silent s t, silent, step_played (played_silent s t) t (silent_sound s t.command (played_silent s t) h silent) x.1)

-- what a play shows is shown by a run
pub plays_run : (s : State) (ts : List Turn) → IsSound s → may_all s ts ≡ true → Run s (commands_of ts) (plays s ts).0 (plays s ts).1
plays_run s [] h e = refl
plays_run s (t ∷ ts) h e =
    let x = and_parts (may_play s t) (may_all (played s t).1 ts) e in
    let y = and_parts (is_allowed t.command) (may_be_silent s t && may_step (played_silent s t) t) x.0 in
    let d = does_played s t h y.1 in
    ((played s t).1, d, plays_run (played s t).1 ts (does_sound s t.command (played s t).0 (played s t).1 (allowed t.command y.0) h d) x.1)
