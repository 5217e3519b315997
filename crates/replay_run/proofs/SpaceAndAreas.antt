-- A run keeps the space and the areas of its world.
use Rattle.std.proofs.Common.{◌≡◌, ◌⊎◌, inl, inr, ℕ, ◌*◌, ◌≤◌, List, [], ◌∷◌, sym, subst, ◌∙◌, Option, Some, None, refl}
use Rattle.std.proofs.lemmas.Bool.{cond_both}
use Rattle.lisp_graph.specs.declared.command.Command.{Command}
use Rattle.lisp_graph.specs.declared.command.Command.TheVariants as C
use Rattle.lisp_graph.specs.declared.command.Condemn.{Condemn}
use Rattle.lisp_graph.specs.declared.command.Condemn.TheVariants.{Chosen}
use Rattle.lisp_graph.specs.declared.reply.Reply.{Reply}
use Rattle.lisp_graph.specs.declared.reply.Reply.TheVariants as R
use Rattle.lisp_graph.specs.declared.world.World.{World}
use Rattle.lisp_graph.specs.Effect.{Effect, Wanted, effect}
use Rattle.paged_machine.specs.lisp_meaning.State.{Condemned, Phase, Idle, Running, State}
use Rattle.paged_machine.specs.lisp_meaning.Flip.{graph_of, flipped, Settles}
use Rattle.paged_machine.specs.lisp_meaning.Step.{Answer, Replied, exceeds, exhausted, answer_wanting, answer_of, Ends, Flips, Scavenges, Reclaims, Serves, StepsBy, Step}
use Rattle.paged_machine.specs.lisp_meaning.Run.{full_levels, SilentReclaim, SilentFlip, Silent, Run}
use Rattle.paged_machine.specs.lisp_meaning.Opening.{opening}
use Rattle.paged_machine.proofs.lisp_meaning.closure.Transitions.{either}
use Rattle.paged_machine.specs.Asks.{IsOf}

module _ (world : World) where
  same_of : (s new : State) → IsOf world s → new ≡ s → IsOf world new
  same_of s new h is = subst (IsOf world) (sym is) h

  ends_of : (s : State) (c : Command) (r : Reply) (after : State) (a : Answer) (new : State) → IsOf world after → Ends s c r after a new → IsOf world new
  ends_of s c r after a new h e = subst (IsOf world) (sym e.3) (record { space = h.space; areas = h.areas })

  answered_of : (s : State) (c : Command) (e : Effect) → IsOf world s → IsOf world (answer_of s c e).1
  answered_of s c e h = go e.wanted
    where
      go : (w : Option Wanted) → IsOf world (answer_wanting s c e w).1
      go None = record { space = h.space; areas = h.areas }
      go (Some w) = cond_both (exceeds s w) (exhausted s w, s) _ (λ (x : Reply × State). IsOf world x.1) (λ t. h) (λ t. record { space = h.space; areas = h.areas })

  settles_of : (s : State) (aim : Condemned) (new : State) → IsOf world s → Settles s aim new → IsOf world new
  settles_of s aim new h t = record { space = t.space ∙ h.space; areas = t.areas ∙ h.areas }

  flipped_of : (s : State) (what : Condemn) (pages : ℕ) → IsOf world s → IsOf world (flipped s what pages)
  flipped_of s what pages h = record { space = h.space; areas = h.areas }

  flips_of : (s : State) (p : Phase) (what : Condemn) (a : Answer) (new : State) → IsOf world s → Flips s p what a new → IsOf world new
  flips_of s Idle what a new h e = same_of (flipped s what e.0) new (flipped_of s what e.0 h) e.3
  flips_of s (Running c) what a new h e = same_of s new h e.1

  scavenges_of : (s : State) (p : Phase) (count : ℕ) (a : Answer) (new : State) → IsOf world s → Scavenges s p count a new → IsOf world new
  scavenges_of s Idle count a new h e = same_of s new h e.1
  scavenges_of s (Running c) count a new h e = subst (IsOf world) (sym e.3) (record { space = h.space; areas = h.areas })

  reclaims_of : (s : State) (p : Phase) (a : Answer) (new : State) → IsOf world s → Reclaims s p a new → IsOf world new
  reclaims_of s Idle a new h e = same_of s new h e.1
  reclaims_of s (Running c) a new h e = go (either c.over e)
    where
      go : ((a ≡ Replied R.Reclaimed) × Settles s c.aim new) ⊎ ((a ≡ Replied R.NotDone) × (new ≡ s)) → IsOf world new
      go (inl x) = settles_of s c.aim new h x.1
      go (inr x) = same_of s new h x.1

  serves_of : (s : State) (c : Command) (a : Answer) (new : State) → IsOf world s → Serves s c a new → IsOf world new
  serves_of s (C.Flip what) a new h e = flips_of s s.phase what a new h e
  serves_of s (C.Scavenge count) a new h e = scavenges_of s s.phase count a new h e
  serves_of s C.Reclaim a new h e = reclaims_of s s.phase a new h e
  serves_of s (C.PageOut count) a new h e = same_of s new h e.1
  serves_of s C.Stats a new h e = same_of s new h e.1
  serves_of s C.Dump a new h e = same_of s new h e.1
  serves_of s (C.Set to value) a new h e = absurd e
  serves_of s (C.Move to from) a new h e = absurd e
  serves_of s (C.Cons to area car cdr) a new h e = absurd e
  serves_of s (C.List to area items) a new h e = absurd e
  serves_of s (C.Make to area code count) a new h e = absurd e
  serves_of s (C.Grow target count) a new h e = absurd e
  serves_of s (C.Car to from) a new h e = absurd e
  serves_of s (C.Cdr to from) a new h e = absurd e
  serves_of s (C.Rplaca target from) a new h e = absurd e
  serves_of s (C.Rplacd target from) a new h e = absurd e
  serves_of s (C.Get to from index) a new h e = absurd e
  serves_of s (C.Put target index from) a new h e = absurd e
  serves_of s (C.Size of) a new h e = absurd e
  serves_of s (C.Eq left right) a new h e = absurd e

  step_of : (s : State) (c : Command) (a : Answer) (new : State) → IsOf world s → Step s c a new → IsOf world new
  step_of s c a new h (inl e) = go (effect (graph_of s) c) e
    where
      go : (o : Option Effect) → StepsBy s c o a new → IsOf world new
      go None e = serves_of s c a new h e
      go (Some x) e = ends_of s c (answer_of s c x).0 (answer_of s c x).1 a new (answered_of s c x h) e
  step_of s c a new h (inr e) = ends_of s c R.Fault s a new h e.1

  silent_reclaim_of : (s : State) (p : Phase) (new : State) → IsOf world s → SilentReclaim s p new → IsOf world new
  silent_reclaim_of s Idle new h e = same_of s new h e
  silent_reclaim_of s (Running c) new h e = go (either c.over e)
    where
      go : Settles s c.aim new ⊎ (new ≡ s) → IsOf world new
      go (inl x) = settles_of s c.aim new h x
      go (inr x) = same_of s new h x

  silent_flip_of : (s : State) (new : State) → IsOf world s → SilentFlip s new → IsOf world new
  silent_flip_of s new h e = go (either _ e)
    where
      go : ((pages : ℕ) × (pages ≤ 16 * s.space.regions) × (new ≡ flipped s (Chosen (full_levels s)) pages)) ⊎ (new ≡ s) → IsOf world new
      go (inl x) = same_of (flipped s (Chosen (full_levels s)) x.0) new (flipped_of s (Chosen (full_levels s)) x.0 h) x.2
      go (inr x) = same_of s new h x

  silent_of : (s : State) (c : Command) (new : State) → IsOf world s → Silent s c new → IsOf world new
  silent_of s c new h e = go (either _ e)
    where
      go : ((mid : State) × SilentReclaim s s.phase mid × SilentFlip mid new) ⊎ (new ≡ s) → IsOf world new
      go (inl x) = silent_flip_of x.0 new (silent_reclaim_of s s.phase x.0 h x.1) x.2
      go (inr x) = same_of s new h x

  run_of : (old new : State) (commands : List Command) (answers : List Answer) → IsOf world old → Run old commands answers new → IsOf world new
  run_of old new [] [] h run = same_of old new h run
  run_of old new [] (r ∷ rs) h run = absurd run
  run_of old new (c ∷ cs) [] h run = absurd run
  run_of old new (c ∷ cs) (r ∷ rs) h run = let d = run.1 in run_of run.0 new cs rs (step_of d.0 c r run.0 (silent_of old c d.0 h d.1) d.2) run.2

  pub opened_of : (new : State) (commands : List Command) (answers : List Answer) → Run (opening world) commands answers new → IsOf world new
  opened_of new commands answers run = run_of (opening world) new commands answers (record { space = refl; areas = refl }) run
