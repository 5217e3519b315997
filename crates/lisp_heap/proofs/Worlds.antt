-- No transition changes the world.
use Rattle.std.proofs.Common.{◌≡◌, ℕ, ◌*◌, ◌≤◌, refl, ◌∙◌, ap, inl, inr, ◌⊎◌, Option, Some, None}
use Rattle.std.proofs.lemmas.Bool.{cond_both}
use Rattle.lisp_graph.specs.declared.command.Command.{Command}
use Rattle.lisp_graph.specs.declared.command.Command.TheVariants as C
use Rattle.lisp_graph.specs.declared.command.Condemn.{Condemn}
use Rattle.lisp_graph.specs.declared.command.Condemn.TheVariants.{Chosen}
use Rattle.lisp_graph.specs.declared.reply.Reply.{Reply}
use Rattle.lisp_graph.specs.declared.reply.Reply.TheVariants as R
use Rattle.lisp_graph.specs.Effect.{Effect, Wanted, effect}
use Rattle.word_graph.specs.lisp_meaning.State.{Phase, Idle, Running, State, Condemned}
use Rattle.word_graph.specs.lisp_meaning.Flip.{Settles, flipped, graph_of}
use Rattle.word_graph.specs.lisp_meaning.Step.{Answer, Replied, Ends, Flips, Reclaims, Scavenges, Serves, Step, StepsBy, answer_of, answer_wanting, exceeds, exhausted}
use Rattle.word_graph.specs.lisp_meaning.Run.{Does, Silent, SilentFlip, SilentReclaim, full_levels}
use Rattle.word_graph.proofs.lisp_meaning.closure.Transitions.{either}

-- the sizes and the areas are the same
pub record SameSizes (s new : State) : Type 0 where
  pub space : new.space ≡ s.space
  pub areas : new.areas ≡ s.areas

same : (s new : State) → new ≡ s → SameSizes s new
same s new e = record { space = ap (λ (x : State). x.space) e; areas = ap (λ (x : State). x.areas) e }

after : (s mid new : State) → SameSizes s mid → SameSizes mid new → SameSizes s new
after s mid new x y = record { space = y.space ∙ x.space; areas = y.areas ∙ x.areas }

settled : (s new : State) (aim : Condemned) → Settles s aim new → SameSizes s new
settled s new aim x = record { space = x.space; areas = x.areas }

flipped_so : (s new : State) (what : Condemn) (pages : ℕ) → new ≡ flipped s what pages → SameSizes s new
flipped_so s new what pages e = record { space = ap (λ (x : State). x.space) e; areas = ap (λ (x : State). x.areas) e }

-- Transitions

ends : (s : State) (c : Command) (r : Reply) (mid : State) (a : Answer) (new : State) → SameSizes s mid → Ends s c r mid a new → SameSizes s new
ends s c r mid a new x e = record { space = ap (λ (x : State). x.space) e.3 ∙ x.space; areas = ap (λ (x : State). x.areas) e.3 ∙ x.areas }

answers : (s : State) (c : Command) (e : Effect) (w : Option Wanted) → SameSizes s (answer_wanting s c e w).1
answers s c e None = record { space = refl; areas = refl }
answers s c e (Some w) = cond_both (exceeds s w) (exhausted s w, s) _ (λ (x : Reply × State). SameSizes s x.1) (λ t. record { space = refl; areas = refl }) (λ t. record { space = refl; areas = refl })

flips : (s : State) (p : Phase) (what : Condemn) (a : Answer) (new : State) → Flips s p what a new → SameSizes s new
flips s Idle what a new e = flipped_so s new what e.0 e.3
flips s (Running c) what a new e = same s new e.1

scavenges : (s : State) (p : Phase) (count : ℕ) (a : Answer) (new : State) → Scavenges s p count a new → SameSizes s new
scavenges s Idle count a new e = same s new e.1
scavenges s (Running c) count a new e = record { space = ap (λ (x : State). x.space) e.3; areas = ap (λ (x : State). x.areas) e.3 }

reclaims : (s : State) (p : Phase) (a : Answer) (new : State) → Reclaims s p a new → SameSizes s new
reclaims s Idle a new e = same s new e.1
reclaims s (Running c) a new e = go (either c.over e)
  where
    go : ((a ≡ Replied R.Reclaimed) × Settles s c.aim new) ⊎ ((a ≡ Replied R.NotDone) × (new ≡ s)) → SameSizes s new
    go (inl x) = settled s new c.aim x.1
    go (inr x) = same s new x.1

serves : (s : State) (c : Command) (a : Answer) (new : State) → Serves s c a new → SameSizes s new
serves s (C.Flip what) a new e = flips s s.phase what a new e
serves s (C.Scavenge count) a new e = scavenges s s.phase count a new e
serves s C.Reclaim a new e = reclaims s s.phase a new e
serves s (C.PageOut count) a new e = same s new e.1
serves s C.Stats a new e = same s new e.1
serves s C.Dump a new e = same s new e.1
serves s (C.Set to value) a new e = absurd e
serves s (C.Move to from) a new e = absurd e
serves s (C.Cons to area car cdr) a new e = absurd e
serves s (C.List to area items) a new e = absurd e
serves s (C.Make to area code count) a new e = absurd e
serves s (C.Grow target count) a new e = absurd e
serves s (C.Car to from) a new e = absurd e
serves s (C.Cdr to from) a new e = absurd e
serves s (C.Rplaca target from) a new e = absurd e
serves s (C.Rplacd target from) a new e = absurd e
serves s (C.Get to from index) a new e = absurd e
serves s (C.Put target index from) a new e = absurd e
serves s (C.Size of) a new e = absurd e
serves s (C.Eq left right) a new e = absurd e

steps : (s : State) (c : Command) (a : Answer) (new : State) → Step s c a new → SameSizes s new
steps s c a new (inl e) = go (effect (graph_of s) c) e
  where
    go : (o : Option Effect) → StepsBy s c o a new → SameSizes s new
    go None e = serves s c a new e
    go (Some x) e = ends s c (answer_of s c x).0 (answer_of s c x).1 a new (answers s c x x.wanted) e
steps s c a new (inr e) = ends s c R.Fault s a new (record { space = refl; areas = refl }) e.1

silent_reclaim : (s : State) (p : Phase) (new : State) → SilentReclaim s p new → SameSizes s new
silent_reclaim s Idle new e = same s new e
silent_reclaim s (Running c) new e = go (either c.over e)
  where
    go : Settles s c.aim new ⊎ (new ≡ s) → SameSizes s new
    go (inl x) = settled s new c.aim x
    go (inr x) = same s new x

silent_flip : (s : State) (new : State) → SilentFlip s new → SameSizes s new
silent_flip s new e = go (either _ e)
  where
    go : ((pages : ℕ) × (pages ≤ 16 * s.space.regions) × (new ≡ flipped s (Chosen (full_levels s)) pages)) ⊎ (new ≡ s) → SameSizes s new
    go (inl x) = flipped_so s new (Chosen (full_levels s)) x.0 x.2
    go (inr x) = same s new x

silent : (s : State) (c : Command) (new : State) → Silent s c new → SameSizes s new
silent s c new e = go (either _ e)
  where
    go : ((mid : State) × SilentReclaim s s.phase mid × SilentFlip mid new) ⊎ (new ≡ s) → SameSizes s new
    go (inl x) = after s x.0 new (silent_reclaim s s.phase x.0 x.1) (silent_flip x.0 new x.2)
    go (inr x) = same s new x

pub does_same : (s : State) (c : Command) (a : Answer) (new : State) → Does s c a new → SameSizes s new
does_same s c a new d = after s d.0 new (silent s c d.0 d.1) (steps d.0 c a new d.2)
