-- A run follows the graph.
use Rattle.std.proofs.Common.{◌≡◌, ℕ, ◌*◌, ◌≤◌, ◌⊎◌, inl, inr, Bool, true, false, if◌then◌else◌, refl, sym, ◌∙◌, ap, subst, List, [], ◌∷◌, Option, Some, None}
use Rattle.std.proofs.lemmas.Bool.{cases_Bool}
use Rattle.lisp_graph.specs.declared.command.Command.{Command}
use Rattle.lisp_graph.specs.declared.command.Condemn.{Condemn}
use Rattle.lisp_graph.specs.declared.command.Condemn.TheVariants.{Chosen}
use Rattle.lisp_graph.specs.declared.reply.Reply.{Reply}
use Rattle.lisp_graph.specs.declared.reply.Reply.TheVariants as R
use Rattle.lisp_graph.specs.Graph.{Graph}
use Rattle.lisp_graph.specs.Effect.{Effect, Wanted, effect}
use Rattle.lisp_meaning.specs.machine.State.{Condemned, Phase, Idle, Running, State}
use Rattle.lisp_meaning.specs.machine.Flip.{graph_of, flipped, Settles}
use Rattle.lisp_meaning.specs.machine.Step.{Answer, Replied, counted, allocated, exceeds, exhausted, answer_wanting, answer_of, Flips, Scavenges, Reclaims, Serves, StepsBy, Step}
use Rattle.lisp_meaning.specs.machine.Run.{full_levels, SilentReclaim, SilentFlip, Silent, Does, Run}
use Rattle.lisp_meaning.specs.machine.Follows.{IsRefusal, FollowsBy, Follows, FollowsAll}
use Rattle.lisp_meaning.proofs.closure.Transitions.{either, serves_by}

-- What keeps the graph

settled_graph : (s : State) (aim : Condemned) (new : State) → Settles s aim new → graph_of new ≡ graph_of s
settled_graph s aim new t = λ i. record { registers = t.registers i; objects = t.objects i }

flips_graph : (s : State) (p : Phase) (what : Condemn) (a : Answer) (new : State) → Flips s p what a new → graph_of new ≡ graph_of s
flips_graph s Idle what a new e = ap graph_of e.3
flips_graph s (Running c) what a new e = ap graph_of e.1

scavenges_graph : (s : State) (p : Phase) (count : ℕ) (a : Answer) (new : State) → Scavenges s p count a new → graph_of new ≡ graph_of s
scavenges_graph s Idle count a new e = ap graph_of e.1
scavenges_graph s (Running c) count a new e = ap graph_of e.3

reclaims_graph : (s : State) (p : Phase) (a : Answer) (new : State) → Reclaims s p a new → graph_of new ≡ graph_of s
reclaims_graph s Idle a new e = ap graph_of e.1
reclaims_graph s (Running c) a new e = go (either c.over e)
  where
    go : ((a ≡ Replied R.Reclaimed) × Settles s c.aim new) ⊎ ((a ≡ Replied R.NotDone) × (new ≡ s)) → graph_of new ≡ graph_of s
    go (inl x) = settled_graph s c.aim new x.1
    go (inr x) = ap graph_of x.1

serves_graph : (s : State) (c : Command) (a : Answer) (new : State) → Serves s c a new → graph_of new ≡ graph_of s
serves_graph s c a new = serves_by (graph_of new ≡ graph_of s) s c a new (λ what e. flips_graph s s.phase what a new e) (λ count e. scavenges_graph s s.phase count a new e)
    (λ e. reclaims_graph s s.phase a new e) (λ e. ap graph_of e)

silent_reclaim_graph : (s : State) (p : Phase) (new : State) → SilentReclaim s p new → graph_of new ≡ graph_of s
silent_reclaim_graph s Idle new e = ap graph_of e
silent_reclaim_graph s (Running c) new e = go (either c.over e)
  where
    go : Settles s c.aim new ⊎ (new ≡ s) → graph_of new ≡ graph_of s
    go (inl x) = settled_graph s c.aim new x
    go (inr x) = ap graph_of x

silent_flip_graph : (s : State) (new : State) → SilentFlip s new → graph_of new ≡ graph_of s
silent_flip_graph s new e = go (either _ e)
  where
    go : ((pages : ℕ) × (pages ≤ 16 * s.space.regions) × (new ≡ flipped s (Chosen (full_levels s)) pages)) ⊎ (new ≡ s) → graph_of new ≡ graph_of s
    go (inl x) = ap graph_of x.2
    go (inr x) = ap graph_of x

pub silent_graph : (s : State) (c : Command) (new : State) → Silent s c new → graph_of new ≡ graph_of s
silent_graph s c new e = go (either _ e)
  where
    go : ((mid : State) × SilentReclaim s s.phase mid × SilentFlip mid new) ⊎ (new ≡ s) → graph_of new ≡ graph_of s
    go (inl x) = silent_flip_graph x.0 new x.2 ∙ silent_reclaim_graph s s.phase x.0 x.1
    go (inr x) = ap graph_of x

-- Steps follow

answer_follows : (s : State) (c : Command) (e : Effect) (w : Option Wanted) → ((answer_wanting s c e w).0 ≡ e.reply) × (graph_of (answer_wanting s c e w).1 ≡ e.graph)
    ⊎ (IsRefusal (Replied (answer_wanting s c e w).0) × (graph_of (answer_wanting s c e w).1 ≡ graph_of s))
answer_follows s c e None = inl (refl, refl)
answer_follows s c e (Some w) = go (cases_Bool (exceeds s w))
  where
    by : Bool → Reply × State
    by b = if b then (exhausted s w, s) else (e.reply, counted w.charge (s.space.rate * w.charge) (allocated s c w.area e.graph))

    go : (exceeds s w ≡ true) ⊎ (exceeds s w ≡ false) → ((by (exceeds s w)).0 ≡ e.reply) × (graph_of (by (exceeds s w)).1 ≡ e.graph)
        ⊎ (IsRefusal (Replied (by (exceeds s w)).0) × (graph_of (by (exceeds s w)).1 ≡ graph_of s))
    go (inl t) = inr (subst (λ (b : Bool). IsRefusal (Replied (by b).0)) (sym t) tt, ap (λ (b : Bool). graph_of (by b).1) t)
    go (inr t) = inl (ap (λ (b : Bool). (by b).0) t, ap (λ (b : Bool). graph_of (by b).1) t)

step_follows : (s : State) (c : Command) (a : Answer) (new : State) → Step s c a new → Follows (graph_of s) c a (graph_of new)
step_follows s c a new (inl e) = go (effect (graph_of s) c) e
  where
    go : (o : Option Effect) → StepsBy s c o a new → FollowsBy (graph_of s) o a (graph_of new)
    go None e = serves_graph s c a new e
    go (Some x) e = done (answer_follows s c x x.wanted)
      where
        done : ((answer_of s c x).0 ≡ x.reply) × (graph_of (answer_of s c x).1 ≡ x.graph) ⊎ (IsRefusal (Replied (answer_of s c x).0) × (graph_of (answer_of s c x).1 ≡ graph_of s)) → FollowsBy (graph_of s) (Some x) a (graph_of new)
        done (inl f) = inl (e.2 ∙ ap Replied f.0, ap graph_of e.3 ∙ f.1)
        done (inr f) = inr (subst IsRefusal (sym e.2) f.0, ap graph_of e.3 ∙ f.1)
step_follows s c a new (inr e) = go (effect (graph_of s) c)
  where
    go : (o : Option Effect) → FollowsBy (graph_of s) o a (graph_of new)
    go None = ap graph_of e.1.3
    go (Some x) = inr (subst IsRefusal (sym e.1.2) tt, ap graph_of e.1.3)

pub does_follow : (s : State) (c : Command) (a : Answer) (new : State) → Does s c a new → Follows (graph_of s) c a (graph_of new)
does_follow s c a new d = subst (λ (g : Graph). Follows g c a (graph_of new)) (silent_graph s c d.0 d.1) (step_follows d.0 c a new d.2)

pub run_follows : (s : State) (commands : List Command) (answers : List Answer) (new : State) → Run s commands answers new → FollowsAll (graph_of s) commands answers (graph_of new)
run_follows s [] [] new r = ap graph_of r
run_follows s (c ∷ cs) (a ∷ answers) new r = (graph_of r.0, does_follow s c a r.0 r.1, run_follows r.0 cs answers new r.2)
run_follows s [] (a ∷ answers) new r = absurd r
run_follows s (c ∷ cs) [] new r = absurd r

follows_effect : (g : Graph) (o : Option Effect) (e : Effect) (a : Answer) (new : Graph) → FollowsBy g o a new → o ≡ Some e → (IsRefusal a → ⊥) → (a ≡ Replied e.reply) × (new ≡ e.graph)
follows_effect g None e a new f is no_refusal = absurd cc
follows_effect g (Some x) e a new (inl f) is no_refusal = let z : x ≡ e = cc in (f.0 ∙ ap (λ (y : Effect). Replied y.reply) z, f.1 ∙ ap (λ (y : Effect). y.graph) z)
follows_effect g (Some x) e a new (inr f) is no_refusal = absurd (no_refusal f.0)

pub answers_alike : (s t : State) (c : Command) (e : Effect) (a b : Answer) (s' t' : State) → graph_of s ≡ graph_of t → effect (graph_of s) c ≡ Some e → Does s c a s' → Does t c b t' → (IsRefusal a → ⊥) → (IsRefusal b → ⊥)
    → (a ≡ b) × (graph_of s' ≡ graph_of t')
answers_alike s t c e a b s' t' same is d d' x y =
    let f = follows_effect (graph_of s) (effect (graph_of s) c) e a (graph_of s') (does_follow s c a s' d) is x in
    let f' = follows_effect (graph_of t) (effect (graph_of t) c) e b (graph_of t') (does_follow t c b t' d') (ap (λ (g : Graph). effect g c) (sym same) ∙ is) y in
    (f.0 ∙ sym f'.0, f.1 ∙ sym f'.1)
