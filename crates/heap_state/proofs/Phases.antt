-- Phases after replies.
use Rattle.std.proofs.Common.{◌≡◌, ℕ, ◌+◌, ◌*◌, Bool, true, false, refl, sym, ◌∙◌, ap, Option, Some, None, if◌then◌else◌, arith}
use Rattle.lisp_graph.specs.declared.command.Command.{Command}
use Rattle.lisp_graph.specs.declared.reply.Reply.{Reply}
use Rattle.lisp_graph.specs.Effect.{Effect, Wanted}
use Rattle.transporter.specs.lisp_meaning.State.{State, Phase, Idle, Running, is_over}
use Rattle.transporter.specs.lisp_meaning.Step.{answer_wanting, allocated, exhausted, counted, exceeds, counted_phase, with_over_phase}
use Rattle.heap_state.specs.Wanting.{owed_wanting, paid_wanting}

same_over : (p : Phase) → with_over_phase (is_over p) p ≡ p
same_over Idle = refl
same_over (Running c) = refl

pub none_more : (p : Phase) → counted_phase 0 0 p ≡ p
none_more Idle = refl
none_more (Running c) = let a : c.owed + 0 ≡ c.owed = omega arith in let b : c.paid + 0 ≡ c.paid = omega arith in
    ap (λ (x : ℕ). Running (record c { owed = x; paid = c.paid + 0 })) a ∙ ap (λ (x : ℕ). Running (record c { paid = x })) b

-- the phase after a reply
pub wanted_phase : (s : State) (c : Command) (e : Effect) (w : Option Wanted) → (answer_wanting s c e w).1.phase ≡ counted_phase (owed_wanting s c e w) (paid_wanting s w) s.phase
wanted_phase s c e None = refl
wanted_phase s c e (Some w) = by (exceeds s w) (exhausted s w, s) (e.reply, counted w.charge (s.space.rate * w.charge) (allocated s c w.area e.graph)) w.charge (s.space.rate * w.charge) refl refl
  where
    by : (b : Bool) (x y : Reply × State) (o p : ℕ) → x.1.phase ≡ s.phase → y.1.phase ≡ counted_phase o p s.phase
        → (if b then x else y).1.phase ≡ counted_phase (if b then 0 else o) (if b then 0 else p) s.phase
    by true x y o p h h2 = h ∙ sym (none_more s.phase)
    by false x y o p h h2 = h2
