-- A command of the program keeps what is held closed.
use Rattle.std.proofs.Common.{◌≡◌, ℕ, ◌*◌, ◌<◌, ◌≤◌, ◌⊎◌, inl, inr, Bool, true, not, ◌&&◌, refl, subst, ap, arith, length, Option, Some, None, IsTrue, nat_lt}
use Rattle.std.specs.Prelude.{is_some}
use Rattle.std.proofs.lemmas.Bool.{cases_lt, or_cases, or_left, or_right, and_parts, and_from, not_from_false, cond_both, lt-ltb, le-ltb, false_from_ne_true}
use Rattle.lisp_graph.specs.declared.command.Command.{Command}
use Rattle.lisp_graph.specs.declared.reply.Reply.{Reply}
use Rattle.lisp_graph.specs.declared.world.World.{World}
use Rattle.lisp_graph.specs.Effect.{Effect, Wanted, effect}
use Rattle.lisp_meaning.specs.machine.State.{rule_of, new_level, Condemned, Phase, Idle, Running, Store, State, is_held, in_use}
use Rattle.lisp_meaning.specs.machine.Reach.{Closed}
use Rattle.lisp_meaning.specs.machine.Flip.{graph_of}
use Rattle.lisp_meaning.specs.machine.Step.{counted, counted_phase, owed_by, with_graph, allocated, exceeds, exhausted, answer_wanting, answer_of, with_over, with_over_phase}
use Rattle.lisp_meaning.specs.machine.Opening.{opening, IsWhole}
use Rattle.lisp_meaning.specs.machine.Sound.{is_kept, Reaches, Reach, IsAllowed, IsClosed}
use Rattle.lisp_meaning.proofs.closure.HeldNames.{holding-new, holding_few, holding_extends}
use Rattle.lisp_meaning.proofs.closure.ClosedSets.{Extends, extends_same}
use Rattle.lisp_meaning.proofs.closure.Effects.{closed_effect, effect_sizes}

-- The opening

pub opening_closed : (w : World) → IsWhole w → IsClosed (opening w)
opening_closed w whole = record {
  names = below;
  closed = record { from_registers = λ n e. held n (whole.roots n e); from_objects = λ m n l k e. held n (whole.objects m n l e) };
  reach = tt;
}
  where
    held : (n : ℕ) → n < length w.objects → is_held (opening w).store n ≡ true
    held n l = cond_both (nat_lt n (length w.objects)) (Some 0) None (λ (o : Option ℕ). is_some o ≡ true) (λ e. refl) (λ e. let x = lt-ltb n (length w.objects) l in cc)

    below : (n : ℕ) → in_use (opening w).store n → n < length w.objects
    below n u = go (cases_lt n (length w.objects))
      where
        go : (n < length w.objects) ⊎ (length w.objects ≤ n) → n < length w.objects
        go (inl l) = l
        go (inr l) = let x = le-ltb n (length w.objects) l in cc

-- Counting and the end of a collection change no more than numbers

-- two phases with the same aim
abbrev pub SameAim : Phase → Phase → Type 0
SameAim Idle Idle = Unit {0}
SameAim (Running c) (Running d) = c.aim ≡ d.aim
SameAim _ _ = ⊥

counted_same : (owed paid : ℕ) (p : Phase) → SameAim p (counted_phase owed paid p)
counted_same owed paid Idle = tt
counted_same owed paid (Running c) = refl

over_same : (over : Bool) (p : Phase) → SameAim p (with_over_phase over p)
over_same over Idle = tt
over_same over (Running c) = refl

-- a state with other numbers of its collection
pub numbers_closed : (s : State) (p : Phase) → SameAim s.phase p → IsClosed s → IsClosed (record s { phase = p })
numbers_closed s p same h = record { names = h.names; closed = h.closed; reach = go s.phase p same h.reach }
  where
    go : (old new : Phase) → SameAim old new → Reach (record s { phase = old }) old → Reach (record s { phase = new }) new
    go Idle Idle same r = tt
    go (Running c) (Running d) same r = subst (λ (aim : Condemned). Reaches s.registers s.store aim) same r
    go Idle (Running d) same r = absurd same
    go (Running c) Idle same r = absurd same

pub counted_closed : (owed paid : ℕ) (s : State) → IsClosed s → IsClosed (counted owed paid s)
counted_closed owed paid s h = numbers_closed s (counted_phase owed paid s.phase) (counted_same owed paid s.phase) h

pub over_closed : (over : Bool) (s : State) → IsClosed s → IsClosed (with_over over s)
over_closed over s h = numbers_closed s (with_over_phase over s.phase) (over_same over s.phase) h

-- Commands of the program

-- the names kept are held
pub kept_held : (s : Store) (aim : Condemned) → ((n : ℕ) → IsTrue (aim.bound n) → in_use s n) → (n : ℕ) → is_kept s aim n ≡ true → is_held s n ≡ true
kept_held s aim bound n e = go (or_cases (aim.bound n) (is_held s n && not (aim.condemned n)) e)
  where
    go : (aim.bound n ≡ true) ⊎ ((is_held s n && not (aim.condemned n)) ≡ true) → is_held s n ≡ true
    go (inl x) = bound n x
    go (inr x) = (and_parts (is_held s n) (not (aim.condemned n)) x).0

-- after an effect that makes no name, or names that are then held
module _ (s : State) (h : IsClosed s) (c : Command) (allowed : IsAllowed c) (e : Effect) (is : effect (graph_of s) c ≡ Some e) (store : Store)
    (held : Extends (is_held s.store) (is_held store) (length s.store.objects))
    (few : (n : ℕ) → is_held store n ≡ true → n < length e.graph.objects)
    (made : (n : ℕ) → length s.store.objects ≤ n → n < length e.graph.objects → is_held store n ≡ true) where
  set_closed : Closed e.graph (is_held store)
  set_closed = closed_effect (graph_of s) (is_held s.store) (is_held store) h.closed held h.names c allowed e is made

  module _ (aim : Condemned) (r : Reaches s.registers s.store aim) where
    doomed_below : (n : ℕ) → aim.condemned n ≡ true → n < length s.store.objects
    doomed_below n d = h.names n (r.condemned n d)

    keeps_more : Extends (is_kept s.store aim) (is_kept store aim) (length s.store.objects)
    keeps_more = record {
      up = λ n k. up n (or_cases (aim.bound n) (is_held s.store n && not (aim.condemned n)) k);
      down = λ n l k. down n l (or_cases (aim.bound n) (is_held store n && not (aim.condemned n)) k);
    }
      where
        up : (n : ℕ) → (aim.bound n ≡ true) ⊎ ((is_held s.store n && not (aim.condemned n)) ≡ true) → is_kept store aim n ≡ true
        up n (inl x) = or_left (aim.bound n) (is_held store n && not (aim.condemned n)) x
        up n (inr x) =
            let b = and_parts (is_held s.store n) (not (aim.condemned n)) x in
            or_right (aim.bound n) (is_held store n && not (aim.condemned n)) (and_from (is_held store n) (not (aim.condemned n)) (held.up n b.0) b.1)

        down : (n : ℕ) → n < length s.store.objects → (aim.bound n ≡ true) ⊎ ((is_held store n && not (aim.condemned n)) ≡ true) → is_kept s.store aim n ≡ true
        down n l (inl x) = or_left (aim.bound n) (is_held s.store n && not (aim.condemned n)) x
        down n l (inr x) =
            let b = and_parts (is_held store n) (not (aim.condemned n)) x in
            or_right (aim.bound n) (is_held s.store n && not (aim.condemned n)) (and_from (is_held s.store n) (not (aim.condemned n)) (held.down n l b.0) b.1)

    new_kept : (n : ℕ) → length s.store.objects ≤ n → n < length e.graph.objects → is_kept store aim n ≡ true
    new_kept n l m =
        or_right (aim.bound n) (is_held store n && not (aim.condemned n))
        (and_from (is_held store n) (not (aim.condemned n)) (made n l m) (not_from_false (aim.condemned n) (false_from_ne_true (aim.condemned n) (λ d. let x = doomed_below n d in omega arith))))

    pub effect_reaches : Reaches e.graph.registers (record store { objects = e.graph.objects }) aim
    effect_reaches = record {
      condemned = λ n d. held.up n (r.condemned n d);
      bound = λ n b. held.up n (r.bound n b);
      closed = closed_effect (graph_of s) (is_kept s.store aim) (is_kept store aim) r.closed keeps_more
          (λ n k. h.names n (kept_held s.store aim r.bound n k)) c allowed e is new_kept;
    }

  effect_reach : (p : Phase) → Reach s p → Reach (record s { registers = e.graph.registers; store = record store { objects = e.graph.objects } }) p
  effect_reach Idle r = tt
  effect_reach (Running c) r = effect_reaches c.aim r

  pub effect_closed : IsClosed (record s { registers = e.graph.registers; store = record store { objects = e.graph.objects } })
  effect_closed = record { names = few; closed = set_closed; reach = effect_reach s.phase h.reach }

module _ (s : State) (h : IsClosed s) (c : Command) (allowed : IsAllowed c) (e : Effect) (is : effect (graph_of s) c ≡ Some e) where
  unwanted_closed : e.wanted ≡ None → IsClosed (with_graph s e.graph)
  unwanted_closed w =
      let size = (effect_sizes (graph_of s) c e is).same w in
      effect_closed s h c allowed e is s.store (extends_same (is_held s.store) (length s.store.objects))
      (λ n u. let l = h.names n u in omega arith) (λ n l m. absurd (omega arith))

  allocated_closed : (area : ℕ) → IsClosed (allocated s c area e.graph)
  allocated_closed area =
      let size = (effect_sizes (graph_of s) c e is).more in
      let level = new_level (rule_of s.areas area).kind in
      effect_closed s h c allowed e is (allocated s c area e.graph).store
      (holding_extends s.store.held (length s.store.objects) (length e.graph.objects) level h.names)
      (λ n u. holding_few s.store.held (length s.store.objects) (length e.graph.objects) level h.names n u size)
      (λ n l m. ap is_some (holding-new s.store.held (length s.store.objects) (length e.graph.objects) level n l m))

  pub answer_closed : IsClosed (answer_of s c e).1
  answer_closed = go e.wanted (λ w. unwanted_closed w)
    where
      go : (w : Option Wanted) → (w ≡ None → IsClosed (with_graph s e.graph)) → IsClosed (answer_wanting s c e w).1
      go None f = counted_closed (owed_by c e.reply) 0 (with_graph s e.graph) (f refl)
      go (Some w) f = cond_both (exceeds s w) (exhausted s w, s) _ (λ (x : Reply × State). IsClosed x.1)
          (λ t. h) (λ t. counted_closed w.charge (s.space.rate * w.charge) (allocated s c w.area e.graph) (allocated_closed w.area))
