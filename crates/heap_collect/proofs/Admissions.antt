-- An allocation that is admitted is a transition, and so is one that is refused; with the silent steps before it, it is what the definition does.
use Rattle.std.proofs.Common.{◌≡◌, ℕ, ◌+◌, ◌-◌, ◌*◌, ◌<◌, ◌≤◌, inl, Bool, true, false, not, ◌&&◌, if◌then◌else◌, List, Option, MatchBool, IsTrue, refl, sym, ◌∙◌, ap, subst, arith}
use Rattle.std.specs.Prelude.{is_some}
use Rattle.std.proofs.lemmas.Bool.{and_from, leb-true, lt-ltb, or_right}
use Rattle.store_word.specs.Words.{Parts}
use Rattle.store_word.specs.declared.space.Space.{Space}
use Rattle.lisp_graph.specs.declared.command.Command.{Command}
use Rattle.lisp_graph.specs.declared.reply.Reply.{Reply}
use Rattle.lisp_graph.specs.declared.reply.Reply.TheVariants as R
use Rattle.lisp_graph.specs.Effect.{Effect, Wanted, effect}
use Rattle.mem_port.specs.Store.{Store}
use Rattle.area_space.specs.Accounts.{account_of}
use Rattle.area_space.specs.Table.{Table, areas_of, quota_of}
use Rattle.heap_state.specs.lisp_meaning.State.{Idle, Phase, Running, State, is_over, rule_of}
use Rattle.heap_state.specs.lisp_meaning.Charges.{account_now}
use Rattle.heap_state.specs.lisp_meaning.Flip.{graph_of}
use Rattle.heap_state.specs.lisp_meaning.Roles.{RoleMap}
use Rattle.heap_state.specs.lisp_meaning.Interpretation.{interpretation}
use Rattle.heap_state.specs.lisp_meaning.Run.{SilentFlip, SilentReclaim, collects_itself}
use Rattle.heap_state.specs.lisp_meaning.Step.{allocated, counted, Ends, IsOverAfter, Replied, StepsBy, answer_of, answer_wanting, exceeds, exhausted, is_exhausted, is_paid, is_scavenge, may_fault, scans, wanted_by, with_over_phase}
use Rattle.heap_state.proofs.lisp_ground.sums.Accounts.{account_agrees, areas_agree, quota_agrees}
use Rattle.scavenger.specs.Scan.{Scan}
use Rattle.heap_state.specs.HasScannedAhead.{HasScannedAhead}
use Rattle.heap_state.specs.Represents.{Represents}
use Rattle.heap_state.specs.RepresentsAll.{RepresentsAll}
use Rattle.heap_state.specs.Laws.{AllocationIsStep}
use Rattle.heap_state.specs.StepsTo.{StepsTo}
use Rattle.heap_state.proofs.AllocationTransitions.{fault_is_step}
use Rattle.heap_state.proofs.Allocations.{fits_quota, quota_left}
use Rattle.heap_state.proofs.RemainingUnits.{at_last}
use Rattle.heap_state.proofs.ReachableObjects.{steps_bear}
use Rattle.heap_collect.specs.Admitting.{HasLeft, Wants, refusal}
use Rattle.heap_collect.specs.Laws.{AdmittedIsStep, PreparedGoes}
use Rattle.heap_collect.proofs.GroundReclaims.{swept_of}

-- What a table and a state record of an area

module _ (m : Store) (t : Table) (registers : List Parts) (k : RoleMap) (s : State) (b : Represents m t registers k s) (area : ℕ) (inside : area < areas_of t) where
  pub account_is : account_of t area ≡ account_now s area
  account_is = account_agrees m t (interpretation k s) b.kept area

  pub quota_is : quota_of t area ≡ (rule_of s.areas area).quota
  quota_is = quota_agrees m t (interpretation k s) b.kept area (let e = areas_agree m t (interpretation k s) b.kept in omega arith)

-- Refused

abbrev pub wanted_of : ℕ → ℕ → Wanted
wanted_of area charge = record { area = area; charge = charge }

module _ (m : Store) (t : Table) (scan : Scan) (registers : List Parts) (k : RoleMap) (s : State) (c : Command) (area charge : ℕ) (x : RepresentsAll m t scan registers k s) (w : Wants s c area charge) where
  same_over : (p : Phase) → with_over_phase (is_over p) p ≡ p
  same_over Idle = refl
  same_over (Running c0) = refl

  still_going : (p : Phase) → s.phase ≡ p → is_paid p ≡ true → is_over p ≡ true
  still_going Idle was paid = absurd (cc)
  still_going (Running c0) was paid = go c0.over refl
    where
      go : (b : Bool) → c0.over ≡ b → b ≡ true
      go true e = refl
      go false e =
          let few = leb-true c0.owed c0.paid paid in
          let l = at_last m t scan registers k s.store c0 (swept_of m t scan registers k s c0 x was) e in
          absurd (omega arith)

  over_here : (may : Bool) → IsOverAfter s may s (is_over s.phase)
  over_here may = record { stays = λ e. e; only_by = λ no yes. absurd (cc); at_last = still_going s.phase refl }

  -- if the quota allows less nothing changes
  pub refused_steps : exceeds s (wanted_of area charge) ≡ true → StepsTo m t scan registers s c (exhausted s (wanted_of area charge))
  refused_steps more =
      let answer : answer_of s c w.effect_of ≡ (exhausted s (wanted_of area charge), s) =
      ap (answer_wanting s c w.effect_of) w.wanted
      ∙ ap (λ (b : Bool). if b then (exhausted s (wanted_of area charge), s) else (w.effect_of.reply, counted charge (s.space.rate * charge) (allocated s c area w.effect_of.graph))) more in
      record {
        next = s;
        step = inl (subst (λ (o : Option Effect). StepsBy s c o (Replied (exhausted s (wanted_of area charge))) s) (sym w.is)
            (subst (λ (a : Reply × State). Ends s c a.0 a.1 (Replied (exhausted s (wanted_of area charge))) s) (sym answer)
            (is_over s.phase, over_here (scans s c (exhausted s (wanted_of area charge))), refl, ap (λ (p : Phase). record s { phase = p }) (sym (same_over s.phase)))));
        map = k;
        represents = x.represents;
        scans = x.scans;
      }

  pub refusal_steps : area < areas_of t → quota_of t area < account_of t area + charge → StepsTo m t scan registers s c (refusal t area charge)
  refusal_steps inside less =
      let a = account_is m t registers k s x.represents area inside in
      let q = quota_is m t registers k s x.represents area inside in
      let same : refusal t area charge ≡ exhausted s (wanted_of area charge) = ap (λ (n : ℕ). R.Exhausted area n charge (quota_of t area)) a ∙ ap (λ (n : ℕ). R.Exhausted area (account_now s area) charge n) q in
      subst (λ (r : Reply). StepsTo m t scan registers s c r) (sym same) (refused_steps (lt-ltb (rule_of s.areas area).quota (account_now s area + charge) (omega arith)))

  -- a swap error in the scan before it
  pub fault_steps : (m' : Store) (t' : Table) (scan' : Scan) (registers' : List Parts) → IsTrue (may_fault c) → HasScannedAhead m t m' t' scan' registers' k s 0 → StepsTo m' t' scan' registers' s c R.Fault
  fault_steps m' t' scan' registers' may y =
      let wants : is_some (wanted_by (effect (graph_of s) c)) ≡ true = ap (λ (o : Option Effect). is_some (wanted_by o)) w.is ∙ ap is_some w.wanted in
      fault_is_step m' t' scan' registers' y.represented.map s c 0 y.represented.represents y.scans may (or_right (is_scavenge c) _ (and_from _ (not (is_exhausted R.Fault)) wants refl))

-- Admitted

-- the quota allows as much after the scan before it
pub left_still : (m m' : Store) (t t' : Table) (registers registers' : List Parts) (k k' : RoleMap) (s : State) (area charge : ℕ) → Represents m t registers k s → Represents m' t' registers' k' s → area < areas_of t → account_of t area + charge ≤ quota_of t area → HasLeft t' area charge
left_still m m' t t' registers registers' k k' s area charge b b' inside left =
    let n = areas_agree m t (interpretation k s) b.kept in
    let n' = areas_agree m' t' (interpretation k' s) b'.kept in
    let a = account_is m t registers k s b area inside in
    let q = quota_is m t registers k s b area inside in
    let a' = account_is m' t' registers' k' s b' area (omega arith) in
    let q' = quota_is m' t' registers' k' s b' area (omega arith) in
    omega arith

pub left_here : (quota charged charge account total : ℕ) → charged ≡ account → quota ≡ total → charged ≤ total → charge ≤ quota - charged → account + charge ≤ total
left_here quota charged charge account total a q paid enough = omega arith

pub told_refusal : (t : Table) (area charge charged quota : ℕ) → charged ≡ account_of t area → quota ≡ quota_of t area → R.Exhausted area charged charge quota ≡ refusal t area charge
told_refusal t area charge charged quota a q = ap (λ (n : ℕ). R.Exhausted area n charge quota) a ∙ ap (λ (n : ℕ). R.Exhausted area (account_of t area) charge n) q

pub less_here : (quota charged charge account total : ℕ) → charged ≡ account → quota ≡ total → quota - charged < charge → total < account + charge
less_here quota charged charge account total a q less = omega arith

pub admitted_is_step : AllocationIsStep → AdmittedIsStep
admitted_is_step law m m1 m' t t1 t' scan scan1 registers registers1 registers' k s c r area level charge x w area_in level_in level_is ahead left performs =
    let b = ahead.represented.represents in
    let fits = fits_quota s area level charge (quota_left m1 t1 registers1 ahead.represented.map s area level charge b area_in level_in left) in
    law m1 m' t1 t' scan1 registers1 registers' ahead.represented.map s c r (s.space.rate * charge) b ahead.scans x.reach
    (record { effect_of = w.effect_of; is = w.is; wanted = wanted_of area charge; wants = w.wanted; fits = fits; ahead_is = refl })
    (performs ahead.represented.map s b x.reach level_is)

-- With the silent steps

pub prepared_goes : PreparedGoes
prepared_goes m m' t t' scan scan' registers registers' s c r all allowed some marks x y =
    let same = ap (λ (w : Space). w.registers) x.space in
    record {
      next = y.next;
      does = (
        x.mid,
        subst (λ (b : Bool). MatchBool (b && collects_itself s) ((first : State) × SilentReclaim s s.phase first × SilentFlip first x.mid) (x.mid ≡ s)) (sym all) x.silent,
        y.step,
      );
      map = y.map;
      represents = steps_bear m m' t t' scan scan' registers registers' x.map x.mid c r x.represents (omega arith) allowed y marks;
    }
