-- An allocation is a transition if the units that it pays for were scanned, or all that remained.
use Rattle.std.proofs.Common.{◌≡◌, ℕ, ◌+◌, ◌*◌, ◌≤◌, inl, inr, Bool, true, false, not, Option, refl, sym, ◌∙◌, ap, subst, List, IsTrue, arith}
use Rattle.std.specs.Prelude.{is_some, if◌then◌else◌}
use Rattle.std.proofs.lemmas.Bool.{and_from, or_right}
use Rattle.store_word.specs.Words.{Parts}
use Rattle.lisp_graph.specs.declared.command.Command.{Command}
use Rattle.lisp_graph.specs.declared.reply.Reply.{Reply}
use Rattle.lisp_graph.specs.declared.reply.Reply.TheVariants as R
use Rattle.lisp_graph.specs.Effect.{Effect, Wanted, effect}
use Rattle.mem_port.specs.Store.{Store}
use Rattle.area_space.specs.Table.{Table}
use Rattle.transporter.specs.lisp_meaning.State.{State, Phase, Idle, Running, Collection, Condemned, aim_of, is_over}
use Rattle.transporter.specs.lisp_meaning.Roles.{RoleMap}
use Rattle.transporter.specs.lisp_meaning.Flip.{graph_of}
use Rattle.transporter.specs.lisp_meaning.Sound.{Reach}
use Rattle.transporter.specs.lisp_meaning.Step.{Replied, Step, StepsBy, Ends, IsOverAfter, answer_of, answer_wanting, exhausted, allocated, counted, counted_phase, with_over, with_over_phase, is_paid, is_exhausted, is_scavenge, scans, wanted_by, may_fault}
use Rattle.transporter.proofs.lisp_meaning.closure.Effects.{effect_sizes}
use Rattle.transporter.specs.lisp_ground.GroundInvariant.{GroundInvariant}
use Rattle.transporter.specs.lisp_meaning.Interpretation.{interpretation}
use Rattle.transporter.specs.lisp_ground.After.{old_on}
use Rattle.scavenger.specs.Scan.{Scan}
use Rattle.scavenger.specs.Left.{units_of}
use Rattle.scavenger.specs.Collecting.{ScanInvariant}
use Rattle.heap_state.specs.HasScannedAhead.{ScansAhead, SweepsAhead}
use Rattle.heap_state.specs.PhaseAgrees.{PhaseAgrees}
use Rattle.heap_state.specs.Represents.{Represents}
use Rattle.heap_state.specs.RepresentsLater.{RepresentsLater}
use Rattle.heap_state.specs.Performs.{PerformsOn, AnswersOn}
use Rattle.scavenger.specs.Laws.{CleanStays, UnitsStay}
use Rattle.heap_state.specs.Scans.{Scans}
use Rattle.heap_state.specs.StepsTo.{PaysAhead, PaysFor, StepsTo}
use Rattle.heap_state.specs.Wanting.{owed_wanting, paid_wanting}
use Rattle.heap_state.specs.Laws.{AllocationIsStep, FaultIsStep}
use Rattle.heap_state.proofs.RemainingUnits.{told_over}
use Rattle.heap_state.proofs.Transitions.{steps_to}
use Rattle.heap_state.proofs.ScanChanges.{clean_on, work_on, preserves_work}

-- whether a collection has finished doesn't affect what is represented

over_aims : (t : Table) (over : Bool) (p : Phase) → PhaseAgrees t p → PhaseAgrees t (with_over_phase over p)
over_aims t over Idle a = a
over_aims t over (Running c) a = a

over_aim : (over : Bool) (p : Phase) → aim_of (with_over_phase over p) ≡ aim_of p
over_aim over Idle = refl
over_aim over (Running c) = refl

pub over_represents : (m : Store) (t : Table) (registers : List Parts) (k : RoleMap) (s : State) (over : Bool) → Represents m t registers k s → Represents m t registers k (with_over over s)
over_represents m t registers k s over b = record {
  kept = subst (λ (a : Condemned). GroundInvariant m t (record (interpretation k s) { aim = a })) (sym (over_aim over s.phase)) b.kept;
  count = b.count;
  means = b.means;
  aims = over_aims t over s.phase b.aims;
}

-- A swap error in a scan

module _ (m : Store) (t : Table) (scan : Scan) (registers : List Parts) (k : RoleMap) (s : State) (c : Command) (b : Represents m t registers k s) (may : IsTrue (may_fault c)) (scanned : scans s c R.Fault ≡ true) where
  fault_over : (x : Collection) (ahead : ℕ) → s.phase ≡ Running x → SweepsAhead m t scan registers k s.store x ahead → IsOverAfter s (scans s c R.Fault) s scan.over
  fault_over x ahead was w = told_over m t scan registers s s x x (scans s c R.Fault) was was scanned w.over w.clean (λ going. (let left = w.work going in omega arith))

  -- a swap error, if a collection runs
  running_fault : (x : Collection) (ahead : ℕ) → s.phase ≡ Running x → SweepsAhead m t scan registers k s.store x ahead → StepsTo m t scan registers s c R.Fault
  running_fault x ahead was w = record {
    next = with_over scan.over s;
    step = inr (may, (scan.over, fault_over x ahead was w, refl, refl));
    map = k;
    represents = over_represents m t registers k s scan.over b;
    scans = subst (λ (p : Phase). Scans m t scan registers k s.store p 0) (sym (ap (with_over_phase scan.over) was)) (record { clean = w.clean; over = refl; work = λ going. (let h = w.work going in omega arith) });
  }

  idle_fault : s.phase ≡ Idle → (ahead : ℕ) → ScansAhead m t scan registers k s.store Idle ahead → StepsTo m t scan registers s c R.Fault
  idle_fault was ahead w = record {
    next = s;
    step = inr (
      may,
      (
        false,
        (record { stays = λ over. (let z = ap is_over was in absurd cc); only_by = λ no yes. absurd cc; at_last = λ paid. (let z = ap is_paid was in absurd cc) }),
        refl,
        sym (ap (λ (p : Phase). record s { phase = p }) (ap (with_over_phase false) was ∙ sym was)),
      ),
    );
    map = k;
    represents = b;
    scans = subst (λ (p : Phase). Scans m t scan registers k s.store p 0) (sym was) w;
  }

  pub faulted : (ahead : ℕ) → ScansAhead m t scan registers k s.store s.phase ahead → StepsTo m t scan registers s c R.Fault
  faulted ahead w = go s.phase refl w
    where
      go : (p : Phase) → s.phase ≡ p → ScansAhead m t scan registers k s.store p ahead → StepsTo m t scan registers s c R.Fault
      go Idle was x = idle_fault was ahead x
      go (Running c0) was x = running_fault c0 ahead was x

pub fault_is_step : FaultIsStep
fault_is_step m t scan registers k s c ahead b x may scanned = faulted m t scan registers k s c b may scanned ahead x

-- An allocation

module _ (clean : CleanStays) (units : UnitsStay) (m m' : Store) (t t' : Table) (scan : Scan) (registers registers' : List Parts) (k : RoleMap) (s : State) (c : Command) (r : Reply) (ahead : ℕ)
    (b : Represents m t registers k s) (pays : PaysFor s c ahead) (p : PerformsOn m t registers m' t' registers' c r k s) where
  abbrev e : Effect
  e = pays.effect_of

  abbrev w : Wanted
  w = pays.wanted

  fine : e.reply ≡ R.Fine
  fine = (effect_sizes (graph_of s) c e pays.is).fine (ap is_some pays.wants)

  wants : is_some (wanted_by (effect (graph_of s) c)) ≡ true
  wants = ap (λ (o : Option Effect). is_some (wanted_by o)) pays.is ∙ ap is_some pays.wants

  scanned : (q : Reply) → is_exhausted q ≡ false → scans s c q ≡ true
  scanned q plain = or_right (is_scavenge c) _ (and_from _ (not (is_exhausted q)) wants (ap not plain))

  -- the state after it, before it is known whether the collection has finished
  abbrev after : State
  after = counted w.charge (s.space.rate * w.charge) (allocated s c w.area e.graph)

  answer_is : answer_of s c e ≡ (e.reply, after)
  answer_is = ap (answer_wanting s c e) pays.wants ∙ ap (λ (b : Bool). if b then (exhausted s w, s) else (e.reply, after)) pays.fits

  owed_is : owed_wanting s c e e.wanted ≡ w.charge
  owed_is = ap (owed_wanting s c e) pays.wants ∙ ap (λ (b : Bool). if b then 0 else w.charge) pays.fits

  pays_ahead : PaysAhead s c ahead
  pays_ahead other is =
      let same : other ≡ e = (let z = sym is ∙ pays.is in cc) in
      pays.ahead_is ∙ sym (ap (λ (x : Effect). paid_wanting s x.wanted) same ∙ ap (paid_wanting s) pays.wants ∙ ap (λ (b : Bool). if b then 0 else s.space.rate * w.charge) pays.fits)

  -- if a collection runs

  module _ (x : Collection) (was : s.phase ≡ Running x) (v : SweepsAhead m t scan registers k s.store x ahead) where
    abbrev counts : Collection
    counts = record x { owed = x.owed + w.charge; paid = x.paid + s.space.rate * w.charge }

    after_runs : after.phase ≡ Running counts
    after_runs = ap (counted_phase w.charge (s.space.rate * w.charge)) was

    fault_step : r ≡ R.Fault → IsTrue (may_fault c) → RepresentsLater m t m' t' registers' k s s 0 → StepsTo m' t' scan registers' s c r
    fault_step is may y =
        subst (λ (q : Reply). StepsTo m' t' scan registers' s c q) (sym is)
        (running_fault m' t' scan registers' y.map s c y.represents may (scanned R.Fault refl) x 0 was (record {
          clean = clean_on clean units m m' t t' scan registers registers' k s b (preserves_work p) 0 s y x v.clean;
          over = v.over;
          work = λ going. (let had = v.work going in let less = work_on clean units m m' t t' scan registers registers' k s b (preserves_work p) 0 s y x v.clean was (ap aim_of was) in omega arith);
        }))

    module _ (y : RepresentsLater m t m' t' registers' k s after w.charge) where
      clean_after : ScanInvariant m' t' scan registers'
      clean_after = clean_on clean units m m' t t' scan registers registers' k s b (preserves_work p) w.charge after y x v.clean

      work_after : scan.over ≡ false → counts.paid + (units_of m' scan t' registers' + old_on m' t' after.store x.aim y.map.at) ≤ counts.owed
      work_after going =
          let had = v.work going in
          let is = pays.ahead_is in
          let less = work_on clean units m m' t t' scan registers registers' k s b (preserves_work p) w.charge after y x v.clean was (ap aim_of after_runs) in
          omega arith

      over_after : IsOverAfter s (scans s c e.reply) after scan.over
      over_after = told_over m' t' scan registers' s after x counts (scans s c e.reply) was after_runs (scanned e.reply (ap is_exhausted fine)) v.over clean_after (λ going. (let left = work_after going in omega arith))

      step : Step s c (Replied e.reply) (with_over scan.over after)
      step = inl (subst (λ (o : Option Effect). StepsBy s c o (Replied e.reply) (with_over scan.over after)) (sym pays.is)
          (subst (λ (a : Reply × State). Ends s c a.0 a.1 (Replied e.reply) (with_over scan.over after)) (sym answer_is) (scan.over, over_after, refl, refl)))

      done_step : StepsTo m' t' scan registers' s c e.reply
      done_step = record {
        next = with_over scan.over after;
        step = step;
        map = y.map;
        represents = over_represents m' t' registers' y.map after scan.over y.represents;
        scans = subst (λ (q : Phase). Scans m' t' scan registers' y.map after.store q 0) (sym (ap (with_over_phase scan.over) after_runs)) (record {
          clean = clean_after;
          over = refl;
          work = λ going. (let z = work_after going in omega arith);
        });
      }

    answer_step : AnswersOn m t m' t' registers' c r k s → StepsTo m' t' scan registers' s c r
    answer_step d =
        let same : d.effect_of ≡ e = (let z = sym d.is ∙ pays.is in cc) in
        let reply : r ≡ e.reply = d.reply ∙ ap (λ (x : Effect). (answer_of s c x).0) same ∙ ap (λ (a : Reply × State). a.0) answer_is in
        let represented : RepresentsLater m t m' t' registers' k s after w.charge =
        subst (λ (n : ℕ). RepresentsLater m t m' t' registers' k s after n) owed_is
        (subst (λ (a : Reply × State). RepresentsLater m t m' t' registers' k s a.1 (owed_wanting s c e e.wanted)) answer_is
        (subst (λ (x : Effect). RepresentsLater m t m' t' registers' k s (answer_of s c x).1 (owed_wanting s c x x.wanted)) same d.represented)) in
        subst (λ (q : Reply). StepsTo m' t' scan registers' s c q) (sym reply) (done_step represented)

  pub allocates : ScansAhead m t scan registers k s.store s.phase ahead → Reach s s.phase → StepsTo m' t' scan registers' s c r
  allocates v reach = go s.phase refl v
    where
      go : (q : Phase) → s.phase ≡ q → ScansAhead m t scan registers k s.store q ahead → StepsTo m' t' scan registers' s c r
      go Idle was v = steps_to clean units m m' t t' scan registers registers' k s c r b p ahead (subst (λ (q : Phase). Scans m t scan registers k s.store q ahead) (sym was) v) reach pays_ahead
      go (Running x) was v = elim (p.performed) [
        | inl fault ↦ fault_step x was v fault.0 fault.1 fault.2
        | inr done ↦ answer_step x was v done
      ]

pub allocation_is_step : CleanStays → UnitsStay → AllocationIsStep
allocation_is_step clean units m m' t t' scan registers registers' k s c r ahead b x reach pays p = allocates clean units m m' t t' scan registers registers' k s c r ahead b pays p x reach
