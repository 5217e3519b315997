-- What is performed is a transition.
use Rattle.std.proofs.Common.{◌≡◌, ℕ, ◌+◌, inl, inr, true, false, refl, sym, ◌∙◌, ap, subst, List, Option, nat_le, arith}
use Rattle.std.proofs.lemmas.Bool.{cases_Bool, leb-true}
use Rattle.store_word.specs.Words.{Parts}
use Rattle.lisp_graph.specs.declared.command.Command.{Command}
use Rattle.lisp_graph.specs.declared.reply.Reply.{Reply}
use Rattle.lisp_graph.specs.Effect.{Effect}
use Rattle.mem_port.specs.Store.{Store}
use Rattle.area_space.specs.Table.{Table}
use Rattle.transporter.specs.lisp_meaning.State.{State, Phase, Idle, Running, Collection, aim_of, is_over, is_idle}
use Rattle.transporter.specs.lisp_meaning.Roles.{RoleMap}
use Rattle.transporter.specs.lisp_meaning.Sound.{Reach}
use Rattle.transporter.specs.lisp_meaning.Step.{Replied, Step, StepsBy, answer_of, counted_phase, with_over, with_over_phase, is_paid, scans as may_end, IsOverAfter}
use Rattle.scavenger.specs.Scan.{Scan}
use Rattle.heap_state.specs.Represents.{Represents}
use Rattle.heap_state.specs.RepresentsLater.{RepresentsLater}
use Rattle.heap_state.specs.Performs.{PerformsOn}
use Rattle.heap_state.specs.Wanting.{owed_wanting, paid_wanting}
use Rattle.heap_state.specs.Scans.{Scans, Sweeps}
use Rattle.heap_state.specs.StepsTo.{PaysAhead, StepsTo}
use Rattle.scavenger.specs.Laws.{CleanStays, UnitsStay}
use Rattle.heap_state.specs.Laws.{PerformsIsStep}
use Rattle.heap_state.proofs.RemainingUnits.{at_last}
use Rattle.heap_state.proofs.Phases.{none_more, wanted_phase}
use Rattle.heap_state.proofs.ScanChanges.{scanless_on, clean_on, work_on, preserves_work}

module _ (clean : CleanStays) (units : UnitsStay) (m m' : Store) (t t' : Table) (scan : Scan) (registers registers' : List Parts) (k : RoleMap) (s : State) (c : Command) (r : Reply)
    (b : Represents m t registers k s) (p : PerformsOn m t registers m' t' registers' c r k s) where
  -- what was swept is swept
  swept_on : (owed paid ahead : ℕ) (s' : State) (y : RepresentsLater m t m' t' registers' k s s' owed) (x : Collection) → s.phase ≡ Running x → s'.phase ≡ counted_phase owed paid (Running x) → paid ≡ ahead
      → Sweeps m t scan registers k s.store x ahead → Sweeps m' t' scan registers' y.map s'.store (record x { owed = x.owed + owed; paid = x.paid + paid }) 0
  swept_on owed paid ahead s' y x was is same w =
      record {
        clean = clean_on clean units m m' t t' scan registers registers' k s b (preserves_work p) owed s' y x w.clean;
        over = w.over;
        work = λ going. (let had = w.work going in let less = work_on clean units m m' t t' scan registers registers' k s b (preserves_work p) owed s' y x w.clean was (ap aim_of is) in omega arith);
      }

  scans_on : (owed paid ahead : ℕ) (s' : State) (y : RepresentsLater m t m' t' registers' k s s' owed) (q : Phase) → s.phase ≡ q → s'.phase ≡ counted_phase owed paid q → (is_idle q ≡ false → paid ≡ ahead)
      → Scans m t scan registers k s.store q ahead → Scans m' t' scan registers' y.map s'.store (counted_phase owed paid q) 0
  scans_on owed paid ahead s' y Idle was is same x = scanless_on clean units m m' t t' scan registers registers' k s b (preserves_work p) x
  scans_on owed paid ahead s' y (Running z) was is same x = swept_on owed paid ahead s' y z was is (same refl) x

  -- no transition that is performed ends a collection
  over_after : (owed paid : ℕ) (q : Phase) (after : State) (n : RoleMap) → after.phase ≡ counted_phase owed paid q → Scans m' t' scan registers' n after.store (counted_phase owed paid q) 0 → s.phase ≡ q → IsOverAfter s (may_end s c r) after (is_over q)
  over_after owed paid Idle after n is x was = record {
    stays = λ e. (let z = ap is_over was in cc);
    only_by = λ no yes. absurd cc;
    at_last = λ e. (let z = ap is_paid is in absurd cc);
  }
  over_after owed paid (Running z) after n is x was = record {
    stays = λ e. sym (ap is_over was) ∙ e;
    only_by = λ no yes. (let w = ap is_over was in absurd cc);
    at_last = λ e. elim (cases_Bool z.over) [
      | inl over ↦ over
      | inr going ↦
          let l = at_last m' t' scan registers' n after.store (record z { owed = z.owed + owed; paid = z.paid + paid }) x going in
          let q = ap is_paid is in
          let paid_is : nat_le (z.owed + owed) (z.paid + paid) ≡ true = sym q ∙ e in
          let h = leb-true (z.owed + owed) (z.paid + paid) paid_is in
          absurd (omega arith)
    ];
  }

  over_same : (q : Phase) (owed paid : ℕ) (after : State) → after.phase ≡ counted_phase owed paid q → after ≡ with_over (is_over q) after
  over_same Idle owed paid after is = sym (ap (λ (x : Phase). record after { phase = x }) (ap (with_over_phase false) is ∙ sym is))
  over_same (Running z) owed paid after is = sym (ap (λ (x : Phase). record after { phase = x }) (ap (with_over_phase z.over) is ∙ sym is))

  less : (q : Phase) (n : ℕ) → Scans m t scan registers k s.store q n → Scans m t scan registers k s.store q 0
  less Idle n w = w
  less (Running z) n w = record { clean = w.clean; over = w.over; work = λ going. (let h = w.work going in omega arith) }

  pub steps_to : (ahead : ℕ) → Scans m t scan registers k s.store s.phase ahead → Reach s s.phase → PaysAhead s c ahead → StepsTo m' t' scan registers' s c r
  steps_to ahead x reach pays = elim (p.performed) [
    | inl fault ↦
        let y = fault.2 in
        let none : s.phase ≡ counted_phase 0 0 s.phase = sym (none_more s.phase) in
        let scans = scans_on 0 0 0 s y s.phase refl none (λ e. refl) (less s.phase ahead x) in
        record {
          next = s;
          step = subst (λ (q : Reply). Step s c (Replied q) s) (sym fault.0) (inr (fault.1, (is_over s.phase, subst (λ (q : Reply). IsOverAfter s (may_end s c q) s (is_over s.phase)) fault.0 (over_after 0 0 s.phase s y.map none scans refl), refl, over_same s.phase 0 0 s none)));
          map = y.map;
          represents = y.represents;
          scans = subst (λ (q : Phase). Scans m' t' scan registers' y.map s.store q 0) (none_more s.phase) scans;
        }
    | inr done ↦
        let e = done.effect_of in
        let y = done.represented in
        let after = (answer_of s c e).1 in
        let is = wanted_phase s c e e.wanted in
        let owed = owed_wanting s c e e.wanted in
        let paid = paid_wanting s e.wanted in
        let scans = scans_on owed paid ahead after y s.phase refl is (λ i. sym (pays e done.is)) x in
        let over = over_after owed paid s.phase after y.map is scans refl in
        record {
          next = after;
          step = inl (subst (λ (o : Option Effect). StepsBy s c o (Replied r) after) (sym done.is)
              (is_over s.phase, subst (λ (q : Reply). IsOverAfter s (may_end s c q) after (is_over s.phase)) done.reply over, ap Replied done.reply, over_same s.phase owed paid after is));
          map = y.map;
          represents = y.represents;
          scans = subst (λ (q : Phase). Scans m' t' scan registers' y.map after.store q 0) (sym is) scans;
        }
  ]

pub performs_is_step : CleanStays → UnitsStay → PerformsIsStep
performs_is_step clean units m m' t t' scan registers registers' k s c r ahead b x reach pays p =
    steps_to clean units m m' t t' scan registers registers' k s c r b (record { performed = p.performed k s b reach; preserves = p.preserves; others = p.others; stays_fresh = p.stays_fresh; marks = p.marks; settled = p.settled }) ahead x reach pays
