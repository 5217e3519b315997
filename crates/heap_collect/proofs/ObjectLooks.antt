-- An allocation that looks at an object before it requests words.
use Rattle.std.proofs.Common.{◌≡◌, ◌≢◌, ◌*◌, inl, inr, refl, sym, ◌∙◌, ap, subst, List, Option, Some, None, arith}
use Rattle.store_word.specs.Words.{Parts}
use Rattle.lisp_graph.specs.declared.command.Command.{Command}
use Rattle.lisp_graph.specs.declared.reply.Reply.{Reply}
use Rattle.lisp_graph.specs.declared.reply.Reply.TheVariants as R
use Rattle.lisp_graph.specs.Effect.{Effect, Wanted, effect}
use Rattle.mem_port.specs.Store.{MarksHold, Store}
use Rattle.area_space.specs.Table.{Table}
use Rattle.heap_state.specs.lisp_meaning.State.{Idle, Phase, Running, State, aim_of}
use Rattle.heap_state.specs.lisp_meaning.Flip.{graph_of}
use Rattle.heap_state.specs.lisp_meaning.Roles.{RoleMap}
use Rattle.heap_state.specs.lisp_meaning.Step.{wanted_by}
use Rattle.heap_state.specs.transporter.Preserving.{NoOldAddresses, RegistersPreserved, PreservesScanned}
use Rattle.scavenger.specs.Laws.{CleanStays, UnitsStay}
use Rattle.scavenger.specs.Scan.{Scan}
use Rattle.heap_state.specs.HasScannedAhead.{HasScannedAhead, ScansAhead}
use Rattle.heap_state.specs.RepresentsAll.{RepresentsAll}
use Rattle.heap_state.specs.RepresentsLater.{RepresentsLater}
use Rattle.heap_state.specs.Laws.{AllocationIsStep, PerformsIsStep}
use Rattle.heap_state.specs.Performs.{FaultsOn, Performs}
use Rattle.heap_state.specs.Scans.{Scans}
use Rattle.heap_state.specs.Settled.{NoOldAddressesInRegisters}
use Rattle.heap_state.specs.StepsTo.{StepsTo}
use Rattle.heap_state.specs.Wanting.{paid_wanting}
use Rattle.heap_state.proofs.Allocations.{fits_quota, quota_left}
use Rattle.heap_state.proofs.ScanChanges.{PreservesWork, clean_on, scanless_on, work_on}
use Rattle.heap_collect.specs.Admitting.{Wants}
use Rattle.heap_collect.specs.Laws.{AdmittedCommandIsStep, StandsAfterLook, UnaskedIsStep}
use Rattle.heap_collect.proofs.Admissions.{fault_steps, wanted_of}

-- After a look

module _ (clean : CleanStays) (units : UnitsStay) (m m' : Store) (t t' : Table) (scan : Scan) (registers registers' : List Parts) (k : RoleMap) (s : State) (b : RepresentsAll m t scan registers k s)
    (preserves : PreservesScanned m t m' t') (others : RegistersPreserved t' registers registers') (stays_fresh : NoOldAddressesInRegisters t registers → NoOldAddresses m t → NoOldAddresses m' t') (x : RepresentsLater m t m' t' registers' k s s 0) where
  tended : PreservesWork m t registers m' t' registers'
  tended = record { preserves = preserves; others = others; stays_fresh = stays_fresh }

  scans_there : (p : Phase) → s.phase ≡ p → Scans m t scan registers k s.store p 0 → Scans m' t' scan registers' x.map s.store p 0
  scans_there Idle was y = scanless_on clean units m m' t t' scan registers registers' k s b.represents tended y
  scans_there (Running c) was y = record {
    clean = clean_on clean units m m' t t' scan registers registers' k s b.represents tended 0 s x c y.clean;
    over = y.over;
    work = λ going. (let had = y.work going in let less = work_on clean units m m' t t' scan registers registers' k s b.represents tended 0 s x c y.clean was (ap aim_of was) in omega arith);
  }

  pub stands_there : MarksHold m' → RepresentsAll m' t' scan registers' x.map s
  stands_there marks = record { represents = x.represents; scans = scans_there s.phase refl b.scans; reach = b.reach; marks = marks }

  none_ahead : (p : Phase) → Scans m' t' scan registers' x.map s.store p 0 → ScansAhead m' t' scan registers' x.map s.store p 0
  none_ahead Idle y = y
  none_ahead (Running c) y = record { clean = y.clean; over = λ over. y.over ∙ over; work = λ going. y.work (sym y.over ∙ going) }

  pub ahead_there : HasScannedAhead m t m' t' scan registers' k s 0
  ahead_there = record { represented = x; scans = none_ahead s.phase (scans_there s.phase refl b.scans) }

pub stands_after_look : CleanStays → UnitsStay → StandsAfterLook
stands_after_look clean units m m' t t' scan registers registers' k s b marks preserves others stays_fresh x = stands_there clean units m m' t t' scan registers registers' k s b preserves others stays_fresh x marks

-- Before words are requested

wants_of : (s : State) (c : Command) (w : Wanted) (o : Option Effect) → effect (graph_of s) c ≡ o → wanted_by o ≡ Some w → Wants s c w.area w.charge
wants_of s c w None is e = absurd (let x : None ≡ Some w = e in cc)
wants_of s c w (Some x) is e = record { effect_of = x; is = is; wanted = e }

module _ (clean : CleanStays) (units : UnitsStay) (law : PerformsIsStep) (m m' : Store) (t t' : Table) (scan : Scan) (registers registers' : List Parts) (k : RoleMap) (s : State) (c : Command) (r : Reply)
    (b : RepresentsAll m t scan registers k s) (p : Performs m t registers m' t' registers' c r) where
  unasked : wanted_by (effect (graph_of s) c) ≡ None → StepsTo m' t' scan registers' s c r
  unasked none = law m m' t t' scan registers registers' k s c r 0 b.represents b.scans b.reach (λ e is. sym (ap (paid_wanting s) (sym (ap wanted_by is) ∙ none))) p

  -- a swap error
  failed : (o : Option Wanted) → wanted_by (effect (graph_of s) c) ≡ o → FaultsOn m t m' t' registers' c r k s → StepsTo m' t' scan registers' s c r
  failed None is f = unasked is
  failed (Some w) is f =
      subst (λ (q : Reply). StepsTo m' t' scan registers' s c q) (sym f.0)
      (fault_steps m t scan registers k s c w.area w.charge b (wants_of s c w (effect (graph_of s) c) refl is) m' t' scan registers' f.1
      (ahead_there clean units m m' t t' scan registers registers' k s b p.preserves p.others p.stays_fresh f.2))

  pub steps_unasked : (r ≢ R.Fault → wanted_by (effect (graph_of s) c) ≡ None) → StepsTo m' t' scan registers' s c r
  steps_unasked none = elim (p.performed k s b.represents b.reach) [
    | inl f ↦ failed (wanted_by (effect (graph_of s) c)) refl f
    | inr a ↦ unasked (none a.sure)
  ]

pub unasked_is_step : CleanStays → UnitsStay → PerformsIsStep → UnaskedIsStep
unasked_is_step clean units law m m' t t' scan registers registers' k s c r b none p = steps_unasked clean units law m m' t t' scan registers registers' k s c r b p none

-- After words were granted

pub admitted_play_is_step : AllocationIsStep → AdmittedCommandIsStep
admitted_play_is_step law m m1 m' t t1 t' scan scan1 registers registers1 registers' k s c r area charge x w area_in ahead left performs =
    let b = ahead.represented.represents in
    let fits = fits_quota s area 0 charge (quota_left m1 t1 registers1 ahead.represented.map s area 0 charge b area_in (omega arith) left) in
    law m1 m' t1 t' scan1 registers1 registers' ahead.represented.map s c r (s.space.rate * charge) b ahead.scans x.reach
    (record { effect_of = w.effect_of; is = w.is; wanted = wanted_of area charge; wants = w.wanted; fits = fits; ahead_is = refl })
    (record { performed = performs.performed ahead.represented.map s b x.reach; preserves = performs.preserves; others = performs.others; stays_fresh = performs.stays_fresh; marks = performs.marks; settled = performs.settled })
