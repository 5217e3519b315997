-- The state after several scans.
use Rattle.std.proofs.Common.{◌≡◌, ℕ, zero, suc, ◌+◌, ◌-◌, ◌*◌, ◌≤◌, inl, inr, Bool, true, false, refl, sym, ◌∙◌, ap, subst, List, Option, Some, None, nat_le, arith, rules}
use Rattle.std.specs.Prelude.{is_some, not, if◌then◌else◌, Result, Ok, Err, OnOk}
use Rattle.std.proofs.lemmas.Bool.{cases_Bool, leb-true}
use Rattle.store_word.specs.Words.{Parts}
use Rattle.lisp_graph.specs.declared.command.Command.TheVariants as C
use Rattle.lisp_graph.specs.declared.reply.Reply.{Reply}
use Rattle.lisp_graph.specs.declared.reply.Reply.TheVariants as R
use Rattle.mem_port.specs.Store.{Store}
use Rattle.area_space.specs.Table.{Table}
use Rattle.heap_state.specs.lisp_meaning.State.{Condemned, Collection, Phase, Idle, Running, State, aim_of, is_over}
use Rattle.heap_state.specs.lisp_meaning.Roles.{RoleMap}
use Rattle.heap_state.specs.lisp_meaning.Sound.{Reach}
use Rattle.heap_state.specs.lisp_meaning.Step.{Replied, Scavenges, IsOverAfter, counted, counted_phase, is_paid, with_over, with_over_phase}
use Rattle.heap_state.specs.lisp_ground.GroundInvariant.{GroundInvariant}
use Rattle.heap_state.specs.lisp_meaning.Interpretation.{interpretation}
use Rattle.heap_state.specs.lisp_ground.After.{old_on}
use Rattle.heap_state.specs.transporter.Moving.{none as nothing_moves}
use Rattle.scavenger.specs.Scan.{Scan}
use Rattle.scavenger.specs.Collecting.{Collects}
use Rattle.scavenger.specs.Scanning.{CollectsOn, StillCollects as StillCollectsOn}
use Rattle.scavenger.specs.Views.{ScansUpTo, StillCollects}
use Rattle.heap_state.specs.HasScannedAhead.{HasScannedAhead, ScansAhead, SweepsAhead}
use Rattle.heap_state.specs.PhaseAgrees.{PhaseAgrees}
use Rattle.heap_state.specs.Represents.{Represents}
use Rattle.heap_state.specs.RepresentsAll.{RepresentsAll}
use Rattle.heap_state.specs.RepresentsLater.{RepresentsLater}
use Rattle.heap_state.specs.Scans.{Scans, Sweeps}
use Rattle.heap_state.specs.StepsTo.{StepsTo}
use Rattle.heap_state.proofs.AllocationTransitions.{fault_is_step}
use Rattle.heap_state.proofs.RemainingUnits.{some_left}
use Rattle.heap_state.proofs.transporter.PageMarks.{marks-read}
use Rattle.heap_state.proofs.transporter.LiveObjects.{grows-same}
use Rattle.heap_state.proofs.transporter.TransportSequences.{same-stores}
use Rattle.heap_collect.specs.Amounts.{Amount, RepresentsAhead, ScansOn, ScansUnits}
use Rattle.heap_collect.specs.MachineView.{MachineView}
use Rattle.heap_collect.specs.Moments.{RepresentsMachineState}
use Rattle.heap_collect.proofs.InitialUnits.{many_begun}

-- Whether a collection runs

some_none : {A : Type 0} (x : A) → Some x ≡ None → ⊥
some_none x e = cc

pub some_of : {A : Type 0} (o r : Option A) (b : Bool) → r ≡ o → is_some r ≡ not b → b ≡ false → o ≡ None → ⊥
some_of o r b same is isnt none = let x : is_some r ≡ false = ap is_some (same ∙ none) in let y : not b ≡ true = ap not isnt in let z : false ≡ true = sym x ∙ is ∙ y in cc

pub none_of : {A : Type 0} (o r : Option A) (b : Bool) → r ≡ o → is_some r ≡ not b → b ≡ true → o ≡ None
none_of None r b same is told = refl
none_of (Some x) r b same is told = let y : is_some r ≡ true = ap is_some same in let z : not b ≡ false = ap not told in let w : true ≡ false = sym y ∙ is ∙ z in cc

-- if none runs in the table none does in the state
pub idle_phase : (t : Table) (p : Phase) → PhaseAgrees t p → t.aim ≡ None → p ≡ Idle
idle_phase t Idle a none = refl
idle_phase t (Running c) a none = absurd (some_none c.aim.what (sym a ∙ none))

pub running_phase : (t : Table) (p : Phase) → PhaseAgrees t p → (t.aim ≡ None → ⊥) → (c : Collection) × (p ≡ Running c)
running_phase t Idle a some = absurd (some a.0)
running_phase t (Running c) a some = (c, refl)

-- Nothing is scanned

pub nothing_scanned : {v : MachineView} → ScansOn v v
nothing_scanned {v} = record {
  some = omega arith;
  over = λ over. over;
  units = omega arith;
  placed = omega arith;
  moves = record { count = 0; few = omega arith; moves = nothing_moves };
  marks = marks-read v.ground.table same-stores;
  registers = search rules;
  table = grows-same;
}

pub over_while_idle : (m : Store) (t : Table) (scan : Scan) (registers : List Parts) (k : RoleMap) (s : State) → RepresentsAll m t scan registers k s → s.phase ≡ Idle → scan.over ≡ true
over_while_idle m t scan registers k s x idle = (subst (λ (p : Phase). Scans m t scan registers k s.store p 0) idle x.scans).over

idle_ahead : (m : Store) (t : Table) (scan : Scan) (registers : List Parts) (k : RoleMap) (s : State) (ahead : ℕ) → t.aim ≡ None → RepresentsAll m t scan registers k s → HasScannedAhead m t m t scan registers k s ahead
idle_ahead m t scan registers k s ahead none x =
    let idle = idle_phase t s.phase x.represents.aims none in
    record {
      represented = record { map = k; represents = x.represents; refines = λ kind a n is. is; work = omega arith };
      scans = subst (λ (p : Phase). ScansAhead m t scan registers k s.store p ahead) (sym idle) (subst (λ (p : Phase). Scans m t scan registers k s.store p 0) idle x.scans);
    }

all_done : (scan : Scan) (limit : ℕ) → scan.over ≡ true → Amount scan scan limit
all_done scan zero over = inl (omega arith)
all_done scan (suc n) over = inr (omega arith, over)

-- while no collection runs, that is all
pub idle_units : {v : MachineView} {limit steps : ℕ} → RepresentsMachineState v.ground.mem.store v.ground.table v.scan v.registers → v.ground.table.aim ≡ None → ScansUnits v v limit steps steps
idle_units {v} {limit} {steps} x none = record {
  ahead = λ k s y. idle_ahead v.ground.mem.store v.ground.table v.scan v.registers k s limit none y;
  order = λ some. absurd (some none);
  count = all_done v.scan limit (over_while_idle v.ground.mem.store v.ground.table v.scan v.registers x.map x.state x.represents (idle_phase v.ground.table x.state.phase x.represents.represents.aims none));
  begun = refl;
  at_most = omega arith;
  cost = omega arith;
}

-- Before

module _ (m : Store) (t : Table) (scan : Scan) (registers : List Parts) (k : RoleMap) (s : State) (c : Collection) (x : RepresentsAll m t scan registers k s) (running : s.phase ≡ Running c) where
  pub sweeps_of : Sweeps m t scan registers k s.store c 0
  sweeps_of = subst (λ (p : Phase). Scans m t scan registers k s.store p 0) running x.scans

  pub collects_of : Collects m t scan registers (record (interpretation k s) { aim = c.aim }) s.registers
  collects_of = record {
    kept = subst (λ (p : Phase). GroundInvariant m t (record (interpretation k s) { aim = aim_of p })) running x.represents.kept;
    count = x.represents.count;
    means = x.represents.means;
    running = subst (λ (p : Phase). PhaseAgrees t p) running x.represents.aims;
    reaches = subst (λ (p : Phase). Reach s p) running x.reach;
    clean = sweeps_of.clean;
  }

-- After

module _ (m m' : Store) (t t' : Table) (scan scan' : Scan) (registers registers' : List Parts) (fallen : ℕ) (still : StillCollectsOn m t scan registers m' t' scan' registers' fallen) (stays : scan.over ≡ true → scan'.over ≡ true) where
  module _ (k : RoleMap) (s : State) (c : Collection) (x : RepresentsAll m t scan registers k s) (running : s.phase ≡ Running c) where
    on : CollectsOn m t scan registers m' t' scan' registers' (record (interpretation k s) { aim = c.aim }) s.registers fallen
    on = still (record (interpretation k s) { aim = c.aim }) s.registers (collects_of m t scan registers k s c x running)

    aim_is : aim_of s.phase ≡ c.aim
    aim_is = ap aim_of running

    represented_here : RepresentsLater m t m' t' registers' k s s 0
    represented_here =
        let after : old_on m' t' s.store (aim_of s.phase) on.map.at ≡ old_on m' t' s.store c.aim on.map.at = ap (λ (a : Condemned). old_on m' t' s.store a on.map.at) aim_is in
        let before : old_on m t s.store (aim_of s.phase) k.at ≡ old_on m t s.store c.aim k.at = ap (λ (a : Condemned). old_on m t s.store a k.at) aim_is in
        let moves = on.moves in
        record {
          map = on.map;
          represents = record {
            kept = subst (λ (a : Condemned). GroundInvariant m' t' (record (interpretation on.map s) { aim = a })) (sym aim_is) on.collects.kept;
            count = on.collects.count;
            means = on.collects.means;
            aims = subst (λ (p : Phase). PhaseAgrees t' p) (sym running) on.collects.running;
          };
          refines = on.refines;
          work = omega arith;
        }

    swept : (ahead : ℕ) → (scan'.over ≡ false → ahead ≤ fallen) → SweepsAhead m' t' scan' registers' on.map s.store c ahead
    swept ahead enough =
        let w = sweeps_of m t scan registers k s c x running in
        let going : scan'.over ≡ false → c.over ≡ false = λ still_going. elim (cases_Bool c.over) [
          | inl over ↦ absurd (let a = stays (w.over ∙ over) in cc)
          | inr not ↦ not
        ] in
        record {
          clean = on.collects.clean;
          over = λ over. stays (w.over ∙ over);
          work = λ still_going. (let had = w.work (going still_going) in let moves = on.moves in let units = on.units in let few = enough still_going in omega arith);
        }

    ahead_here : (ahead : ℕ) → (scan'.over ≡ false → ahead ≤ fallen) → HasScannedAhead m t m' t' scan' registers' k s ahead
    unfolding represented_here on
    ahead_here ahead enough = record {
      represented = represented_here;
      scans = subst (λ (p : Phase). ScansAhead m' t' scan' registers' on.map s.store p ahead) (sym running) (swept ahead enough);
    }

  pub scanned_ahead : (t.aim ≡ None → ⊥) → (ahead : ℕ) → (scan'.over ≡ false → ahead ≤ fallen) → (k : RoleMap) (s : State) → RepresentsAll m t scan registers k s → HasScannedAhead m t m' t' scan' registers' k s ahead
  scanned_ahead some ahead enough k s x =
      let c = running_phase t s.phase x.represents.aims some in
      ahead_here k s c.0 x c.1 ahead enough

-- `scavenge`

pub phase_represents : (m : Store) (t : Table) (registers : List Parts) (k : RoleMap) (s : State) (q : Phase) → Represents m t registers k s → PhaseAgrees t q → aim_of q ≡ aim_of s.phase → Represents m t registers k (record s { phase = q })
phase_represents m t registers k s q b aims same = record {
  kept = subst (λ (a : Condemned). GroundInvariant m t (record (interpretation k s) { aim = a })) (sym same) b.kept;
  count = b.count;
  means = b.means;
  aims = aims;
}

module _ (m : Store) (t : Table) (scan : Scan) (registers : List Parts) (k : RoleMap) (s : State) (c : Collection) (count : ℕ) (b : Represents m t registers k s) (running : s.phase ≡ Running c) (w : SweepsAhead m t scan registers k s.store c count) where
  abbrev after : State
  after = counted 0 count s

  abbrev counts : Collection
  counts = record c { owed = c.owed + 0; paid = c.paid + count }

  after_runs : after.phase ≡ Running counts
  after_runs = ap (counted_phase 0 count) running

  over_after : IsOverAfter s true after scan.over
  over_after = record {
    stays = λ over. w.over (sym (ap is_over running) ∙ over);
    only_by = λ no yes. refl;
    at_last = λ paid. elim (cases_Bool scan.over) [
      | inl over ↦ over
      | inr going ↦
          let few : nat_le counts.owed counts.paid ≡ true = sym (ap is_paid after_runs) ∙ paid in
          let le = leb-true counts.owed counts.paid few in
          let a = w.work going in
          let some = some_left m t scan registers w.clean going in
          absurd (omega arith)
    ];
  }

  ends_as : with_over_phase scan.over after.phase ≡ Running (record counts { over = scan.over })
  ends_as = ap (with_over_phase scan.over) after_runs

  pub scavenged : (r : Reply) → r ≡ (if scan.over then R.Done else R.More) → StepsTo m t scan registers s (C.Scavenge count) r
  scavenged r is = record {
    next = with_over scan.over after;
    step = inl (subst (λ (p : Phase). Scavenges s p count (Replied r) (with_over scan.over after)) (sym running) (scan.over, over_after, ap Replied is, refl));
    map = k;
    represents = phase_represents m t registers k s (with_over_phase scan.over after.phase) b (subst (λ (p : Phase). PhaseAgrees t p) (sym ends_as) (subst (λ (p : Phase). PhaseAgrees t p) running b.aims)) (ap aim_of ends_as ∙ sym (ap aim_of running));
    scans = subst (λ (p : Phase). Scans m t scan registers k s.store p 0) (sym ends_as) (record { clean = w.clean; over = refl; work = λ going. (let a = w.work going in omega arith) });
  }

-- the reply, by what was scanned ahead
module _ {m m' : Store} {t t' : Table} {scan' : Scan} {registers' : List Parts} {k : RoleMap} {s : State} {ahead : ℕ} (x : HasScannedAhead m t m' t' scan' registers' k s ahead) where
  pub scavenges : {count : ℕ} {r : Reply} → ahead ≡ count → (t'.aim ≡ None → ⊥) → r ≡ (if scan'.over then R.Done else R.More) → StepsTo m' t' scan' registers' s (C.Scavenge count) r
  scavenges {count} {r} same some is =
      let c = running_phase t' s.phase x.represented.represents.aims some in
      let sweeps = subst (λ (p : Phase). ScansAhead m' t' scan' registers' x.represented.map s.store p ahead) c.1 x.scans in
      subst (λ (n : ℕ). StepsTo m' t' scan' registers' s (C.Scavenge n) r) same (scavenged m' t' scan' registers' x.represented.map s c.0 ahead x.represented.represents c.1 sweeps r is)

  pub scavenges_none : {count : ℕ} → t'.aim ≡ None → StepsTo m' t' scan' registers' s (C.Scavenge count) R.NotFlipped
  scavenges_none {count} none =
      let idle = idle_phase t' s.phase x.represented.represents.aims none in
      record {
        next = s;
        step = inl (subst (λ (p : Phase). Scavenges s p count (Replied R.NotFlipped) s) (sym idle) (refl, refl));
        map = x.represented.map;
        represents = x.represented.represents;
        scans = subst (λ (p : Phase). Scans m' t' scan' registers' x.represented.map s.store p 0) (sym idle) (subst (λ (p : Phase). ScansAhead m' t' scan' registers' x.represented.map s.store p ahead) idle x.scans);
      }

  pub faulted_ahead : {count : ℕ} → StepsTo m' t' scan' registers' s (C.Scavenge count) R.Fault
  faulted_ahead {count} = fault_is_step m' t' scan' registers' x.represented.map s (C.Scavenge count) ahead x.represented.represents x.scans refl refl

-- The scan of a collection that runs

-- the units that are scanned ahead
enough : (old new : Scan) (limit : ℕ) → old.done ≤ new.done → Amount old new limit → new.over ≡ false → limit ≤ new.done - old.done
enough old new limit some (inl e) going = omega arith
enough old new limit some (inr y) going = absurd (let a = y.1 in cc)

module _ (old new : MachineView) (still : StillCollects old.ground old.scan old.registers new.ground new.scan new.registers (new.scan.done - old.scan.done)) (over : old.scan.over ≡ true → new.scan.over ≡ true) (runs : old.ground.table.aim ≡ None → ⊥) where
  ahead : (limit : ℕ) → (new.scan.over ≡ false → limit ≤ new.scan.done - old.scan.done) → RepresentsAhead old new limit
  ahead = scanned_ahead old.ground.mem.store new.ground.mem.store old.ground.table new.ground.table old.scan new.scan old.registers new.registers (new.scan.done - old.scan.done) still over runs

  pub stopped_ahead : RepresentsAhead old new 0
  stopped_ahead = ahead 0 (λ going. omega arith)

  pub scanned_units : {A E : Type 0} (limit before after : ℕ) (r : Result A E) → old.scan.done ≤ new.scan.done → OnOk r (ScansUpTo old.ground old.scan old.registers new.ground new.scan new.registers limit) → OnOk r (Amount old.scan new.scan limit)
      → OnOk r (new.ground.table.placed ≤ old.ground.table.placed + 2048 * (new.scan.done - old.scan.done)) → OnOk r (after ≤ before + 4 * (new.ground.table.placed - old.ground.table.placed) + 48 * (new.scan.done - old.scan.done)) → OnOk r (ScansUnits old new limit before after)
  scanned_units limit _ _ (Ok a) some order count few cost = record {
    ahead = ahead limit (enough old.scan new.scan limit some count);
    order = λ _. order;
    count = count;
    begun = many_begun _ _ _ _ _ _ _ _ order.count order.many;
    at_most = few;
    cost = cost;
  }
  scanned_units _ _ _ (Err e) some order count few cost = tt
