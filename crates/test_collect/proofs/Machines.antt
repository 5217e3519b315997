-- The machine represents some state after each call.
use Rattle.std.proofs.Common.{◌≡◌, ◌≢◌, ℕ, ◌*◌, ◌<◌, inl, inr, refl, sym, ◌∙◌, ap, subst, arith, Bool, true, false, List, length, get_or, Option, Some, None}
use Rattle.std.specs.Prelude.{IfNone, IfSome, MatchBool, Vec}
use Rattle.std.specs.Vec.{with_items}
use Rattle.std.proofs.lemmas.Bool.{cond_both}
use Rattle.std.proofs.lemmas.List.{get_or_default, with_items_is}
use Rattle.store_word.specs.Words.{Parts}
use Rattle.store_word.specs.declared.space.Space.{Space}
use Rattle.lisp_graph.specs.declared.command.Command.{Command}
use Rattle.lisp_graph.specs.declared.command.Command.TheVariants as C
use Rattle.lisp_graph.specs.declared.command.Condemn.{Condemn}
use Rattle.lisp_graph.specs.declared.reply.Reply.{Reply}
use Rattle.lisp_graph.specs.declared.reply.Reply.TheVariants as R
use Rattle.lisp_graph.specs.declared.world.AreaRule.{AreaRule}
use Rattle.lisp_graph.specs.Effect.{Effect, Wanted, effect}
use Rattle.mem_port.specs.Store.{MarksHold, Store, StoresNothing}
use Rattle.area_space.specs.Table.{Table}
use Rattle.heap_state.specs.lisp_meaning.State as M
use Rattle.heap_state.specs.lisp_meaning.State.{Collection, Phase, Idle, Running, State, new_level, no_rule, rule_of}
use Rattle.heap_state.specs.lisp_meaning.Flip.{Settles, flipped, graph_of}
use Rattle.heap_state.specs.lisp_meaning.Roles.{RoleMap}
use Rattle.heap_state.specs.lisp_meaning.Sound.{IsAllowed}
use Rattle.heap_state.specs.lisp_meaning.Step.{Answer, Replied, Ends, Reclaims, Scavenges, Step, StepsBy, answer_of, answer_wanting, counted, exceeds, exhausted, with_over}
use Rattle.scavenger.specs.Scan.{Scan}
use Rattle.scavenger.specs.Collecting.{ScanInvariant}
use Rattle.heap_state.specs.HasScannedAhead.{ScansAhead}
use Rattle.heap_state.specs.Consistent.{RepresentsState}
use Rattle.heap_state.specs.RepresentsAll.{RepresentsAll}
use Rattle.heap_state.specs.Laws.{AllocationIsStep, PerformsIsStep, StepsRepresent}
use Rattle.heap_state.specs.Scans.{Scans}
use Rattle.heap_state.specs.StepsTo.{PaysAhead, PaysFor, StepsTo}
use Rattle.heap_state.specs.Wanting.{paid_wanting}
use Rattle.heap_state.proofs.Allocations.{fits_quota, quota_left}
use Rattle.heap_collect.specs.Moments.{RepresentsMachineState, StandsForSome}
use Rattle.heap_collect.proofs.Phases.{stands_for_some}
use Rattle.heap_collect.proofs.ScanSequences.{running_phase}
use Rattle.test_collect.specs.Machines.{IsMachine, IsMade, IsPlayed}
use Rattle.test_collect.proofs.PerformedCommands.{unplayed}

-- Transitions change neither the sizes nor the areas

record SameWorld (s new : State) : Type 0 where
  space : new.space ≡ s.space
  areas : new.areas ≡ s.areas

same_after : (s mid new : State) → new ≡ mid → SameWorld s mid → SameWorld s new
same_after s mid new e x = record { space = ap (λ (y : State). y.space) e ∙ x.space; areas = ap (λ (y : State). y.areas) e ∙ x.areas }

same_answer : (s : State) (c : Command) (e : Effect) (w : Option Wanted) → SameWorld s (answer_wanting s c e w).1
same_answer s c e None = record { space = refl; areas = refl }
same_answer s c e (Some w) = cond_both (exceeds s w) (exhausted s w, s) _ (λ (x : Reply × State). SameWorld s x.1) (λ t. record { space = refl; areas = refl }) (λ t. record { space = refl; areas = refl })

same_end : (s : State) (c : Command) (r : Reply) (mid : State) (a : Answer) (new : State) → SameWorld s mid → Ends s c r mid a new → SameWorld s new
same_end s c r mid a new x e = same_after s (with_over e.0 mid) new e.3 (record { space = x.space; areas = x.areas })

same_step : (s : State) (c : Command) (a : Answer) (new : State) (e : Effect) → effect (graph_of s) c ≡ Some e → Step s c a new → SameWorld s new
same_step s c a new e is (inl x) = same_end s c (answer_of s c e).0 (answer_of s c e).1 a new (same_answer s c e e.wanted) (subst (λ (o : Option Effect). StepsBy s c o a new) is x)
same_step s c a new e is (inr x) = same_end s c R.Fault s a new (record { space = refl; areas = refl }) x.1

same_scan : (s : State) (p : Phase) (count : ℕ) (a : Answer) (new : State) → Scavenges s p count a new → SameWorld s new
same_scan s Idle count a new x = same_after s s new x.1 (record { space = refl; areas = refl })
same_scan s (Running c) count a new x = same_after s (with_over x.0 (counted 0 count s)) new x.3 (record { space = refl; areas = refl })

same_scavenge : (s : State) (count : ℕ) (a : Answer) (new : State) → Step s (C.Scavenge count) a new → SameWorld s new
same_scavenge s count a new (inl x) = same_scan s s.phase count a new x
same_scavenge s count a new (inr x) = same_end s (C.Scavenge count) R.Fault s a new (record { space = refl; areas = refl }) x.1

same_settled : (s : State) (c : Collection) (a : Answer) (new : State) (over : Bool) → MatchBool over ((a ≡ Replied R.Reclaimed) × Settles s c.aim new) ((a ≡ Replied R.NotDone) × (new ≡ s)) → SameWorld s new
same_settled s c a new true x = record { space = x.1.space; areas = x.1.areas }
same_settled s c a new false x = same_after s s new x.1 (record { space = refl; areas = refl })

same_end_of : (s : State) (p : Phase) (a : Answer) (new : State) → Reclaims s p a new → SameWorld s new
same_end_of s Idle a new x = same_after s s new x.1 (record { space = refl; areas = refl })
same_end_of s (Running c) a new x = same_settled s c a new c.over x

same_reclaim : (s : State) (a : Answer) (new : State) → Step s C.Reclaim a new → SameWorld s new
same_reclaim s a new (inl x) = same_end_of s s.phase a new x
same_reclaim s a new (inr x) = same_end s C.Reclaim R.Fault s a new (record { space = refl; areas = refl }) x.1

-- What is paid if an allocation scans nothing

no_product : (rate charge : ℕ) → rate ≡ 0 → rate * charge ≡ 0
no_product rate charge none = let zero_is : 0 * charge ≡ 0 = omega arith in ap (λ (n : ℕ). n * charge) none ∙ zero_is

pays_none : (s : State) (w : Option Wanted) → s.space.rate ≡ 0 → paid_wanting s w ≡ 0
pays_none s None rate = refl
pays_none s (Some w) rate = cond_both (exceeds s w) 0 (s.space.rate * w.charge) (λ (n : ℕ). n ≡ 0) (λ t. refl) (λ t. no_product s.space.rate w.charge rate)

pays : (s : State) (c : Command) → s.space.rate ≡ 0 → PaysAhead s c 0
pays s c rate e is = sym (pays_none s e.wanted rate)

scans_ahead : (m : Store) (t : Table) (scan : Scan) (registers : List Parts) (k : RoleMap) (s : M.Store) (p : Phase) → Scans m t scan registers k s p 0 → ScansAhead m t scan registers k s p 0
scans_ahead m t scan registers k s Idle x = x
scans_ahead m t scan registers k s (Running c) x = record { clean = x.clean; over = λ over. x.over ∙ over; work = λ going. x.work (sym x.over ∙ going) }

module _ {m : Store} {t : Table} {scan : Scan} {registers : List Parts} {areas : List AreaRule} (x : IsMachine m t scan registers areas) where
  pub standing : RepresentsMachineState m t scan registers
  standing = record { map = x.map; state = x.state; represents = x.represents }

  pub consistent : RepresentsState m t registers
  consistent = record { map = x.map; state = x.state; represents = x.represents.represents; reach = x.represents.reach; some = subst (λ (rules : List AreaRule). 0 < length rules) (sym x.areas_are) x.some }

  with_state : {m' : Store} {t' : Table} {scan' : Scan} {registers' : List Parts} (k : RoleMap) (new : State) → RepresentsAll m' t' scan' registers' k new → SameWorld x.state new → length registers' ≡ length registers → IsMachine m' t' scan' registers' areas
  with_state k new represents same count = record {
    map = k;
    state = new;
    represents = represents;
    areas_are = same.areas ∙ x.areas_are;
    some = x.some;
    rate = ap (λ (sp : Space). sp.rate) same.space ∙ x.rate;
    eight = ap (λ (sp : Space). sp.registers) same.space ∙ x.eight;
    count = count ∙ x.count;
  }

  -- after a transition
  stepped : {m' : Store} {t' : Table} {scan' : Scan} {registers' : List Parts} (c : Command) (r : Reply) → StepsRepresent → MarksHold m' → IsAllowed c → (y : StepsTo m' t' scan' registers' x.state c r)
      → SameWorld x.state y.next → length registers' ≡ length registers → IsMachine m' t' scan' registers' areas
  stepped {m'} {t'} {scan'} {registers'} c r law marks allowed y same count =
      with_state y.map y.next (law m m' t t' scan scan' registers registers' x.map x.state c r x.represents (let e = x.eight in omega arith) allowed y marks) same count

  -- after a command that was performed
  pub performed_machine : {m' : Store} {t' : Table} {registers' : List Parts} → PerformsIsStep → StepsRepresent → MarksHold m' → IsPlayed m t registers m' t' registers' → IsMachine m' t' scan registers' areas
  performed_machine {m'} {t'} {registers'} law bear marks p =
      let y = law m m' t t' scan registers registers' x.map x.state p.command p.reply 0 x.represents.represents x.represents.scans x.represents.reach (pays x.state p.command x.rate) p.performs in
      let e = p.acts x.state in
      stepped p.command p.reply bear marks p.allowed y (same_step x.state p.command (Replied p.reply) y.next e.0 e.1 y.step) p.performs.others.count

  -- after a maker
  pub made_machine : {m' : Store} {t' : Table} {registers' : List Parts} (area level : ℕ) (reply : Reply) → AllocationIsStep → StepsRepresent → MarksHold m' → level ≡ new_level (rule_of areas area).kind → IsMade m t registers m' t' registers' area level reply
      → IsMachine m' t' scan registers' areas
  made_machine {m'} {t'} {registers'} area level reply law bear marks is p =
      let s = x.state in
      let at : level ≡ new_level (rule_of s.areas area).kind = is ∙ sym (ap (λ (rules : List AreaRule). new_level (rule_of rules area).kind) x.areas_are) in
      let w = p.wants s in
      let pays_for : PaysFor s p.command 0 = record {
        effect_of = w.effect_of;
        is = w.is;
        wanted = record { area = area; charge = p.charge };
        wants = w.wanted;
        fits = fits_quota s area level p.charge (quota_left m t registers x.map s area level p.charge x.represents.represents p.room.area_in p.room.level_in p.room.left);
        ahead_is = sym (no_product s.space.rate p.charge x.rate);
      } in
      let on = p.performs x.map s x.represents.represents x.represents.reach at in
      let y = law m m' t t' scan registers registers' x.map s p.command reply 0 x.represents.represents (scans_ahead m t scan registers x.map s.store s.phase x.represents.scans) x.represents.reach pays_for on in
      stepped p.command reply bear marks p.allowed y (same_step s p.command (Replied reply) y.next w.effect_of w.is y.step) on.others.count

  -- after a scan
  pub scanned_machine : {m' : Store} {t' : Table} {scan' : Scan} {registers' : List Parts} (count : ℕ) (r : Reply) → StepsRepresent → MarksHold m' → length registers' ≡ length registers
      → ((k : RoleMap) (s : State) → RepresentsAll m t scan registers k s → StepsTo m' t' scan' registers' s (C.Scavenge count) r) → IsMachine m' t' scan' registers' areas
  scanned_machine count r law marks size steps =
      let y = steps x.map x.state x.represents in
      stepped (C.Scavenge count) r law marks tt y (same_scavenge x.state count (Replied r) y.next y.step) size

  -- before and after a flip
  pub some_state : StandsForSome m t scan
  some_state = stands_for_some standing

  pub flipped_machine : {m' : Store} {t' : Table} {scan' : Scan} {pages : ℕ} {A : Type 0} (what : Condemn) → (t.aim ≢ None → A × (m' ≡ m) × (t' ≡ t) × (scan' ≡ scan))
      → (t.aim ≡ None → (registers : List Parts) (k : RoleMap) (s : State) → RepresentsAll m t scan registers k s → length registers ≡ s.space.registers → RepresentsAll m' t' scan' registers k (flipped s what pages))
      → IsMachine m' t' scan' registers areas
  flipped_machine {m'} {t'} {scan'} {pages} what busy flips = by t.aim refl
    where
      by : (aim : Option Condemn) → t.aim ≡ aim → IsMachine m' t' scan' registers areas
      by None is = with_state x.map (flipped x.state what pages) (flips is registers x.map x.state x.represents (x.count ∙ sym x.eight)) (record { space = refl; areas = refl }) refl
      by (Some asked) is =
          let same = busy (λ none. let e = sym is ∙ none in cc) in
          subst (λ (n : Store). IsMachine n t' scan' registers areas) (sym same.1)
          (subst (λ (u : Table). IsMachine m u scan' registers areas) (sym same.2)
          (subst (λ (left : Scan). IsMachine m t left registers areas) (sym same.3) x))

  -- after a reclaim
  pub reclaimed_machine : {m' : Store} {t' : Table} (r : Reply) → StepsRepresent → MarksHold m' → ((registers : List Parts) (k : RoleMap) (s : State) → RepresentsAll m t scan registers k s → StepsTo m' t' scan registers s C.Reclaim r) → IsMachine m' t' scan registers areas
  reclaimed_machine r law marks steps =
      let y = steps registers x.map x.state x.represents in
      stepped C.Reclaim r law marks tt y (same_reclaim x.state (Replied r) y.next y.step) refl

  -- a command that changed nothing
  pub read_machine : {m' : Store} → PerformsIsStep → StepsRepresent → MarksHold m' → StoresNothing m m' → IsMachine m' t scan registers areas
  read_machine {m'} law bear marks stays = performed_machine law bear marks (unplayed m m' t registers stays)

-- The registers are stored in a vector, and are lent

module _ {Z : Type 0} {m : Store} {t : Table} {scan : Scan} {areas : List AreaRule} {registers : List Parts} (v : Vec Parts Z) (x : IsMachine m t scan v.items areas) (lent : registers ≡ v.items) where
  here : IsMachine m t scan registers areas
  here = subst (λ (ws : List Parts). IsMachine m t scan ws areas) (sym lent) x

  pub lent_consistent : RepresentsState m t registers
  lent_consistent = consistent here

  pub lent_standing : RepresentsMachineState m t scan registers
  lent_standing = standing here

  pub lent_eight : length registers ≡ 8
  lent_eight = here.count

  module _ (m' : Store) (t' : Table) (registers' : List Parts) (count : length registers ≡ v.len) (bear : StepsRepresent) (marks : MarksHold m') where
    back : {scan' : Scan} → length registers' ≡ length registers → IsMachine m' t' scan' registers' areas → IsMachine m' t' scan' (with_items v registers').items areas
    back {scan'} size y = subst (λ (ws : List Parts). IsMachine m' t' scan' ws areas) (sym (with_items_is v registers' (size ∙ count))) y

    pub performed_lent : PerformsIsStep → IsPlayed m t registers m' t' registers' → IsMachine m' t' scan (with_items v registers').items areas
    performed_lent law p = back p.performs.others.count (performed_machine here law bear marks p)

    unchanged : (m' ≡ m) × (t' ≡ t) × (registers' ≡ registers) → IsMachine m' t' scan (with_items v registers').items areas
    unchanged none =
        back (ap (λ (ws : List Parts). length ws) none.2)
        (subst (λ (n : Store). IsMachine n t' scan registers' areas) (sym none.0)
        (subst (λ (u : Table). IsMachine m u scan registers' areas) (sym none.1)
        (subst (λ (ws : List Parts). IsMachine m t scan ws areas) (sym none.2) here)))

    pub acted_lent : (result : Option Reply) → PerformsIsStep → IfSome result (λ reply. IsPlayed m t registers m' t' registers') → IfNone result ((m' ≡ m) × (t' ≡ t) × (registers' ≡ registers)) → IsMachine m' t' scan (with_items v registers').items areas
    acted_lent (Some reply) law some none = performed_lent law some
    acted_lent None law some none = unchanged none

    pub made_lent : (area level : ℕ) (result : Option Reply) → AllocationIsStep → level ≡ new_level (rule_of areas area).kind
        → IfSome result (λ reply. IsMade m t registers m' t' registers' area level reply) → IfNone result ((m' ≡ m) × (t' ≡ t) × (registers' ≡ registers)) → IsMachine m' t' scan (with_items v registers').items areas
    made_lent area level (Some reply) law is some none =
        let on = some.performs here.map here.state here.represents.represents here.represents.reach (is ∙ sym (ap (λ (rules : List AreaRule). new_level (rule_of rules area).kind) here.areas_are)) in
        back on.others.count (made_machine here area level reply law bear marks is some)
    made_lent area level None law is some none = unchanged none

    pub scanned_lent : {scan' : Scan} (units : ℕ) (r : Reply) → length registers' ≡ length registers
        → ((k : RoleMap) (s : State) → RepresentsAll m t scan registers k s → StepsTo m' t' scan' registers' s (C.Scavenge units) r) → IsMachine m' t' scan' (with_items v registers').items areas
    scanned_lent units r size steps = back size (scanned_machine here units r bear marks size steps)

-- The level of new objects

pub level_is : (rules areas : List AreaRule) (area : ℕ) (rule : AreaRule) (level : ℕ) → area < length rules → rules ≡ areas → level ≡ new_level (get_or rules area rule).kind → level ≡ new_level (rule_of areas area).kind
level_is rules areas area rule level low same is =
    is
    ∙ ap (λ (r : AreaRule). new_level r.kind) (get_or_default rules area rule no_rule low)
    ∙ ap (λ (rs : List AreaRule). new_level (rule_of rs area).kind) same

-- What remains to be scanned

pub clean_of : {m : Store} {t : Table} {scan : Scan} {registers : List Parts} {areas : List AreaRule} → IsMachine m t scan registers areas → (t.aim ≡ None → ⊥) → ScanInvariant m t scan registers
clean_of {m} {t} {scan} {registers} x some =
    let run = running_phase t x.state.phase x.represents.represents.aims some in
    (subst (λ (p : Phase). Scans m t scan registers x.map x.state.store p 0) run.1 x.represents.scans).clean
