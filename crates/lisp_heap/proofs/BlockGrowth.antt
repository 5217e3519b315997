-- A block grows on the parts of a heap: the silent steps, a look at the block, the quota and the scan, and the wider block.
use Rattle.std.proofs.Common.{◌≡◌, ◌≢◌, ℕ, suc, ◌+◌, ◌-◌, ◌*◌, ◌<◌, ◌≤◌, ◌⊎◌, inl, inr, refl, sym, ◌∙◌, ap, subst, arith, Bool, true, false, ◌&&◌, List, length, Option, Some, None, IsTrue}
use Rattle.std.specs.Prelude.{Vec, MatchBool, min}
use Rattle.std.specs.Vec.{with_items}
use Rattle.std.proofs.lemmas.List.{with_items_is}
use Rattle.std.proofs.Math.Nat.{le-max_left}
use Rattle.store_word.specs.Words.{Parts}
use Rattle.store_word.specs.declared.space.Space.{Space}
use Rattle.lisp_graph.specs.declared.command.Command.{Command}
use Rattle.lisp_graph.specs.declared.command.Command.TheVariants as C
use Rattle.lisp_graph.specs.declared.command.Condemn.TheVariants.{Chosen}
use Rattle.lisp_graph.specs.declared.reply.Reply.{Reply}
use Rattle.lisp_graph.specs.declared.reply.Reply.TheVariants as R
use Rattle.lisp_graph.specs.Effect.{Wanted, effect}
use Rattle.lisp_graph.specs.Graph.{Graph}
use Rattle.mem_port.specs.Store.{MarksHold, Store}
use Rattle.area_space.specs.Fresh.{kinds_in}
use Rattle.area_space.specs.Table.{Table, areas_of}
use Rattle.word_graph.specs.lisp_meaning.Maps.{some_below}
use Rattle.word_graph.specs.lisp_meaning.State.{Idle, Phase, Running, State, is_idle}
use Rattle.word_graph.specs.lisp_meaning.Flip.{Settles, flipped, graph_of}
use Rattle.word_graph.specs.lisp_meaning.Roles.{RoleMap}
use Rattle.word_graph.specs.lisp_meaning.Interpretation.{interpretation}
use Rattle.word_graph.specs.lisp_meaning.Run.{SilentFlip, SilentReclaim, allocates, collects_itself, full_levels, is_full}
use Rattle.word_graph.specs.lisp_meaning.Sound.{IsAllowed}
use Rattle.word_graph.specs.lisp_meaning.Step.{wanted_by}
use Rattle.word_graph.proofs.lisp_ground.sums.Accounts.{areas_agree}
use Rattle.heap_state.specs.transporter.Preserving.{NoOldAddresses, RegistersPreserved, PreservesScanned}
use Rattle.scavenger.specs.Scan.{Scan}
use Rattle.heap_state.specs.HasScannedAhead.{HasScannedAhead}
use Rattle.heap_state.specs.Consistent.{RepresentsState}
use Rattle.heap_state.specs.Represents.{Represents}
use Rattle.heap_state.specs.RepresentsAll.{RepresentsAll}
use Rattle.heap_state.specs.RepresentsLater.{RepresentsSame}
use Rattle.heap_state.specs.Performs.{Performs}
use Rattle.heap_state.specs.Reads.{reads, IsDone}
use Rattle.heap_state.specs.Settled.{IsSettled, NoOldAddressesInRegisters}
use Rattle.heap_state.specs.StepsTo.{StepsTo}
use Rattle.heap_commands.specs.declared.blocks.growing.Growing.TheVariants.{Answered}
use Rattle.heap_commands.specs.Growth.{CanGrowIn, IsGrowing, WantsGrowth}
use Rattle.heap_commands.proofs.BlockGrowth.{growing_effect}
use Rattle.heap_collect.specs.Admitting.{HasLeft, Wants}
use Rattle.heap_collect.specs.Amounts.{Amount}
use Rattle.heap_collect.specs.Laws.{AdmittedCommandIsStep, GoesTo, PreparedGoes, StandsAfterLook}
use Rattle.heap_collect.specs.Moments.{RepresentsMachineState}
use Rattle.heap_collect.specs.Silent.{IsSilent, PreparesTo, done_from, placed_from}
use Rattle.lisp_heap.specs.HeapView.{HeapView, Counts, contents_of}
use Rattle.lisp_heap.specs.Costs.{Costs, CostsLook, IsRefused, LookCosts, ScansSome, Spends, done_at, left_at, placed_at, wants_in}
use Rattle.lisp_heap.specs.Marked.{MarksPages}
use Rattle.lisp_heap.specs.Stands.{Told, IsSound, Runs, Stands}
use Rattle.lisp_heap.proofs.Allocations.{area_ready}
use Rattle.lisp_heap.proofs.ListedMemory.{unlisted}
use Rattle.lisp_heap.proofs.CommandRuns.{goes_runs, keeps_allocating, pays_scan}

-- The charge that is required

abbrev charge_of : Option Wanted → ℕ
charge_of None = 0
charge_of (Some w) = w.charge

-- a block that grows requires its charge
wants_growth : (s : State) (target wanted area charge : ℕ) → IsGrowing s target wanted area charge → wants_in s (C.Grow target wanted) ≡ Some (record { area = area; charge = charge })
wants_growth s target wanted area charge g = let x = growing_effect s target wanted area charge g in ap wanted_by x.1 ∙ x.2

pub same_charge : (s : State) (target wanted area charge area' charge' : ℕ) → IsGrowing s target wanted area charge → wants_in s (C.Grow target wanted) ≡ Some (record { area = area'; charge = charge' }) → charge' ≡ charge
same_charge s target wanted area charge area' charge' g is = sym (ap charge_of is) ∙ ap charge_of (wants_growth s target wanted area charge g)

none_wanted_one : (w : Wanted) → None ≡ Some w → ⊥
none_wanted_one w e = cc

pub none_wanted : (o : Option Wanted) (w : Wanted) → o ≡ None → o ≡ Some w → ⊥
none_wanted o w none some = none_wanted_one w (sym none ∙ some)

pub some_wanted : (s : State) (target wanted area charge : ℕ) → IsGrowing s target wanted area charge → wants_in s (C.Grow target wanted) ≡ None → ⊥
some_wanted s target wanted area charge g none = none_wanted (wants_in s (C.Grow target wanted)) (record { area = area; charge = charge }) none (wants_growth s target wanted area charge g)

-- a reply that isn't `fault` isn't the answer `fault`
pub answered_sure : (r : Reply) → r ≢ R.Fault → Answered r ≡ Answered R.Fault → ⊥
answered_sure r sure e = sure (cc (e))

-- it is more than the requested fields
pub fields_charged : (s : State) (target wanted area charge : ℕ) → IsGrowing s target wanted area charge → wanted < charge
fields_charged s target wanted area charge g =
    let low = le-max_left wanted (min (2 * length g.block.fields + 1) 2047) in
    let is = g.charge_is in
    omega arith

-- and so it isn't refused, if it met no swap error
pub unrefused : (r : Reply) → (r ≢ R.Fault → r ≡ R.Fine) → IsRefused r → ⊥
unrefused r sure refused = let fine = sure (λ e. subst IsRefused e refused) in subst IsRefused fine refused

-- What it takes

charged : (done1 done2 placed1 placed2 placed3 limit charge wanted before mid after : ℕ) → wanted < charge → placed1 ≤ placed2 → placed2 ≤ placed1 + 2048 * (done2 - done1)
    → mid ≤ before + 4 * (placed2 - placed1) + 48 * (done2 - done1) → placed3 ≡ placed2 + charge → after ≤ mid + 4 * wanted + 40
    → (1 ≤ charge) × (placed1 + charge ≤ placed3) × (after ≤ before + 40 + 4 * (placed3 - placed1) + 48 * (done2 - done1)) × (placed3 ≤ placed1 + charge + 2048 * ((done2 - done1) + 0))
charged done1 done2 placed1 placed2 placed3 limit charge wanted before mid after low a b x e y = (omega arith, omega arith, omega arith, omega arith)

pub spends_charged : (scan1 scan2 : Scan) (t1 t2 t3 : Table) (rate charge wanted before mid after : ℕ) → wanted < charge → Amount scan1 scan2 (rate * charge) → t1.placed ≤ t2.placed → t2.placed ≤ t1.placed + 2048 * (scan2.done - scan1.done)
    → mid ≤ before + 4 * (t2.placed - t1.placed) + 48 * (scan2.done - scan1.done) → t3.placed ≡ t2.placed + charge → after ≤ mid + 4 * wanted + 40
    → Spends scan1 scan2 t1 t3 rate charge 40 0 before after
spends_charged scan1 scan2 t1 t2 t3 rate charge wanted before mid after low amount a b x e y =
    let z = charged scan1.done scan2.done t1.placed t2.placed t3.placed (rate * charge) charge wanted before mid after low a b x e y in
    record { some = z.0; amount = amount; grown = z.1; bound = z.2; copied = z.3 }

looked_first : (units placed0 placed1 placed3 charge before mid after : ℕ) → placed0 ≤ placed1 → placed1 ≤ placed0 + 2048 → mid ≤ before + 4 * (placed1 - placed0) + 59
    → placed1 + charge ≤ placed3 → after ≤ mid + 40 + 4 * (placed3 - placed1) + 48 * units → placed3 ≤ placed1 + charge + 2048 * (units + 0)
    → (placed0 + charge ≤ placed3) × (after ≤ before + 99 + 4 * (placed3 - placed0) + 48 * units) × (placed3 ≤ placed0 + charge + 2048 * (units + 1))
looked_first units placed0 placed1 placed3 charge before mid after a b x g y c = (omega arith, omega arith, omega arith)

pub spends_looked : (scan1 scan2 : Scan) (t0 t1 t3 : Table) (rate charge before mid after : ℕ) → t0.placed ≤ t1.placed → t1.placed ≤ t0.placed + 2048 → mid ≤ before + 4 * (t1.placed - t0.placed) + 59
    → Spends scan1 scan2 t1 t3 rate charge 40 0 mid after → Spends scan1 scan2 t0 t3 rate charge 99 1 before after
spends_looked scan1 scan2 t0 t1 t3 rate charge before mid after a b x y =
    let z = looked_first (scan2.done - scan1.done) t0.placed t1.placed t3.placed charge before mid after a b x y.grown y.bound y.copied in
    record { some = y.some; amount = y.amount; grown = z.0; bound = z.1; copied = z.2 }

all_told : (done1 done2 placed1 placed3 limit charge before after : ℕ) → 1 ≤ charge → (done2 ≡ done1 + limit) ⊎ (done2 < done1 + limit) → placed1 + charge ≤ placed3 → after ≤ before + 99 + 4 * (placed3 - placed1) + 48 * (done2 - done1)
    → after ≤ before + 128 * charge + 128 * limit + 8 * (placed3 - (placed1 + charge))
all_told done1 done2 placed1 placed3 limit charge before after some (inl e) g x = omega arith
all_told done1 done2 placed1 placed3 limit charge before after some (inr e) g x = omega arith

pub costs_grown : (old new : HeapView) (scan1 : Scan) (t1 : Table) (before after charge : ℕ) → scan1.done ≡ done_at old → t1.placed ≡ placed_at old → (Amount scan1 new.scan (old.space.rate * charge) → ScansSome new (left_at old new) (done_at old) (placed_at old) (old.space.rate * charge))
    → Spends scan1 new.scan t1 new.table old.space.rate charge 99 1 before after → Costs old new before after charge charge 1
costs_grown old new scan1 t1 before after charge done_is placed_is scans x = record {
  scans = scans x.amount;
  bound = subst (λ (n : ℕ). after ≤ before + 128 * charge + 128 * (old.space.rate * charge) + 8 * (new.table.placed - (n + charge))) placed_is
      (all_told scan1.done new.scan.done t1.placed new.table.placed (old.space.rate * charge) charge before after x.some (few x.amount) x.grown x.bound);
  copied = subst (λ (n : ℕ). new.table.placed ≤ placed_at old + charge + 2048 * ((new.scan.done - n) + 1)) done_is
      (subst (λ (n : ℕ). new.table.placed ≤ n + charge + 2048 * ((new.scan.done - scan1.done) + 1)) placed_is x.copied);
}
  where
    few : Amount scan1 new.scan (old.space.rate * charge) → (new.scan.done ≡ scan1.done + old.space.rate * charge) ⊎ (new.scan.done < scan1.done + old.space.rate * charge)
    few (inl e) = inl e
    few (inr e) = inr e.0

pub costs_looked : (old new : HeapView) (scan1 : Scan) (t1 : Table) (before after : ℕ) → scan1.done ≡ done_at old → t1.placed ≡ placed_at old → LookCosts scan1 new.scan t1 new.table before after → CostsLook old new before after
costs_looked old new scan1 t1 before after done_is placed_is x = record {
  done = ap (λ (s : Scan). s.done) x.still ∙ done_is;
  bound = subst (λ (n : ℕ). after ≤ before + 59 + 4 * (new.table.placed - n)) placed_is x.bound;
  copied = subst (λ (n : ℕ). new.table.placed ≤ n + 2048) placed_is x.copied;
}

-- what was refused after a look
pub looks_refused : (scan1 scan2 : Scan) (t0 t1 t2 : Table) (before mid after : ℕ) → t0.placed ≤ t1.placed → t1.placed ≤ t0.placed + 2048 → mid ≤ before + 4 * (t1.placed - t0.placed) + 59 → scan2 ≡ scan1 → t2 ≡ t1 → after ≡ mid
    → LookCosts scan1 scan2 t0 t2 before after
looks_refused scan1 scan2 t0 t1 t2 before mid after a b x still same steps =
    let e = ap (λ (t : Table). t.placed) same in
    record { still = still; grows = omega arith; bound = omega arith; copied = omega arith }

-- A look at the block

pub consistent_now : (m : Store) (t : Table) (scan : Scan) (registers : List Parts) → RepresentsMachineState m t scan registers → 0 < areas_of t → RepresentsState m t registers
consistent_now m t scan registers x some =
    let same = areas_agree m t (interpretation x.map x.state) x.represents.represents.kept in
    record { map = x.map; state = x.state; represents = x.represents.represents; reach = x.represents.reach; some = omega arith }

module _ (m0 m1 : Store) (t0 t1 : Table) (scan : Scan) (registers0 registers1 : List Parts) where
  module _ (law : StandsAfterLook) (marks : MarksHold m1) (preserves : PreservesScanned m0 t0 m1 t1) (others : RegistersPreserved t1 registers0 registers1) (stays_fresh : NoOldAddressesInRegisters t0 registers0 → NoOldAddresses m0 t0 → NoOldAddresses m1 t1) (represented : RepresentsSame m0 t0 registers0 m1 t1 registers1) where
    pub looked : (k : RoleMap) (s : State) (x : RepresentsAll m0 t0 scan registers0 k s) → RepresentsAll m1 t1 scan registers1 (represented k s x.represents x.reach).map s
    looked k s x = law m0 m1 t0 t1 scan registers0 registers1 k s x marks preserves others stays_fresh (represented k s x.represents x.reach)

    pub standing_looked : RepresentsMachineState m0 t0 scan registers0 → RepresentsMachineState m1 t1 scan registers1
    standing_looked x = record { map = (represented x.map x.state x.represents.represents x.represents.reach).map; state = x.state; represents = looked x.map x.state x.represents }

-- The wider block

module _ (m1 m2 : Store) (t1 t2 : Table) (scan1 scan2 : Scan) (registers1 registers2 : List Parts) (target wanted area charge rate : ℕ) (wants : WantsGrowth m1 t1 registers1 target wanted area charge) where
  pub grow_wants : (k : RoleMap) (s : State) → Represents m1 t1 registers1 k s → Wants s (C.Grow target wanted) area charge
  grow_wants k s b = let x = growing_effect s target wanted area charge (wants.grows k s b) in record { effect_of = x.0; is = x.1; wanted = x.2 }

  module _ (ahead : (k : RoleMap) (s : State) → RepresentsAll m1 t1 scan1 registers1 k s → HasScannedAhead m1 t1 m2 t2 scan2 registers2 k s (rate * charge)) where
    area_there : (k : RoleMap) (s : State) → RepresentsAll m1 t1 scan1 registers1 k s → area < areas_of t2
    area_there k s x =
        let y = ahead k s x in
        let a = areas_agree m1 t1 (interpretation k s) x.represents.kept in
        let b = areas_agree m2 t2 (interpretation y.represented.map s) y.represented.represents.kept in
        let low = wants.area_in in
        omega arith

    pub can_grow_there : RepresentsMachineState m1 t1 scan1 registers1 → HasLeft t2 area charge → CanGrowIn m2 t2 registers2 target wanted
    can_grow_there x left =
        let y = ahead x.map x.state x.represents in
        record {
          map = y.represented.map;
          state = x.state;
          represents = y.represented.represents;
          area = area;
          charge = charge;
          growing = wants.grows x.map x.state x.represents.represents;
          area_in = area_there x.map x.state x.represents;
          fits = left;
        }

    pub grown_steps : (m3 : Store) (t3 : Table) (registers3 : List Parts) (r : Reply) → AdmittedCommandIsStep → HasLeft t2 area charge → Performs m2 t2 registers2 m3 t3 registers3 (C.Grow target wanted) r
        → (k : RoleMap) (s : State) → RepresentsAll m1 t1 scan1 registers1 k s → s.space.rate ≡ rate → StepsTo m3 t3 scan2 registers3 s (C.Grow target wanted) r
    grown_steps m3 t3 registers3 r law left performs k s x same =
        law m1 m2 m3 t1 t2 t3 scan1 scan2 registers1 registers2 registers3 k s (C.Grow target wanted) r area charge x (grow_wants k s x.represents) (area_there k s x)
        (subst (λ (n : ℕ). HasScannedAhead m1 t1 m2 t2 scan2 registers2 k s (n * charge)) (sym same) (ahead k s x)) left performs

-- The silent steps don't change the graph

reclaim_graph : (s mid : State) (p : Phase) → SilentReclaim s p mid → graph_of mid ≡ graph_of s
reclaim_graph s mid Idle x = ap graph_of x
reclaim_graph s mid (Running c) x = go c.over x
  where
    go : (b : Bool) → MatchBool b (Settles s c.aim mid) (mid ≡ s) → graph_of mid ≡ graph_of s
    go true y = let a = y.registers in let b = y.objects in rw (a, b) refl
    go false y = ap graph_of y

flip_graph : (s new : State) → SilentFlip s new → graph_of new ≡ graph_of s
flip_graph s new x = go (is_idle s.phase && some_below (λ i. is_full s (suc i)) s.space.levels) x
  where
    go : (b : Bool) → MatchBool b ((n : ℕ) × (n ≤ 16 * s.space.regions) × (new ≡ flipped s (Chosen (full_levels s)) n)) (new ≡ s) → graph_of new ≡ graph_of s
    go true y = ap graph_of y.2
    go false y = ap graph_of y

silent_graph : (s new : State) → IsSilent s new → graph_of new ≡ graph_of s
silent_graph s new x = go (collects_itself s) x
  where
    go : (b : Bool) → MatchBool b ((mid : State) × SilentReclaim s s.phase mid × SilentFlip mid new) (new ≡ s) → graph_of new ≡ graph_of s
    go true y = flip_graph y.0 new y.2 ∙ reclaim_graph s y.0 s.phase y.1
    go false y = ap graph_of y

-- On the heap

module _ (m0 : Store) (t0 : Table) (scan0 : Scan) (registers0 : List Parts) (space : Space) (faults0 : ℕ) (resident0 : List ℕ) (counts0 : Counts) (sound : IsSound (contents_of m0 t0 scan0 registers0 space faults0 resident0 counts0))
    (m1 : Store) (t1 : Table) (scan1 : Scan) (silent : (registers : List Parts) (k : RoleMap) (s : State) → RepresentsAll m0 t0 scan0 registers k s → s.space ≡ space → length registers ≡ space.registers → PreparesTo m1 t1 scan1 registers s) where
  pub some_areas : 0 < areas_of t1
  some_areas = area_ready m0 t0 scan0 registers0 space faults0 resident0 counts0 sound m1 t1 scan1 silent 0 (let some = sound.areas.0 in omega arith)

  -- a state that the heap represented, after the silent steps: each command needs the same words in it
  pub ready_for : (s : State) → Stands (contents_of m0 t0 scan0 registers0 space faults0 resident0 counts0) s → (k : RoleMap) × (mid : State) × RepresentsAll m1 t1 scan1 registers0 k mid × ((c : Command) → wants_in mid c ≡ wants_in s c)
  ready_for s st =
      let x = silent registers0 st.map s (unlisted m0 t0 scan0 registers0 st.map s st.represents) (sym st.space) sound.registers in
      (x.map, x.mid, x.represents, λ c. ap (λ (g : Graph). wanted_by (effect g c)) (silent_graph s x.mid x.silent))

  module _ {Z : Type 0} (m3 : Store) (t3 : Table) (scan3 : Scan) (registers3 : List Parts) (v : Vec Parts Z) (before after : ℕ) (c : Command) (r : Reply) (faults3 : ℕ) (resident3 : List ℕ) (counts3 : Counts) (all : allocates c ≡ true) (allowed : IsAllowed c)
      (steps : (k : RoleMap) (s : State) → RepresentsAll m1 t1 scan1 registers0 k s → s.space.rate ≡ space.rate → StepsTo m3 t3 scan3 registers3 s c r) where
    stepped_goes : PreparedGoes → MarksHold m3 → (k : RoleMap) (s : State) → RepresentsAll m0 t0 scan0 registers0 k s → s.space ≡ space → t0.kinds ≡ kinds_in s.areas → GoesTo m3 t3 scan3 registers3 s c r
    stepped_goes prepared marks k s b same are =
        let x = silent registers0 k s b same sound.registers in
        let some : 0 < s.space.registers = (let low = sound.sizes.registers.0 in let e = ap (λ (sp : Space). sp.registers) same in omega arith) in
        prepared m1 m3 t1 t3 scan1 scan3 registers0 registers3 s c r all allowed some marks x (steps x.map x.mid x.represents (ap (λ (sp : Space). sp.rate) (x.space ∙ same)))

    pub stepped_runs : PreparedGoes → MarksHold m3 → registers0 ≡ v.items → length registers0 ≡ v.len → length registers3 ≡ length registers0 → t3.regions ≡ t1.regions → t1.regions ≡ t0.regions
        → Told (contents_of m0 t0 scan0 registers0 space faults0 resident0 counts0) (contents_of m3 t3 scan3 registers3 space faults3 resident3 counts3) before after c r → scan1.done ≡ done_from t0 scan0 space → t1.placed ≡ placed_from t0 scan0 space → scan1.done ≤ scan3.done → t1.placed ≤ t3.placed
        → (IsDone r → (i : ℕ) → IsTrue (reads c i) → IsSettled t3 registers3 i) → MarksPages c r m0 t0 m3 t3
        → IsSound (contents_of m3 t3 scan3 (with_items v registers3).items space faults3 resident3 counts3) × Runs (contents_of m0 t0 scan0 v.items space faults0 resident0 counts0) (contents_of m3 t3 scan3 (with_items v registers3).items space faults3 resident3 counts3) before after c r
    stepped_runs prepared marks lent count many regions3 regions1 told done_is placed_is scanned placed settled pages =
        subst (λ (ws : List Parts). IsSound (contents_of m3 t3 scan3 (with_items v registers3).items space faults3 resident3 counts3) × Runs (contents_of m0 t0 scan0 ws space faults0 resident0 counts0) (contents_of m3 t3 scan3 (with_items v registers3).items space faults3 resident3 counts3) before after c r) lent
        (subst (λ (ws : List Parts). IsSound (contents_of m3 t3 scan3 ws space faults3 resident3 counts3) × Runs (contents_of m0 t0 scan0 registers0 space faults0 resident0 counts0) (contents_of m3 t3 scan3 ws space faults3 resident3 counts3) before after c r)
        (sym (with_items_is v registers3 (many ∙ count)))
        (goes_runs m0 m3 t0 t3 scan0 scan3 registers0 registers3 space faults0 faults3 resident0 resident3 counts0 counts3 before after c r sound (stepped_goes prepared marks) many (regions3 ∙ regions1) told
        (λ e. keeps_allocating c (contents_of m0 t0 scan0 registers0 space faults0 resident0 counts0) (contents_of m3 t3 scan3 registers3 space faults3 resident3 counts3) scan1.done t1.placed all done_is placed_is scanned placed) settled pages (λ none. absurd (pays_scan c all none))))

-- a vector lent the words of the registers
pub lent_words : {Z : Type 0} (v : Vec Parts Z) (registers registers3 : List Parts) (P : List Parts → List Parts → Type 0) → registers ≡ v.items → length registers3 ≡ v.len → P registers registers3 → P v.items (with_items v registers3).items
lent_words v registers registers3 P is count x = subst (P v.items) (sym (with_items_is v registers3 count)) (subst (λ (ws : List Parts). P ws registers3) is x)
