-- The state after the silent steps.
use Rattle.std.proofs.Common.{◌≡◌, ◌⊎◌, inl, inr, ℕ, suc, ◌+◌, ◌*◌, ◌^◌, ◌<◌, ◌≤◌, ◌==◌, Bool, true, false, not, ◌&&◌, nat_le, nat_lt, List, Option, Some, None, if◌then◌else◌, is_none, is_some, MatchBool, refl, sym, ◌∙◌, ap, subst, arith}
use Rattle.std.specs.Prelude.{IfSome}
use Rattle.std.proofs.lemmas.Bool.{cases_Bool, cond-true, cond-false}
use Rattle.std.proofs.lemmas.Nat.{mul-add-lt}
use Rattle.store_word.specs.Words.{Parts}
use Rattle.store_word.specs.declared.levels.Levels.{Levels}
use Rattle.store_word.specs.declared.space.Space.{Space}
use Rattle.lisp_graph.specs.declared.command.Condemn.{Condemn}
use Rattle.lisp_graph.specs.declared.command.Condemn.TheVariants.{Chosen}
use Rattle.lisp_graph.specs.Totals.{total, if_true}
use Rattle.lisp_graph.proofs.Totals.{total-cong}
use Rattle.mem_port.specs.Store.{Store}
use Rattle.area_space.specs.Accounts.{debt, level_total}
use Rattle.area_space.specs.Flips.{Slot}
use Rattle.area_space.specs.Frees.{Frees, outside_old}
use Rattle.area_space.specs.Table.{Table, areas_of, levels_of, live, slot_of, slots_of}
use Rattle.area_space.specs.View.{GroundView}
use Rattle.heap_state.specs.lisp_meaning.Maps.{some_below}
use Rattle.heap_state.specs.lisp_meaning.State.{Condemned, Collection, Idle, Phase, Running, State, aim_of, is_idle, no_aim}
use Rattle.heap_state.specs.lisp_meaning.Flip.{Settles, flipped}
use Rattle.heap_state.specs.lisp_meaning.Roles.{RoleMap}
use Rattle.heap_state.specs.lisp_meaning.Run.{SilentFlip, SilentReclaim, capacity_of, full_levels, is_full}
use Rattle.heap_state.specs.lisp_ground.GroundInvariant.{GroundInvariant}
use Rattle.heap_state.specs.lisp_meaning.Interpretation.{interpretation}
use Rattle.heap_state.proofs.lisp_ground.sums.Levels.{level_totals_on}
use Rattle.scavenger.specs.Scan.{Scan}
use Rattle.heap_state.specs.RepresentsAll.{RepresentsAll}
use Rattle.heap_collect.specs.Collections.{EndsCollection}
use Rattle.heap_collect.specs.Moments.{IsIdle}
use Rattle.heap_collect.specs.Silent.{IsSilent, PreparesTo, StandsIn, capacity_at, collects_alone, done_from, flips_alone, flips_idle, full_bits, full_levels_on, is_full_on, placed_from, reclaims_alone, resident_from, some_set}
use Rattle.heap_collect.specs.SilentSteps.{FlipsAlone, ReclaimsAlone}
use Rattle.heap_collect.proofs.FreedRegions.{frees_nothing}
use Rattle.heap_collect.proofs.FullLevels.{bits_some, set_none, set_some}
use Rattle.heap_collect.proofs.GroundReclaims.{swept_of}
use Rattle.heap_collect.proofs.ScanSequences.{idle_phase, over_while_idle, running_phase}

-- Totals of levels after a reclaim

module _ (t u : Table) (frees : Frees t u) where
  pub same_levels : levels_of u ≡ levels_of t
  same_levels = ap levels_of frees.same

  same_areas : areas_of u ≡ areas_of t
  same_areas = ap areas_of frees.same

  same_debt : (slot : ℕ) → slot < slots_of t → debt u (live slot) ≡ debt t (live slot)
  same_debt slot inside =
      let a = ap (λ (x : Slot). x.live_charge) (frees.slots slot inside) in
      let b = ap (λ (x : Slot). x.live_husk) (frees.slots slot inside) in
      omega arith

  pub same_totals : (level : ℕ) → level < levels_of t → level_total u level ≡ level_total t level
  same_totals level low =
      ap (λ (n : ℕ). total (λ area. debt u (live (slot_of u area level))) n) same_areas
      ∙ total-cong (λ area. debt u (live (slot_of u area level))) (λ area. debt t (live (slot_of t area level))) (areas_of t) (λ area inside.
      (let here : slot_of u area level ≡ slot_of t area level = ap (λ (h : ℕ). area * h + level) same_levels in
      let few : slot_of t area level < slots_of t = (let x = mul-add-lt area (levels_of t) level (areas_of t) inside low in omega arith) in
      ap (λ (slot : ℕ). debt u (live slot)) here ∙ same_debt (slot_of t area level) few))

-- and so are the full levels
pub same_full : (t u : Table) (space : Space) → ((level : ℕ) → level < levels_of t → level_total u level ≡ level_total t level) → space.levels < levels_of t → full_levels_on u space ≡ full_levels_on t space
same_full t u space totals low =
    ap some_set (total-cong (λ i. if_true (is_full_on u space (suc i)) (2 ^ i)) (λ i. if_true (is_full_on t space (suc i)) (2 ^ i)) space.levels (λ i l.
    ap (λ (x : ℕ). if_true (nat_lt 0 (capacity_at space (suc i)) && nat_le (capacity_at space (suc i)) x) (2 ^ i)) (totals (suc i) (omega arith))))

-- A reclaim

module _ (m : Store) (t : Table) (scan : Scan) (registers : List Parts) (k : RoleMap) (s : State) (x : RepresentsAll m t scan registers k s) where
  pub done_here : (some : t.aim ≡ None → ⊥) → scan.over ≡ true → (c : Collection) × (s.phase ≡ Running c) × (c.over ≡ true)
  done_here some over =
      let c = running_phase t s.phase x.represents.aims some in
      let w = swept_of m t scan registers k s c.0 x c.1 in
      (c.0, c.1, sym w.over ∙ over)

  pub some_aim : scan.over ≡ false → t.aim ≡ None → ⊥
  some_aim going none = let e = over_while_idle m t scan registers k s x (idle_phase t s.phase x.represents.aims none) in absurd (cc)

  -- if none occurs
  pub no_reclaim : (t.aim ≡ None) ⊎ (scan.over ≡ false) → SilentReclaim s s.phase s
  no_reclaim (inl none) = subst (λ (p : Phase). SilentReclaim s p s) (sym (idle_phase t s.phase x.represents.aims none)) refl
  no_reclaim (inr going) =
      let c = running_phase t s.phase x.represents.aims (some_aim going) in
      let w = swept_of m t scan registers k s c.0 x c.1 in
      subst (λ (p : Phase). SilentReclaim s p s) (sym c.1) (subst (λ (b : Bool). MatchBool b (Settles s c.0.aim s) (s ≡ s)) (sym (sym w.over ∙ going)) refl)

-- if one occurs
pub reclaim_silent : (s new : State) (c : Collection) → s.phase ≡ Running c → c.over ≡ true → Settles s c.aim new → SilentReclaim s s.phase new
reclaim_silent s new c running over settles = subst (λ (p : Phase). SilentReclaim s p new) (sym running) (subst (λ (b : Bool). MatchBool b (Settles s c.aim new) (new ≡ s)) (sym over) settles)

-- both, for each state
pub silent_reclaim : {old new : GroundView} {scan : Scan} → EndsCollection old new → (old.table.aim ≡ None → ⊥) → scan.over ≡ true → (registers : List Parts) (k : RoleMap) (s : State) → RepresentsAll old.mem.store old.table scan registers k s
    → (map : RoleMap) × (mid : State) × RepresentsAll new.mem.store new.table scan registers map mid × SilentReclaim s s.phase mid × (mid.space ≡ s.space)
silent_reclaim {old} {new} {scan} ends some over registers k s x =
    let o = done_here old.mem.store old.table scan registers k s x some over in
    let y = ends.settles scan registers k s o.0 x o.1 o.2 in
    let same : o.0 ≡ y.collection = cc (o.1, y.running) in
    (y.map, y.next, y.represents, reclaim_silent s y.next y.collection y.running (rw (← same) o.2) y.settles, y.settles.space)

pub no_silent_reclaim : {scan : Scan} (v : GroundView) → (v.table.aim ≡ None) ⊎ (scan.over ≡ false) → ReclaimsAlone v v scan
no_silent_reclaim {scan} v never = record {
  step = λ registers k s x. (k, s, x, no_reclaim v.mem.store v.table scan registers k s x never, refl);
  frees = frees_nothing v.mem.store v.table;
  idle = λ over. gone over never;
  going = λ _. refl;
  levels = refl;
  count = λ level low. refl;
}
  where
    gone : scan.over ≡ true → (v.table.aim ≡ None) ⊎ (scan.over ≡ false) → v.table.aim ≡ None
    gone over (inl none) = none
    gone over (inr going) = absurd (cc)

-- A flip

pub low_levels : (m : Store) (t : Table) (scan : Scan) (space : Space) → StandsIn m t scan space → (space.levels < levels_of t) × (space.levels ≤ 6)
low_levels m t scan space x =
    let a = x.represents.represents.kept.agrees.levels in
    let b = ap (λ (w : Space). w.levels) x.space_is in
    let c = x.represents.represents.kept.table.few_levels in
    (omega arith, omega arith)

module _ (m : Store) (t : Table) (scan : Scan) (registers : List Parts) (k : RoleMap) (s : State) (x : RepresentsAll m t scan registers k s) (idle : s.phase ≡ Idle) where
  kept_idle : GroundInvariant m t (record (interpretation k s) { aim = no_aim })
  kept_idle = subst (λ (a : Condemned). GroundInvariant m t (record (interpretation k s) { aim = a })) (ap aim_of idle) x.represents.kept

  full_same : (i : ℕ) → i < s.space.levels → is_full_on t s.space (suc i) ≡ is_full s (suc i)
  full_same i l = ap (λ (n : ℕ). nat_lt 0 (capacity_of s (suc i)) && nat_le (capacity_of s (suc i)) n) (level_totals_on m t k s kept_idle (suc i) (omega arith))

  bits_same : full_bits t s.space s.space.levels ≡ (full_levels s).0
  bits_same = total-cong (λ i. if_true (is_full_on t s.space (suc i)) (2 ^ i)) (λ i. if_true (is_full s (suc i)) (2 ^ i)) s.space.levels (λ i l. ap (λ (b : Bool). if_true b (2 ^ i)) (full_same i l))

  -- whether one occurs
  comes : (b : Bool) → not (full_bits t s.space s.space.levels == 0) ≡ b → (is_idle s.phase && some_below (λ i. is_full s (suc i)) s.space.levels) ≡ b
  comes b e =
      ap (λ (p : Phase). is_idle p && some_below (λ i. is_full s (suc i)) s.space.levels) idle
      ∙ bits_some (λ i. is_full s (suc i)) s.space.levels ∙ ap (λ (n : ℕ). not (n == 0)) (sym bits_same) ∙ e

  pub flip_silent : (space : Space) (levels : Levels) (pages : ℕ) → s.space ≡ space → full_levels_on t space ≡ Some levels → pages ≤ 16 * space.regions → SilentFlip s (flipped s (Chosen levels) pages)
  flip_silent space levels pages same is few =
      let y = set_some (full_bits t s.space s.space.levels) levels (ap (full_levels_on t) same ∙ is) in
      let all : levels ≡ full_levels s = y.0 ∙ ap (λ (n : ℕ). let l : Levels = record { 0 = n } in l) bits_same in
      let r = ap (λ (w : Space). w.regions) same in
      subst (λ (b : Bool). MatchBool b ((n : ℕ) × (n ≤ 16 * s.space.regions) × (flipped s (Chosen levels) pages ≡ flipped s (Chosen (full_levels s)) n)) (flipped s (Chosen levels) pages ≡ s))
      (sym (comes true y.1)) (pages, omega arith, ap (λ (l : Levels). flipped s (Chosen l) pages) all)

  pub no_flip_idle : (space : Space) → s.space ≡ space → full_levels_on t space ≡ None → SilentFlip s s
  no_flip_idle space same none =
      let y = set_none (full_bits t s.space s.space.levels) (ap (full_levels_on t) same ∙ none) in
      subst (λ (b : Bool). MatchBool b ((n : ℕ) × (n ≤ 16 * s.space.regions) × (s ≡ flipped s (Chosen (full_levels s)) n)) (s ≡ s)) (sym (comes false y)) refl

-- if a collection runs none occurs
pub no_flip_running : (s : State) (c : Collection) → s.phase ≡ Running c → SilentFlip s s
no_flip_running s c running =
    subst (λ (b : Bool). MatchBool b ((n : ℕ) × (n ≤ 16 * s.space.regions) × (s ≡ flipped s (Chosen (full_levels s)) n)) (s ≡ s))
    (sym (ap (λ (p : Phase). is_idle p && some_below (λ i. is_full s (suc i)) s.space.levels) running)) refl

pub is_resting : (m : Store) (t : Table) (scan : Scan) (space : Space) → StandsIn m t scan space → t.aim ≡ None → IsIdle m t scan
is_resting m t scan space x none = record { registers = x.registers; map = x.map; state = x.state; represents = x.represents; idle = idle_phase t x.state.phase x.represents.represents.aims none }

-- no silent flip occurs, if a collection runs or no level is full
pub no_silent_flip : {v : GroundView} {scan : Scan} {space : Space} → ((s : State) (registers : List Parts) (k : RoleMap) → RepresentsAll v.mem.store v.table scan registers k s → s.space ≡ space → SilentFlip s s) → (flips_idle v.table space ≡ true → ⊥) → FlipsAlone v v scan scan space
no_silent_flip same never = record {
  step = λ registers k s x is count. (s, x, same s registers k x is);
  used = λ region. refl;
  free = λ region free. free;
  regions = refl;
  begins = λ flips. absurd (never flips);
  done = λ flips. absurd (never flips);
  placed = λ flips. absurd (never flips);
}

-- Whether there is one, by tests

pub aim_some : {A : Type 0} (o r : Option A) (b : Bool) → r ≡ o → b ≡ is_some r → b ≡ true → o ≡ None → ⊥
aim_some o r b same is there none = let x : is_some r ≡ false = ap is_some (same ∙ none) in let z : true ≡ false = sym there ∙ is ∙ x in cc

pub aim_none : {A : Type 0} (o r : Option A) (b : Bool) → r ≡ o → b ≡ is_some r → b ≡ false → o ≡ None
aim_none None r b same is gone = refl
aim_none (Some v) r b same is gone = let x : is_some r ≡ true = ap is_some same in let z : false ≡ true = sym gone ∙ is ∙ x in absurd (cc)

-- a reclaim is due only if a scan has finished and a collection runs
pub due_over : {A : Type 0} (over : Bool) (aim : Option A) → (over && is_some aim) ≡ true → over ≡ false → ⊥
due_over over aim due going = let x : (over && is_some aim) ≡ false = ap (λ b. b && is_some aim) going in let z : true ≡ false = sym due ∙ x in cc

pub due_some : {A : Type 0} (over : Bool) (aim : Option A) → (over && is_some aim) ≡ true → aim ≡ None → ⊥
due_some true aim due none = let x : is_some aim ≡ false = ap is_some none in let z : true ≡ false = sym due ∙ x in cc
due_some false aim due none = absurd (cc)

-- if a scan has finished and no reclaim is due, no collection runs
pub aim_gone : {A : Type 0} (over : Bool) (aim : Option A) → over ≡ true → (over && is_some aim) ≡ false → aim ≡ None
aim_gone true None is never = refl
aim_gone true (Some v) is never = absurd (cc)
aim_gone false aim is never = absurd (cc)

-- Both

-- if some level is collected by itself, a reclaim that doesn't occur isn't due
pub not_due : (alone due : Bool) → alone ≡ true → (alone && due) ≡ false → due ≡ false
not_due true due is never = never
not_due false due is never = absurd (cc)

-- the ground after a reclaim is one that a flip may begin with
pub stands_after : {old new : GroundView} {scan : Scan} {space : Space} → StandsIn old.mem.store old.table scan space → new.table.regions ≡ old.table.regions → ReclaimsAlone old new scan → StandsIn new.mem.store new.table scan space
stands_after x regions reclaims =
    let r = reclaims.step x.registers x.map x.state x.represents in
    record { registers = x.registers; map = r.0; state = r.1; represents = r.2; space_is = r.4 ∙ x.space_is; count = x.count; regions = regions ∙ x.regions }

both_silent : (s mid new : State) (space : Space) → s.space ≡ space → collects_alone space ≡ true → SilentReclaim s s.phase mid → SilentFlip mid new → IsSilent s new
both_silent s mid new space same alone first second =
    subst (λ (b : Bool). MatchBool b ((mid : State) × SilentReclaim s s.phase mid × SilentFlip mid new) (new ≡ s)) (sym (ap collects_alone same ∙ alone)) (mid, first, second)

-- the world is unchanged
reclaim_areas : (s mid : State) (p : Phase) → SilentReclaim s p mid → mid.areas ≡ s.areas
reclaim_areas s mid Idle x = ap (λ (w : State). w.areas) x
reclaim_areas s mid (Running c) x = go c.over x
  where
    go : (b : Bool) → MatchBool b (Settles s c.aim mid) (mid ≡ s) → mid.areas ≡ s.areas
    go true y = y.areas
    go false y = ap (λ (w : State). w.areas) y

flip_same : (s new : State) → SilentFlip s new → (new.space ≡ s.space) × (new.areas ≡ s.areas)
flip_same s new x = go (is_idle s.phase && some_below (λ i. is_full s (suc i)) s.space.levels) x
  where
    go : (b : Bool) → MatchBool b ((n : ℕ) × (n ≤ 16 * s.space.regions) × (new ≡ flipped s (Chosen (full_levels s)) n)) (new ≡ s) → (new.space ≡ s.space) × (new.areas ≡ s.areas)
    go true y = (ap (λ (w : State). w.space) y.2, ap (λ (w : State). w.areas) y.2)
    go false y = (ap (λ (w : State). w.space) y, ap (λ (w : State). w.areas) y)

pub prepares : (m : Store) (t : Table) (scan : Scan) (registers : List Parts) (s mid new : State) (map : RoleMap) (space : Space) → s.space ≡ space → collects_alone space ≡ true
    → SilentReclaim s s.phase mid → mid.space ≡ s.space → SilentFlip mid new → RepresentsAll m t scan registers map new → PreparesTo m t scan registers s
prepares m t scan registers s mid new map space same alone first within second represents = record {
  mid = new;
  silent = both_silent s mid new space same alone first second;
  space = (flip_same mid new second).0 ∙ within;
  areas = (flip_same mid new second).1 ∙ reclaim_areas s mid s.phase first;
  map = map;
  represents = represents;
}

-- if no level is collected without a command, there are none
pub prepares_none : (m : Store) (t : Table) (scan : Scan) (registers : List Parts) (k : RoleMap) (s : State) (space : Space) → RepresentsAll m t scan registers k s → s.space ≡ space → collects_alone space ≡ false → PreparesTo m t scan registers s
prepares_none m t scan registers k s space x same quiet = record {
  mid = s;
  silent = subst (λ (b : Bool). MatchBool b ((mid : State) × SilentReclaim s s.phase mid × SilentFlip mid s) (s ≡ s)) (sym (ap collects_alone same ∙ quiet)) refl;
  space = refl;
  areas = refl;
  map = k;
  represents = x;
}

-- whether a flip occurs could be seen before the reclaim
pub comes_alone : {old new : GroundView} {scan : Scan} {space : Space} → StandsIn old.mem.store old.table scan space → collects_alone space ≡ true → ReclaimsAlone old new scan → flips_idle new.table space ≡ flips_alone old.table scan space
comes_alone {old} {new} {scan} {space} x alone reclaims = go scan.over refl
  where
    full : is_some (full_levels_on new.table space) ≡ is_some (full_levels_on old.table space)
    full = ap is_some (same_full old.table new.table space reclaims.count (low_levels old.mem.store old.table scan space x).0)

    idle : (o : Option Condemn) → o ≡ None → is_none o ≡ true
    idle o e = ap is_none e

    busy : (o : Option Condemn) → (o ≡ None → ⊥) → is_none o ≡ false
    busy None some = absurd (some refl)
    busy (Some w) some = refl

    go : (b : Bool) → scan.over ≡ b → flips_idle new.table space ≡ flips_alone old.table scan space
    go true e =
        ap (λ (b : Bool). b && is_some (full_levels_on new.table space)) (idle new.table.aim (reclaims.idle e)) ∙ full
        ∙ sym (ap (λ (b : Bool). b && (scan.over && is_some (full_levels_on old.table space))) alone ∙ ap (λ (b : Bool). b && is_some (full_levels_on old.table space)) e)
    go false e =
        ap (λ (b : Bool). b && is_some (full_levels_on new.table space)) (busy new.table.aim (λ none. some_aim old.mem.store old.table scan x.registers x.map x.state x.represents e (sym (reclaims.going e) ∙ none)))
        ∙ sym (ap (λ (b : Bool). b && (scan.over && is_some (full_levels_on old.table space))) alone ∙ ap (λ (b : Bool). b && is_some (full_levels_on old.table space)) e)

-- the units that are scanned and the words that are placed after both

from_here : (b : Bool) (x y : ℕ) → (b ≡ false → x ≡ y) → (b ≡ true → x ≡ 0) → x ≡ (if b then 0 else y)
from_here true x y still anew = anew refl
from_here false x y still anew = still refl

module _ (t t' : Table) (scan : Scan) (space : Space) (same : flips_idle t' space ≡ flips_alone t scan space) where
  pub done_then : (done : ℕ) → (flips_idle t' space ≡ false → done ≡ scan.done) → (flips_idle t' space ≡ true → done ≡ 0) → done ≡ done_from t scan space
  done_then done still anew = from_here (flips_alone t scan space) done scan.done (λ e. still (same ∙ e)) (λ e. anew (same ∙ e))

  pub placed_then : (placed : ℕ) → t'.placed ≡ t.placed → (flips_idle t' space ≡ false → placed ≡ t'.placed) → (flips_idle t' space ≡ true → placed ≡ 0) → placed ≡ placed_from t scan space
  placed_then placed reclaimed still anew = from_here (flips_alone t scan space) placed t.placed (λ e. still (same ∙ e) ∙ reclaimed) (λ e. anew (same ∙ e))

-- if none occur
pub done_quiet : (t : Table) (scan : Scan) (space : Space) → collects_alone space ≡ false → scan.done ≡ done_from t scan space
done_quiet t scan space quiet = sym (ap (λ (b : Bool). if (b && (scan.over && is_some (full_levels_on t space))) then 0 else scan.done) quiet)

pub placed_quiet : (t : Table) (scan : Scan) (space : Space) → collects_alone space ≡ false → t.placed ≡ placed_from t scan space
placed_quiet t scan space quiet = sym (ap (λ (b : Bool). if (b && (scan.over && is_some (full_levels_on t space))) then 0 else t.placed) quiet)

-- a silent flip occurs only if no collection runs
pub idle_flips : (t : Table) (space : Space) → flips_idle t space ≡ true → t.aim ≡ None
idle_flips t space flips = go t.aim flips
  where
    go : (aim : Option Condemn) → (is_none aim && is_some (full_levels_on t space)) ≡ true → aim ≡ None
    go None is = refl
    go (Some what) is = absurd (cc (is))

-- and only if a level is full
pub full_flips : (t : Table) (space : Space) → full_levels_on t space ≡ None → flips_idle t space ≡ true → ⊥
full_flips t space none flips = go (is_none t.aim) (sym (ap (λ (o : Option Levels). is_none t.aim && is_some o) none) ∙ flips)
  where
    go : (b : Bool) → (b && false) ≡ true → ⊥
    go true e = cc
    go false e = cc

-- some property of the full levels, if they are those of another table
pub full_again : (t u : Table) (space : Space) (P : Levels → Type 0) → full_levels_on u space ≡ full_levels_on t space → IfSome (full_levels_on u space) P → IfSome (full_levels_on t space) P
full_again t u space P same there = subst (λ (o : Option Levels). IfSome o P) same there

-- no silent flip occurs in a world without a capacity
pub never_alone : (t : Table) (scan : Scan) (space : Space) → collects_alone space ≡ false → flips_alone t scan space ≡ true → ⊥
never_alone t scan space none comes = go (collects_alone space) none comes
  where
    go : (b : Bool) → b ≡ false → (b && (scan.over && is_some (full_levels_on t space))) ≡ true → ⊥
    go false none comes = cc
    go true none comes = cc

-- Resident pages

pub resident_then : (t : Table) (scan : Scan) (space : Space) (before after : List ℕ) → collects_alone space ≡ true → ((scan.over && is_some t.aim) ≡ true → after ≡ outside_old t before) → ((scan.over && is_some t.aim) ≡ false → after ≡ before)
    → after ≡ resident_from t scan space before
resident_then t scan space before after alone due never =
    elim (cases_Bool (scan.over && is_some t.aim)) [
      | inl on ↦ due on ∙ sym (cond-true (reclaims_alone t scan space) (outside_old t before) before (ap (λ b. b && (scan.over && is_some t.aim)) alone ∙ on))
      | inr off ↦ never off ∙ sym (cond-false (reclaims_alone t scan space) (outside_old t before) before (ap (λ b. b && (scan.over && is_some t.aim)) alone ∙ off))
    ]

pub resident_quiet : (t : Table) (scan : Scan) (space : Space) (pages : List ℕ) → collects_alone space ≡ false → pages ≡ resident_from t scan space pages
resident_quiet t scan space pages quiet = sym (cond-false (reclaims_alone t scan space) (outside_old t pages) pages (ap (λ b. b && (scan.over && is_some t.aim)) quiet))
