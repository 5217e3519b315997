-- The transitions of `flip` and `reclaim`, by the phase.
use Rattle.std.proofs.Common.{◌≡◌, ℕ, ◌*◌, ◌≤◌, refl, sym, ◌∙◌, subst, inl, Bool, true, false, None, List, length, arith}
use Rattle.std.specs.Prelude.{MatchBool}
use Rattle.store_word.specs.Words.{Parts}
use Rattle.lisp_graph.specs.declared.command.Command.TheVariants as C
use Rattle.lisp_graph.specs.declared.command.Condemn.{Condemn}
use Rattle.lisp_graph.specs.declared.reply.Reply.TheVariants as R
use Rattle.mem_port.specs.Store.{Store}
use Rattle.area_space.specs.Table.{Table}
use Rattle.area_space.specs.View.{GroundView}
use Rattle.heap_state.specs.lisp_meaning.State.{Collection, Phase, Idle, Running, State}
use Rattle.heap_state.specs.lisp_meaning.Flip.{Settles, flipped}
use Rattle.heap_state.specs.lisp_meaning.Roles.{RoleMap}
use Rattle.heap_state.specs.lisp_meaning.Step.{Flips, Reclaims, Replied}
use Rattle.scavenger.specs.Scan.{Scan}
use Rattle.scavenger.specs.Starting.{base_pages}
use Rattle.heap_state.specs.RepresentsAll.{RepresentsAll}
use Rattle.heap_state.specs.StepsTo.{StepsTo}
use Rattle.heap_collect.specs.Collections.{BeginsCollection, EndsCollection}
use Rattle.heap_collect.specs.Moments.{HasSettled, IsDone, IsIdle, RepresentsMachineState, StandsForSome}
use Rattle.heap_collect.proofs.GroundReclaims.{swept_of}
use Rattle.heap_collect.proofs.ScanSequences.{idle_phase, running_phase}

pub stands_for_some : {m : Store} {t : Table} {scan : Scan} {registers : List Parts} → RepresentsMachineState m t scan registers → StandsForSome m t scan
stands_for_some {m} {t} {scan} {registers} x = record { registers = registers; map = x.map; state = x.state; represents = x.represents }

module _ (m : Store) (t : Table) (scan : Scan) where
  over_by : (registers : List Parts) (k : RoleMap) (s : State) (c : Collection) → RepresentsAll m t scan registers k s → s.phase ≡ Running c → scan.over ≡ c.over
  over_by registers k s c b is = (swept_of m t scan registers k s c b is).over

  -- Flips

  pub resting : StandsForSome m t scan → t.aim ≡ None → IsIdle m t scan
  resting x none = record { registers = x.registers; map = x.map; state = x.state; represents = x.represents; idle = idle_phase t x.state.phase x.represents.represents.aims none }

  pub busy_steps : (registers : List Parts) (what : Condemn) → (t.aim ≡ None → ⊥) → (k : RoleMap) (s : State) → RepresentsAll m t scan registers k s → StepsTo m t scan registers s (C.Flip what) R.Busy
  busy_steps registers what some k s b =
      let run = running_phase t s.phase b.represents.aims some in
      record { next = s; step = inl (subst (λ (p : Phase). Flips s p what (Replied R.Busy) s) (sym run.1) (refl, refl)); map = k; represents = b.represents; scans = b.scans }

  pub flips_told : (m' : Store) (t' : Table) (scan' : Scan) (what : Condemn) (pages told : ℕ) → t.aim ≡ None → pages ≡ told
      → ((registers : List Parts) (k : RoleMap) (s : State) → RepresentsAll m t scan registers k s → s.phase ≡ Idle → length registers ≡ s.space.registers → RepresentsAll m' t' scan' registers k (flipped s what pages))
      → (registers : List Parts) (k : RoleMap) (s : State) → RepresentsAll m t scan registers k s → length registers ≡ s.space.registers → RepresentsAll m' t' scan' registers k (flipped s what told)
  flips_told m' t' scan' what pages told none same flips registers k s b count =
      subst (λ (n : ℕ). RepresentsAll m' t' scan' registers k (flipped s what n)) same (flips registers k s b (idle_phase t s.phase b.represents.aims none) count)

  -- Reclaims

  pub done : StandsForSome m t scan → (t.aim ≡ None → ⊥) → scan.over ≡ true → IsDone m t
  done x some over =
      let run = running_phase t x.state.phase x.represents.represents.aims some in
      record {
        scan = scan;
        registers = x.registers;
        map = x.map;
        state = x.state;
        collection = run.0;
        represents = x.represents;
        running = run.1;
        over = sym (over_by x.registers x.map x.state run.0 x.represents run.1) ∙ over;
      }

  pub not_flipped_steps : (registers : List Parts) → t.aim ≡ None → (k : RoleMap) (s : State) → RepresentsAll m t scan registers k s → StepsTo m t scan registers s C.Reclaim R.NotFlipped
  not_flipped_steps registers none k s b =
      let idle = idle_phase t s.phase b.represents.aims none in
      record { next = s; step = inl (subst (λ (p : Phase). Reclaims s p (Replied R.NotFlipped) s) (sym idle) (refl, refl)); map = k; represents = b.represents; scans = b.scans }

  pub not_done_steps : (registers : List Parts) → (t.aim ≡ None → ⊥) → scan.over ≡ false → (k : RoleMap) (s : State) → RepresentsAll m t scan registers k s → StepsTo m t scan registers s C.Reclaim R.NotDone
  not_done_steps registers some going k s b =
      let run = running_phase t s.phase b.represents.aims some in
      let c = run.0 in
      let over : c.over ≡ false = sym (over_by registers k s c b run.1) ∙ going in
      record {
        next = s;
        step = inl (subst (λ (p : Phase). Reclaims s p (Replied R.NotDone) s) (sym run.1)
            (subst (λ (o : Bool). MatchBool o ((Replied R.NotDone ≡ Replied R.Reclaimed) × Settles s c.aim s) ((Replied R.NotDone ≡ Replied R.NotDone) × (s ≡ s))) (sym over) (refl, refl)));
        map = k;
        represents = b.represents;
        scans = b.scans;
      }

  pub reclaim_steps : (m' : Store) (t' : Table) (registers : List Parts) → scan.over ≡ true
      → (k : RoleMap) (s : State) → RepresentsAll m t scan registers k s → HasSettled m' t' scan registers s → StepsTo m' t' scan registers s C.Reclaim R.Reclaimed
  reclaim_steps m' t' registers over k s b x =
      let c = x.collection in
      let ended : c.over ≡ true = sym (over_by registers k s c b x.running) ∙ over in
      record {
        next = x.next;
        step = inl (subst (λ (p : Phase). Reclaims s p (Replied R.Reclaimed) x.next) (sym x.running)
            (subst (λ (o : Bool). MatchBool o ((Replied R.Reclaimed ≡ Replied R.Reclaimed) × Settles s c.aim x.next) ((Replied R.Reclaimed ≡ Replied R.NotDone) × (x.next ≡ s))) (sym ended) (refl, x.settles)));
        map = x.map;
        represents = x.represents.represents;
        scans = x.represents.scans;
      }

module _ {old new : GroundView} {scan : Scan} where
  pub flip_steps : {scan' : Scan} {what : Condemn} {pages : ℕ} → BeginsCollection old new scan scan' what → pages ≡ base_pages new.mem.store new.table what → old.table.aim ≡ None
      → (registers : List Parts) (k : RoleMap) (s : State) → RepresentsAll old.mem.store old.table scan registers k s → length registers ≡ s.space.registers → old.table.regions ≡ s.space.regions → StepsTo new.mem.store new.table scan' registers s (C.Flip what) (R.Flipped pages)
  flip_steps {scan'} {what} {pages} begins same none registers k s b count size =
      let idle = idle_phase old.table s.phase b.represents.aims none in
      let x : RepresentsAll new.mem.store new.table scan' registers k (flipped s what pages) = rw same (begins.flips registers k s b count) in
      let few = begins.at_most in
      let low : pages ≤ 16 * s.space.regions = omega arith in
      record {
        next = flipped s what pages;
        step = inl (subst (λ (p : Phase). Flips s p what (Replied (R.Flipped pages)) (flipped s what pages)) (sym idle) (pages, low, refl, refl));
        map = k;
        represents = x.represents;
        scans = x.scans;
      }

  pub settled : EndsCollection old new → (old.table.aim ≡ None → ⊥) → scan.over ≡ true → (registers : List Parts) (k : RoleMap) (s : State) → RepresentsAll old.mem.store old.table scan registers k s → HasSettled new.mem.store new.table scan registers s
  settled ends some over registers k s b =
      let run = running_phase old.table s.phase b.represents.aims some in
      ends.settles scan registers k s run.0 b run.1 (sym (over_by old.mem.store old.table scan registers k s run.0 b run.1) ∙ over)
