-- An allocation on the parts of a heap: the silent steps, the quota and the scan, and what is made.
use Rattle.std.proofs.Common.{◌≡◌, ◌≢◌, ℕ, suc, ◌+◌, ◌-◌, ◌*◌, ◌<◌, ◌≤◌, ◌⊎◌, inl, inr, refl, sym, ◌∙◌, ap, subst, arith, true, false, List, length, get_or, Some, IsTrue}
use Rattle.std.proofs.lemmas.List.{length-map}
use Rattle.std.proofs.Math.ListN.{get_or-map}
use Rattle.store_word.specs.Words.{Parts}
use Rattle.store_word.specs.declared.space.Space.{Space}
use Rattle.lisp_graph.specs.declared.command.Command.{Command}
use Rattle.lisp_graph.specs.declared.reply.Reply.{Reply}
use Rattle.lisp_graph.specs.declared.reply.Reply.TheVariants as R
use Rattle.lisp_graph.specs.declared.world.AreaKind.{AreaKind}
use Rattle.lisp_graph.specs.declared.world.AreaKind.TheVariants.{Static, Dynamic, Ephemeral}
use Rattle.lisp_graph.specs.declared.world.AreaRule.{AreaRule}
use Rattle.lisp_graph.specs.Effect.{Effect, effect}
use Rattle.mem_port.specs.Store.{MarksHold, Store}
use Rattle.area_space.specs.Fresh.{kinds_in}
use Rattle.area_space.specs.Table.{Table, areas_of, levels_of}
use Rattle.word_graph.specs.lisp_meaning.State.{State, new_level, no_rule, rule_of}
use Rattle.word_graph.specs.lisp_meaning.Flip.{graph_of}
use Rattle.word_graph.specs.lisp_meaning.Roles.{RoleMap}
use Rattle.word_graph.specs.lisp_meaning.Interpretation.{interpretation}
use Rattle.word_graph.specs.lisp_meaning.Run.{allocates}
use Rattle.word_graph.specs.lisp_meaning.Sound.{IsAllowed}
use Rattle.word_graph.specs.lisp_meaning.Step.{answer_of, exceeds, may_fault}
use Rattle.word_graph.proofs.lisp_ground.sums.Accounts.{areas_agree, levels_agree}
use Rattle.scavenger.specs.Scan.{Scan}
use Rattle.heap_state.specs.transporter.LiveWordsUnchanged.{OnlyGrows}
use Rattle.heap_state.specs.transporter.Marking.{MarksFollow}
use Rattle.heap_state.specs.transporter.Preserving.{RegistersPreserved}
use Rattle.heap_state.specs.HasScannedAhead.{HasScannedAhead}
use Rattle.heap_state.specs.Consistent.{RepresentsState}
use Rattle.heap_state.specs.RepresentsAll.{RepresentsAll}
use Rattle.heap_state.specs.Performs.{PerformsAt, PerformsOn}
use Rattle.heap_state.specs.Reads.{reads, IsDone}
use Rattle.heap_state.specs.Settled.{IsSettled}
use Rattle.heap_state.specs.StepsTo.{StepsTo}
use Rattle.heap_state.proofs.Allocations.{fits_quota, quota_left}
use Rattle.heap_state.proofs.transporter.LiveObjects.{grows-then}
use Rattle.heap_commands.specs.NewMarks as made_words
use Rattle.heap_commands.proofs.NewMarks.{made_after}
use Rattle.heap_collect.specs.Admitting.{HasLeft, Wants}
use Rattle.heap_collect.specs.Laws.{AdmittedIsStep, GoesTo, PreparedGoes}
use Rattle.heap_collect.specs.Amounts.{Amount}
use Rattle.heap_collect.specs.Freeing.{FreesAtMost}
use Rattle.heap_collect.specs.Moments.{RepresentsMachineState}
use Rattle.heap_collect.specs.Silent.{PreparesTo, StandsIn, done_from, placed_from}
use Rattle.lisp_heap.specs.HeapView.{HeapView, Counts, contents_of}
use Rattle.lisp_heap.specs.Costs.{Costs, CostsNothing, IsRefused, ScansSome, done_at, left_at, placed_at}
use Rattle.lisp_heap.specs.Marked.{MarksPages}
use Rattle.lisp_heap.specs.NewMarks.{MarksMade}
use Rattle.lisp_heap.specs.Stands.{Told, IsSound, Runs}
use Rattle.lisp_heap.proofs.ListedMemory.{unlisted}
use Rattle.lisp_heap.proofs.PageMarks.{made_marked, pages_made, pages_scanned, turns_of}
use Rattle.lisp_heap.proofs.CommandRuns.{goes_runs, keeps_allocating, pays_scan}

level_low : (kind : AreaKind) → new_level kind ≤ 1
level_low Static = omega arith
level_low Dynamic = omega arith
level_low Ephemeral = omega arith

pub kind_is : (kinds : List AreaKind) (areas : List AreaRule) (area : ℕ) → kinds ≡ kinds_in areas → get_or kinds area Static ≡ (rule_of areas area).kind
kind_is kinds areas area are =
    ap (λ (ks : List AreaKind). get_or ks area Static) are
    ∙ get_or-map (λ (rule : AreaRule). rule.kind) areas area no_rule

-- a reply that is a refusal isn't done, nor made
pub refused_undone : (r : Reply) (a b c d : ℕ) → (r ≢ R.Fault → r ≡ R.Exhausted a b c d) → IsDone r → ⊥
refused_undone R.Fault a b c d h done = done
refused_undone (R.Exhausted w x y z) a b c d h done = done
refused_undone R.WrongType a b c d h done = done
refused_undone (R.NoField length) a b c d h done = done
refused_undone R.Fine a b c d h done = absurd (let e = h (λ e. cc) in cc)
refused_undone R.Nil a b c d h done = absurd (let e = h (λ e. cc) in cc)
refused_undone (R.Number n) a b c d h done = absurd (let e = h (λ e. cc) in cc)
refused_undone R.Cons a b c d h done = absurd (let e = h (λ e. cc) in cc)
refused_undone (R.Block code count) a b c d h done = absurd (let e = h (λ e. cc) in cc)
refused_undone R.True a b c d h done = absurd (let e = h (λ e. cc) in cc)
refused_undone (R.Flipped pages) a b c d h done = absurd (let e = h (λ e. cc) in cc)
refused_undone R.Busy a b c d h done = absurd (let e = h (λ e. cc) in cc)
refused_undone R.More a b c d h done = absurd (let e = h (λ e. cc) in cc)
refused_undone R.Done a b c d h done = absurd (let e = h (λ e. cc) in cc)
refused_undone R.NotFlipped a b c d h done = absurd (let e = h (λ e. cc) in cc)
refused_undone R.NotDone a b c d h done = absurd (let e = h (λ e. cc) in cc)
refused_undone R.Reclaimed a b c d h done = absurd (let e = h (λ e. cc) in cc)

-- which an allocation isn't
pub refused_unmade : (r : Reply) (a b c d : ℕ) → (r ≢ R.Fault → r ≡ R.Exhausted a b c d) → r ≡ R.Fine → ⊥
refused_unmade r a b c d h fine = let other : r ≢ R.Fault = (λ e. cc) in let e = h other in cc

pub none_refused : (r : Reply) → (r ≡ R.Fault) ⊎ (r ≡ R.Fine) → IsRefused r → ⊥
none_refused r (inl e) x = subst IsRefused e x
none_refused r (inr e) x = subst IsRefused e x

-- What an allocation takes

pub one_more : (n : ℕ) → suc n ≡ n + 1
one_more n = omega arith

added : (done1 done2 placed1 placed2 placed3 before mid after limit charge words read fixed : ℕ) → (done2 ≡ done1 + limit) ⊎ (done2 < done1 + limit) → placed1 ≤ placed2 → placed2 ≤ placed1 + 2048 * (done2 - done1)
    → mid ≤ before + 4 * (placed2 - placed1) + 48 * (done2 - done1) → placed2 ≤ placed3 → after ≤ mid + 4 * (placed3 - placed2) + fixed → fixed + 4 * words ≤ 128 * charge
    → after ≤ before + 128 * charge + 128 * limit + 8 * (placed3 - (placed1 + words))
added done1 done2 placed1 placed2 placed3 before mid after limit charge words read fixed (inl e) a b x c y z = omega arith
added done1 done2 placed1 placed2 placed3 before mid after limit charge words read fixed (inr e) a b x c y z = omega arith

copied : (done1 done2 placed1 placed2 placed3 words read : ℕ) → placed2 ≤ placed1 + 2048 * (done2 - done1) → placed3 ≤ placed2 + (words + 2048 * read) → placed3 ≤ placed1 + words + 2048 * ((done2 - done1) + read)
copied done1 done2 placed1 placed2 placed3 words read a b = omega arith

pub costs_made : (old new : HeapView) (scan1 : Scan) (placed1 placed2 before mid after charge words read fixed : ℕ) → scan1.done ≡ done_at old → placed1 ≡ placed_at old → ScansSome new (left_at old new) (done_at old) (placed_at old) (old.space.rate * charge) → Amount scan1 new.scan (old.space.rate * charge)
    → placed1 ≤ placed2 → placed2 ≤ placed1 + 2048 * (new.scan.done - scan1.done) → mid ≤ before + 4 * (placed2 - placed1) + 48 * (new.scan.done - scan1.done)
    → placed2 ≤ new.table.placed → new.table.placed ≤ placed2 + (words + 2048 * read) → after ≤ mid + 4 * (new.table.placed - placed2) + fixed → fixed + 4 * words ≤ 128 * charge
    → Costs old new before after charge words read
costs_made old new scan1 placed1 placed2 before mid after charge words read fixed done_is placed_is scans amount a b x c d y z = record {
  scans = scans;
  bound = subst (λ (n : ℕ). after ≤ before + 128 * charge + 128 * (old.space.rate * charge) + 8 * (new.table.placed - (n + words))) placed_is
      (added scan1.done new.scan.done placed1 placed2 new.table.placed before mid after (old.space.rate * charge) charge words read fixed (few amount) a b x c y z);
  copied = subst (λ (n : ℕ). new.table.placed ≤ placed_at old + words + 2048 * ((new.scan.done - n) + read)) done_is
      (subst (λ (n : ℕ). new.table.placed ≤ n + words + 2048 * ((new.scan.done - scan1.done) + read)) placed_is (copied scan1.done new.scan.done placed1 placed2 new.table.placed words read b d));
}
  where
    few : Amount scan1 new.scan (old.space.rate * charge) → (new.scan.done ≡ scan1.done + old.space.rate * charge) ⊎ (new.scan.done < scan1.done + old.space.rate * charge)
    few (inl e) = inl e
    few (inr e) = inr e.0

-- What a refusal takes

pub costs_nothing : (old new : HeapView) (scan1 : Scan) (placed1 before after : ℕ) → scan1.done ≡ done_at old → placed1 ≡ placed_at old → new.scan ≡ scan1 → new.table.placed ≡ placed1 → after ≡ before → CostsNothing old new before after
costs_nothing old new scan1 placed1 before after done_is placed_is scan_same placed_same same = record { done = ap (λ (s : Scan). s.done) scan_same ∙ done_is; placed = placed_same ∙ placed_is; steps = same }

-- Calls

module _ (m0 : Store) (t0 : Table) (scan0 : Scan) (registers0 : List Parts) (space : Space) (faults0 : ℕ) (resident0 : List ℕ) (counts0 : Counts) (sound : IsSound (contents_of m0 t0 scan0 registers0 space faults0 resident0 counts0)) where
  pub stands_in : StandsIn m0 t0 scan0 space
  stands_in =
      let found = sound.stands in
      record { registers = registers0; map = found.1.map; state = found.0; represents = unlisted m0 t0 scan0 registers0 found.1.map found.0 found.1.represents; space_is = sym found.1.space; count = sound.registers; regions = sound.regions }

  module _ (m1 : Store) (t1 : Table) (scan1 : Scan)
      (silent : (registers : List Parts) (k : RoleMap) (s : State) → RepresentsAll m0 t0 scan0 registers k s → s.space ≡ space → length registers ≡ space.registers → PreparesTo m1 t1 scan1 registers s) where
    -- a state before, and the state after the silent steps
    pub ready : PreparesTo m1 t1 scan1 registers0 sound.stands.0
    ready =
        let found = sound.stands in
        silent registers0 found.1.map found.0 (unlisted m0 t0 scan0 registers0 found.1.map found.0 found.1.represents) (sym found.1.space) sound.registers

    pub standing_ready : RepresentsMachineState m1 t1 scan1 registers0
    standing_ready = record { map = ready.map; state = ready.mid; represents = ready.represents }

    kinds_mid : t0.kinds ≡ kinds_in ready.mid.areas
    kinds_mid = sound.stands.1.kinds ∙ sym (ap kinds_in ready.areas)

    areas_mid : length ready.mid.areas ≡ length t0.kinds
    areas_mid = sym (length-map ready.mid.areas (λ (rule : AreaRule). rule.kind)) ∙ sym (ap (λ (ks : List AreaKind). length ks) kinds_mid)

    pub area_ready : (area : ℕ) → area < length t0.kinds → area < areas_of t1
    area_ready area low =
        let same = areas_mid in
        let b = areas_agree m1 t1 (interpretation ready.map ready.mid) ready.represents.represents.kept in
        omega arith

-- What an allocation has before it is made

-- the silent steps were taken
pub record Prepared (m0 m1 : Store) (t0 t1 : Table) (scan0 scan1 : Scan) (registers0 : List Parts) (space : Space) (faults0 : ℕ) (resident0 : List ℕ) (counts0 : Counts) (area : ℕ) : Type 0 where
  pub sound : IsSound (contents_of m0 t0 scan0 registers0 space faults0 resident0 counts0)
  pub silent : (registers : List Parts) (k : RoleMap) (s : State) → RepresentsAll m0 t0 scan0 registers k s → s.space ≡ space → length registers ≡ space.registers → PreparesTo m1 t1 scan1 registers s
  pub done : scan1.done ≡ done_from t0 scan0 space
  pub placed : t1.placed ≡ placed_from t0 scan0 space
  pub regions : t1.regions ≡ t0.regions
  pub frees : FreesAtMost m0 t0 m1 t1
  pub area_in : area < length t0.kinds

-- then it was admitted
pub record Admitted (m1 m2 : Store) (t1 t2 : Table) (scan1 scan2 : Scan) (registers0 registers2 : List Parts) (rate area charge : ℕ) : Type 0 where
  pub ahead : (k : RoleMap) (s : State) → RepresentsAll m1 t1 scan1 registers0 k s → HasScannedAhead m1 t1 m2 t2 scan2 registers2 k s (rate * charge)
  pub left : HasLeft t2 area charge
  pub preserved : RegistersPreserved t2 registers0 registers2
  pub regions : t2.regions ≡ t1.regions
  pub some : scan1.done ≤ scan2.done
  pub grows : t1.placed ≤ t2.placed
  pub table : OnlyGrows t1 t2
  pub marks : MarksFollow m1 t1 m2 t2

-- and it was made: the heap is sound, the command ran, and its reply is `fault` or `ok`
pub record Made (old new : HeapView) (before after : ℕ) (c : Command) (r : Reply) (placed2 : ℕ) : Type 0 where
  pub sound : IsSound new
  pub runs : Runs old new before after c r
  pub grows : placed2 ≤ new.table.placed
  pub answer : (r ≡ R.Fault) ⊎ (r ≡ R.Fine)

module _ {m0 m1 : Store} {t0 t1 : Table} {scan0 scan1 : Scan} {registers0 : List Parts} {space : Space} {faults0 : ℕ} {resident0 : List ℕ} {counts0 : Counts} {area : ℕ}
    (p : Prepared m0 m1 t0 t1 scan0 scan1 registers0 space faults0 resident0 counts0 area) where
  abbrev begun : PreparesTo m1 t1 scan1 registers0 p.sound.stands.0
  begun = ready m0 t0 scan0 registers0 space faults0 resident0 counts0 p.sound m1 t1 scan1 p.silent

  pub standing_prepared : RepresentsMachineState m1 t1 scan1 registers0
  standing_prepared = standing_ready m0 t0 scan0 registers0 space faults0 resident0 counts0 p.sound m1 t1 scan1 p.silent

  pub area_prepared : area < areas_of t1
  area_prepared = area_ready m0 t0 scan0 registers0 space faults0 resident0 counts0 p.sound m1 t1 scan1 p.silent area p.area_in

  kinds_begun : t0.kinds ≡ kinds_in begun.mid.areas
  kinds_begun = kinds_mid m0 t0 scan0 registers0 space faults0 resident0 counts0 p.sound m1 t1 scan1 p.silent

  areas_begun : length begun.mid.areas ≡ length t0.kinds
  areas_begun = areas_mid m0 t0 scan0 registers0 space faults0 resident0 counts0 p.sound m1 t1 scan1 p.silent

  some_registers : (s : State) → s.space ≡ space → 0 < s.space.registers
  some_registers s same = let low = p.sound.sizes.registers.0 in let e = ap (λ (sp : Space). sp.registers) same in omega arith

  -- what went on from there ran on the heap
  module _ (m' : Store) (t' : Table) (scan' : Scan) (registers' : List Parts) (before after : ℕ) (c : Command) (r : Reply) (faults' : ℕ) (resident' : List ℕ) (counts' : Counts) (all : allocates c ≡ true) where
    parts_run : ((k : RoleMap) (s : State) → RepresentsAll m0 t0 scan0 registers0 k s → s.space ≡ space → t0.kinds ≡ kinds_in s.areas → GoesTo m' t' scan' registers' s c r)
        → length registers' ≡ length registers0 → t'.regions ≡ t1.regions → Told (contents_of m0 t0 scan0 registers0 space faults0 resident0 counts0) (contents_of m' t' scan' registers' space faults' resident' counts') before after c r → scan1.done ≤ scan'.done → t1.placed ≤ t'.placed
        → (IsDone r → (i : ℕ) → IsTrue (reads c i) → IsSettled t' registers' i) → MarksPages c r m0 t0 m' t'
        → IsSound (contents_of m' t' scan' registers' space faults' resident' counts') × Runs (contents_of m0 t0 scan0 registers0 space faults0 resident0 counts0) (contents_of m' t' scan' registers' space faults' resident' counts') before after c r
    parts_run goes many regions told scanned placed settled pages =
        goes_runs m0 m' t0 t' scan0 scan' registers0 registers' space faults0 faults' resident0 resident' counts0 counts' before after c r p.sound goes many (regions ∙ p.regions) told
        (λ e. keeps_allocating c (contents_of m0 t0 scan0 registers0 space faults0 resident0 counts0) (contents_of m' t' scan' registers' space faults' resident' counts') scan1.done t1.placed all p.done p.placed scanned placed)
        settled pages (λ none. absurd (pays_scan c all none))

  -- it was refused
  module _ (m2 : Store) (t2 : Table) (scan2 : Scan) (registers2 : List Parts) (before after : ℕ) (c : Command) (r : Reply) (charge faults2 : ℕ) (resident2 : List ℕ) (counts2 : Counts) (all : allocates c ≡ true) (allowed : IsAllowed c) (may : IsTrue (may_fault c)) (wants : (s : State) → Wants s c area charge)
      (refused : (c : Command) (k : RoleMap) (s : State) → IsTrue (may_fault c) → Wants s c area charge → RepresentsAll m1 t1 scan1 registers0 k s → StepsTo m2 t2 scan2 registers2 s c r) where
    refused_goes : PreparedGoes → MarksHold m2 → (k : RoleMap) (s : State) → RepresentsAll m0 t0 scan0 registers0 k s → s.space ≡ space → t0.kinds ≡ kinds_in s.areas → GoesTo m2 t2 scan2 registers2 s c r
    refused_goes prepared marks k s b same are =
        let x = p.silent registers0 k s b same p.sound.registers in
        prepared m1 m2 t1 t2 scan1 scan2 registers0 registers2 s c r all allowed (some_registers s same) marks x (refused c x.map x.mid may (wants x.mid) x.represents)

    pub refused_runs : PreparedGoes → MarksHold m2 → RegistersPreserved t2 registers0 registers2 → t2.regions ≡ t1.regions → Told (contents_of m0 t0 scan0 registers0 space faults0 resident0 counts0) (contents_of m2 t2 scan2 registers2 space faults2 resident2 counts2) before after c r → scan1.done ≤ scan2.done → t1.placed ≤ t2.placed → OnlyGrows t1 t2 → MarksFollow m1 t1 m2 t2 → (IsDone r → ⊥)
        → IsSound (contents_of m2 t2 scan2 registers2 space faults2 resident2 counts2) × Runs (contents_of m0 t0 scan0 registers0 space faults0 resident0 counts0) (contents_of m2 t2 scan2 registers2 space faults2 resident2 counts2) before after c r
    refused_runs prepared marks preserved regions told scanned placed grows follow undone =
        parts_run m2 t2 scan2 registers2 before after c r faults2 resident2 counts2 all (refused_goes prepared marks) preserved.count regions told scanned placed (λ done. absurd (undone done)) (pages_scanned m0 m1 m2 t0 t1 t2 c r p.frees grows follow)

  module _ {m2 : Store} {t2 : Table} {scan2 : Scan} {registers2 : List Parts} {charge : ℕ} (a : Admitted m1 m2 t1 t2 scan1 scan2 registers0 registers2 space.rate area charge) where
    abbrev ahead : HasScannedAhead m1 t1 m2 t2 scan2 registers2 begun.map begun.mid (space.rate * charge)
    ahead = a.ahead begun.map begun.mid begun.represents

    pub consistent_ahead : RepresentsState m2 t2 registers2
    consistent_ahead =
        let some = p.sound.areas.0 in
        let same = areas_begun in
        record { map = ahead.represented.map; state = begun.mid; represents = ahead.represented.represents; reach = begun.represents.reach; some = omega arith }

    pub area_ahead : area < areas_of t2
    area_ahead =
        let low = p.area_in in
        let same = areas_begun in
        let b = areas_agree m2 t2 (interpretation ahead.represented.map begun.mid) ahead.represented.represents.kept in
        omega arith

    pub level_ahead : (level : ℕ) (kind : AreaKind) → level ≡ new_level kind → level < levels_of t2
    level_ahead level kind is =
        let some = p.sound.sizes.levels.0 in
        let same = ap (λ (sp : Space). sp.levels) (begun.space ∙ sym p.sound.stands.1.space) in
        let low = level_low kind in
        let b = levels_agree m2 t2 (interpretation ahead.represented.map begun.mid) ahead.represented.represents.kept in
        omega arith

    -- it was made
    module _ (m3 : Store) (t3 : Table) (registers3 : List Parts) (before after : ℕ) (c : Command) (r : Reply) (level faults3 : ℕ) (resident3 : List ℕ) (counts3 : Counts) (level_of : (s : State) → t0.kinds ≡ kinds_in s.areas → level ≡ new_level (rule_of s.areas area).kind)
        (all : allocates c ≡ true) (allowed : IsAllowed c) (wants : (s : State) → Wants s c area charge) (performs : PerformsAt m2 t2 registers2 m3 t3 registers3 c r area level) where
      level_in : level < levels_of t2
      level_in = level_ahead level (rule_of begun.mid.areas area).kind (level_of begun.mid kinds_begun)

      performed : PerformsOn m2 t2 registers2 m3 t3 registers3 c r ahead.represented.map begun.mid
      performed = performs ahead.represented.map begun.mid ahead.represented.represents begun.represents.reach (level_of begun.mid kinds_begun)

      goes : AdmittedIsStep → PreparedGoes → MarksHold m3 → (k : RoleMap) (s : State) → RepresentsAll m0 t0 scan0 registers0 k s → s.space ≡ space → t0.kinds ≡ kinds_in s.areas → GoesTo m3 t3 scan2 registers3 s c r
      goes admitted prepared marks k s b same are =
          let x = p.silent registers0 k s b same p.sound.registers in
          let rate : x.mid.space ≡ space = x.space ∙ same in
          let ahead_of : HasScannedAhead m1 t1 m2 t2 scan2 registers2 x.map x.mid (x.mid.space.rate * charge) =
          subst (λ (sp : Space). HasScannedAhead m1 t1 m2 t2 scan2 registers2 x.map x.mid (sp.rate * charge)) (sym rate) (a.ahead x.map x.mid x.represents) in
          prepared m1 m3 t1 t3 scan1 scan2 registers0 registers3 s c r all allowed (some_registers s same) marks x
          (admitted m1 m2 m3 t1 t2 t3 scan1 scan2 registers0 registers2 registers3 x.map x.mid c r area level charge x.represents (wants x.mid) area_ahead level_in
          (level_of x.mid (are ∙ sym (ap kinds_in x.areas))) ahead_of a.left performs)

      answer : ((s : State) (e : Effect) → effect (graph_of s) c ≡ Some e → e.reply ≡ R.Fine) → (r ≡ R.Fault) ⊎ (r ≡ R.Fine)
      answer fine = elim performed.performed [
        | inl f ↦ inl f.0
        | inr x ↦ inr (x.reply ∙ fits x.effect_of x.is)
      ]
        where
          not_exceeds : exceeds begun.mid (record { area = area; charge = charge }) ≡ false
          not_exceeds = fits_quota begun.mid area level charge (quota_left m2 t2 registers2 ahead.represented.map begun.mid area level charge ahead.represented.represents area_ahead level_in a.left)

          fits : (e : Effect) → effect (graph_of begun.mid) c ≡ Some e → (answer_of begun.mid c e).0 ≡ R.Fine
          fits e is =
              let w = wants begun.mid in
              let one : w.effect_of ≡ e = cc in
              let wanted : e.wanted ≡ Some (record { area = area; charge = charge }) = sym (ap (λ (x : Effect). x.wanted) one) ∙ w.wanted in
              rw (wanted, not_exceeds) (fine begun.mid e is)

      pub made : AdmittedIsStep → PreparedGoes → MarksHold m3 → Told (contents_of m0 t0 scan0 registers0 space faults0 resident0 counts0) (contents_of m3 t3 scan2 registers3 space faults3 resident3 counts3) before after c r → ((s : State) (e : Effect) → effect (graph_of s) c ≡ Some e → e.reply ≡ R.Fine)
          → Made (contents_of m0 t0 scan0 registers0 space faults0 resident0 counts0) (contents_of m3 t3 scan2 registers3 space faults3 resident3 counts3) before after c r t2.placed
      made admitted prepared marks told fine =
          let x = performed in
          let grown = x.preserves.grows.placed in
          let sooner = a.grows in
          let run = parts_run m3 t3 scan2 registers3 before after c r faults3 resident3 counts3 all (goes admitted prepared marks) (x.others.count ∙ a.preserved.count) (x.preserves.grows.form.regions ∙ a.regions) told a.some (omega arith) x.settled (pages_made m0 m1 m2 m3 t0 t1 t2 t3 c r p.frees a.table a.marks x.preserves.grows x.marks) in
          record { sound = run.0; runs = run.1; grows = grown; answer = answer fine }

      -- the pages that the new object marks
      pub object_marked : IsSound (contents_of m3 t3 scan2 registers3 space faults3 resident3 counts3) → (word : Parts) (count : ℕ) → made_words.MarksMade m2 t2 m3 t3 word count
          → MarksMade c (contents_of m0 t0 scan0 registers0 space faults0 resident0 counts0) (contents_of m3 t3 scan2 registers3 space faults3 resident3 counts3) word count
      object_marked after_sound word count x =
          let y = performed in
          let size : length m3.levels ≡ length m0.levels =
          after_sound.stands.1.represents.represents.kept.ground.levels_size ∙ y.preserves.grows.form.regions ∙ a.regions ∙ p.regions ∙ sym p.sound.stands.1.represents.represents.kept.ground.levels_size in
          made_marked (contents_of m0 t0 scan0 registers0 space faults0 resident0 counts0) (contents_of m3 t3 scan2 registers3 space faults3 resident3 counts3) m0 m1 m3 t1 c refl refl size p.frees (grows-then a.table y.preserves.grows) word count
          (made_after m1 m2 m3 t1 t2 t3 standing_prepared.represents.represents.kept.ground consistent_ahead.represents.kept.ground a.marks (turns_of c r y.marks) word count x)
