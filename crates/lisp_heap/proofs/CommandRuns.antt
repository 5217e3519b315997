-- A command that was performed on the parts of a heap ran on the heap.
use Rattle.std.proofs.Common.{◌≡◌, ℕ, ◌<◌, ◌≤◌, refl, sym, ◌∙◌, ap, subst, arith, Bool, true, false, if◌then◌else◌, List, length, IsTrue}
use Rattle.std.specs.Prelude.{Vec}
use Rattle.std.specs.Vec.{with_items}
use Rattle.std.proofs.lemmas.List.{with_items_is}
use Rattle.store_word.specs.Words.{Parts}
use Rattle.store_word.specs.declared.space.Space.{Space}
use Rattle.lisp_graph.specs.declared.command.Command.{Command}
use Rattle.lisp_graph.specs.declared.command.Command.TheVariants as C
use Rattle.lisp_graph.specs.declared.reply.Reply.{Reply}
use Rattle.lisp_graph.specs.declared.reply.Reply.TheVariants as R
use Rattle.lisp_graph.specs.World.{IsSpace}
use Rattle.mem_port.specs.Store.{MarksHold, Store}
use Rattle.mem_port.specs.View.{AccountsForFaultsIf}
use Rattle.area_space.specs.Fresh.{kinds_in}
use Rattle.area_space.specs.Table.{Table}
use Rattle.area_space.specs.View.{view}
use Rattle.area_space.specs.declared.ground.Ground.{Ground}
use Rattle.mem_port.specs.declared.memory.Memory.{Ghosts}
use Rattle.word_graph.specs.lisp_meaning.State.{State}
use Rattle.word_graph.specs.lisp_meaning.Step.{Replied}
use Rattle.word_graph.specs.lisp_meaning.Run.{Does, Silent, allocates}
use Rattle.word_graph.specs.lisp_meaning.Roles.{RoleMap}
use Rattle.word_graph.specs.lisp_meaning.Sound.{IsAllowed}
use Rattle.scavenger.specs.Scan.{Scan}
use Rattle.heap_collect.specs.Laws.{GoesTo}
use Rattle.heap_state.specs.Consistent.{RepresentsState}
use Rattle.heap_state.specs.RepresentsAll.{RepresentsAll}
use Rattle.heap_state.specs.Laws.{PerformsIsStep}
use Rattle.heap_state.specs.Performs.{Performs}
use Rattle.heap_state.specs.Reads.{reads, is_fault, IsDone}
use Rattle.heap_state.specs.Settled.{IsSettled}
use Rattle.heap_state.specs.StepsTo.{StepsTo}
use Rattle.heap_state.proofs.ReachableObjects.{steps_bear}
use Rattle.lisp_heap.specs.HeapView.{HeapView, Counts, contents_at, contents_of, counted}
use Rattle.lisp_heap.specs.Costs.{done_at, placed_at}
use Rattle.lisp_heap.specs.Marked.{MarksPages}
use Rattle.lisp_heap.specs.Stands.{IsSound, Keeps, Runs, Stands, Told, scans_for}
use Rattle.lisp_heap.proofs.ListedMemory.{consistent, listed, unlisted}
use Rattle.lisp_heap.proofs.PageMarks.{pages_listed, pages_marked}
use Rattle.lisp_heap.proofs.MemoryReports.{told_by}
use Rattle.lisp_heap.proofs.NoAllocation.{not_silent, pays_nothing}
use Rattle.lisp_heap.proofs.Worlds.{does_same}

pub not_less : (n : ℕ) → n ≤ n
not_less n = omega arith

-- What a command that met a swap error keeps

pub keeps_plain : (c : Command) (old new : HeapView) → allocates c ≡ false → old.scan.done ≤ new.scan.done → old.table.placed ≤ new.table.placed → Keeps c old new
keeps_plain c old new none done placed = record {
  scanned = subst (λ (b : Bool). (if b then done_at old else old.scan.done) ≤ new.scan.done) (sym none) done;
  placed = subst (λ (b : Bool). (if b then placed_at old else old.table.placed) ≤ new.table.placed) (sym none) placed;
}

-- after its silent steps
pub keeps_allocating : (c : Command) (old new : HeapView) (done placed : ℕ) → allocates c ≡ true → done ≡ done_at old → placed ≡ placed_at old → done ≤ new.scan.done → placed ≤ new.table.placed → Keeps c old new
keeps_allocating c old new done placed all done_is placed_is more_done more_placed = record {
  scanned = subst (λ (b : Bool). (if b then done_at old else old.scan.done) ≤ new.scan.done) (sym all) (subst (λ (n : ℕ). n ≤ new.scan.done) done_is more_done);
  placed = subst (λ (b : Bool). (if b then placed_at old else old.table.placed) ≤ new.table.placed) (sym all) (subst (λ (n : ℕ). n ≤ new.table.placed) placed_is more_placed);
}

-- an allocation may scan
pub pays_scan : (c : Command) → allocates c ≡ true → scans_for c ≡ false → ⊥
pays_scan (C.Cons to area car cdr) all none = cc
pays_scan (C.List to area items) all none = cc
pays_scan (C.Make to area code length) all none = cc
pays_scan (C.Grow target length) all none = cc
pays_scan c all none = cc

-- What runs

module _ (m m' : Store) (t t' : Table) (scan scan' : Scan) (registers registers' : List Parts) (space : Space) (faults faults' : ℕ) (resident resident' : List ℕ) (counts counts' : Counts) (before after : ℕ) (c : Command) (r : Reply) where
  abbrev old : HeapView
  old = contents_of m t scan registers space faults resident counts

  abbrev new : HeapView
  new = contents_of m' t' scan' registers' space faults' resident' counts'

  -- from each state that it represented, the definition goes on to one that it represents then
  pub goes_runs : IsSound old → ((k : RoleMap) (s : State) → RepresentsAll m t scan registers k s → s.space ≡ space → t.kinds ≡ kinds_in s.areas → GoesTo m' t' scan' registers' s c r)
      → length registers' ≡ length registers → t'.regions ≡ t.regions → Told old new before after c r → (r ≡ R.Fault → Keeps c old new)
      → (IsDone r → (i : ℕ) → IsTrue (reads c i) → IsSettled t' registers' i) → MarksPages c r m t m' t' → (scans_for c ≡ false → scan' ≡ scan)
      → IsSound new × Runs old new before after c r
  goes_runs sound goes count regions told kept settled marks still =
      let found = sound.stands in
      let next = stands found.0 found.1 in
      let sized : length m'.levels ≡ length m.levels = next.2.represents.represents.kept.ground.levels_size ∙ regions ∙ sym found.1.represents.represents.kept.ground.levels_size in
      let kinds : t'.kinds ≡ t.kinds = next.2.kinds ∙ ap kinds_in (does_same found.0 c (Replied r) next.0 next.1).areas ∙ sym found.1.kinds in (
        record { stands = (next.0, next.2); sizes = sound.sizes; areas = subst (λ ks. (1 ≤ length ks) × (length ks ≤ 16)) (sym kinds) sound.areas; registers = count ∙ sound.registers; regions = regions ∙ sound.regions },
        record {
          does = stands;
          world = record { registers = count; space = refl; kinds = kinds };
          told = told;
          kept = kept;
          settled = settled;
          marks = pages_listed sized marks;
          still = still;
        },
      )
    where
      stands : (s : State) → Stands old s → ((next : State) × Does s c (Replied r) next × Stands new next)
      stands s st =
          let x = goes st.map s (unlisted m t scan registers st.map s st.represents) (sym st.space) st.kinds in
          let sizes = does_same s c (Replied r) x.next x.does in (
            x.next,
            x.does,
            record { map = x.map; represents = listed m' t' scan' registers' x.map x.next x.represents; space = st.space ∙ sym sizes.space; kinds = x.represents.represents.kept.agrees.kinds },
          )

  -- a transition alone
  pub step_goes : MarksHold m' → IsSpace space → IsAllowed c → ((s : State) → s.space ≡ space → Silent s c s) → ((k : RoleMap) (s : State) → RepresentsAll m t scan registers k s → s.space ≡ space → StepsTo m' t' scan' registers' s c r)
      → (k : RoleMap) (s : State) → RepresentsAll m t scan registers k s → s.space ≡ space → t.kinds ≡ kinds_in s.areas → GoesTo m' t' scan' registers' s c r
  step_goes marks sizes allowed silent steps k s b same are =
      let x = steps k s b same in
      let some : 0 < s.space.registers = (let low = sizes.registers.0 in let e = ap (λ (sp : Space). sp.registers) same in omega arith) in
      record {
        next = x.next;
        does = (s, silent s same, x.step);
        map = x.map;
        represents = steps_bear m m' t t' scan scan' registers registers' k s c r b some allowed x marks;
      }

-- one by a command that allocates nothing
module _ (m m' : Store) (t t' : Table) (scan scan' : Scan) (registers registers' : List Parts) (space : Space) (faults faults' : ℕ) (resident resident' : List ℕ) (counts counts' : Counts) (before after : ℕ) (c : Command) (r : Reply) where
  pub step_runs : IsSound (contents_of m t scan registers space faults resident counts) → MarksHold m' → IsAllowed c → allocates c ≡ false
      → ((k : RoleMap) (s : State) → RepresentsAll m t scan registers k s → s.space ≡ space → StepsTo m' t' scan' registers' s c r)
      → length registers' ≡ length registers → t'.regions ≡ t.regions → Told (contents_of m t scan registers space faults resident counts) (contents_of m' t' scan' registers' space faults' resident' counts') before after c r → (r ≡ R.Fault → (scan.done ≤ scan'.done) × (t.placed ≤ t'.placed))
      → (IsDone r → (i : ℕ) → IsTrue (reads c i) → IsSettled t' registers' i) → MarksPages c r m t m' t' → (scans_for c ≡ false → scan' ≡ scan)
      → IsSound (contents_of m' t' scan' registers' space faults' resident' counts') × Runs (contents_of m t scan registers space faults resident counts) (contents_of m' t' scan' registers' space faults' resident' counts') before after c r
  step_runs sound marks allowed none steps count regions told kept settled pages still =
      goes_runs m m' t t' scan scan' registers registers' space faults faults' resident resident' counts counts' before after c r sound
      (step_goes m m' t t' scan scan' registers registers' space faults faults' resident resident' counts counts' before after c r marks sound.sizes allowed (λ s same. not_silent s c none) steps)
      count regions told
      (λ e. keeps_plain c (contents_of m t scan registers space faults resident counts) (contents_of m' t' scan' registers' space faults' resident' counts') none (kept e).0 (kept e).1) settled pages still

-- what is performed by one
module _ (m m' : Store) (t t' : Table) (scan : Scan) (registers registers' : List Parts) (space : Space) (faults faults' : ℕ) (resident resident' : List ℕ) (counts counts' : Counts) (before after : ℕ) (c : Command) (r : Reply) where
  pub performs_runs : PerformsIsStep → IsSound (contents_of m t scan registers space faults resident counts) → MarksHold m' → IsAllowed c → allocates c ≡ false → Performs m t registers m' t' registers' c r
      → AccountsForFaultsIf (record { store = m; faults = faults; taken = counts.taken; resident = length resident }) (record { store = m'; faults = faults'; taken = counts'.taken; resident = length resident' }) before after (is_fault r)
      → IsSound (contents_of m' t' scan registers' space faults' resident' counts') × Runs (contents_of m t scan registers space faults resident counts) (contents_of m' t' scan registers' space faults' resident' counts') before after c r
  performs_runs law sound marks allowed none performs told =
      step_runs m m' t t' scan scan registers registers' space faults faults' resident resident' counts counts' before after c r sound marks allowed none
      (λ k s b same. law m m' t t' scan registers registers' k s c r 0 b.represents b.scans b.reach (pays_nothing s c none) performs)
      performs.others.count performs.preserves.grows.form.regions (told_by (contents_of m t scan registers space faults resident counts) (contents_of m' t' scan registers' space faults' resident' counts') before after c r told) (λ e. (not_less scan.done, performs.preserves.grows.placed)) performs.settled (pages_marked m m' t t' c r performs.preserves.grows performs.marks) (λ _. refl)

-- the registers are in a vector, and are lent
module _ {M Z : Type 0} {g : Ghosts M} (ground ground' : Ground M g) {scan : Scan} (v : Vec Parts Z) {registers registers' : List Parts} {space : Space} {before after : ℕ} (c : Command) {r : Reply} where
  pub lent_runs : registers ≡ v.items → length registers ≡ v.len → PerformsIsStep → IsSound (contents_at ground scan v.items space) → IsAllowed c → allocates c ≡ false
      → Performs (g.seen ground.mem) ground.table registers (g.seen ground'.mem) ground'.table registers' c r → AccountsForFaultsIf (view ground).mem (view ground').mem before after (is_fault r)
      → IsSound (contents_at ground' scan (with_items v registers').items space) × Runs (contents_at ground scan v.items space) (contents_at ground' scan (with_items v registers').items space) before after c r
  lent_runs lent count law sound allowed none performs told =
      subst (λ (ws : List Parts). IsSound (contents_at ground' scan ws space) × Runs (contents_at ground scan v.items space) (contents_at ground' scan ws space) before after c r)
      (sym (with_items_is v registers' (performs.others.count ∙ count)))
      (performs_runs (g.seen ground.mem) (g.seen ground'.mem) ground.table ground'.table scan v.items registers' space (g.faults ground.mem) (g.faults ground'.mem) (g.resident ground.mem) (g.resident ground'.mem) (counted g ground.mem) (counted g ground'.mem) before after c r
      law sound ground'.sound.marked allowed none (subst (λ (ws : List Parts). Performs (g.seen ground.mem) ground.table ws (g.seen ground'.mem) ground'.table registers' c r) lent performs) told)

pub lent_consistent : {M : Type 0} {g : Ghosts M} (ground : Ground M g) {scan : Scan} {lent registers : List Parts} {space : Space} → lent ≡ registers → IsSound (contents_at ground scan registers space) → RepresentsState (g.seen ground.mem) ground.table lent
lent_consistent {M} {g} ground {scan} {lent} {registers} {space} same sound = rw (same) (consistent (g.seen ground.mem) ground.table scan registers space (g.faults ground.mem) (g.resident ground.mem) (counted g ground.mem) sound)
