-- The parts of a heap that calls look at.
use Rattle.std.proofs.Common.{◌≡◌, ℕ, ◌*◌, true, false, List, length}
use Rattle.store_word.specs.Words.{Parts}
use Rattle.store_word.specs.declared.space.Space.{Space}
use Rattle.mem_port.specs.Store.{Store}
use Rattle.area_space.specs.Ground.{IsGround}
use Rattle.area_space.specs.Table.{Table}
use Rattle.word_graph.specs.lisp_meaning.State.{Phase, Idle, Running}
use Rattle.word_graph.specs.lisp_meaning.State as M
use Rattle.word_graph.specs.lisp_meaning.Roles.{RoleMap}
use Rattle.scavenger.specs.Scan.{Scan}
use Rattle.scavenger.specs.Collecting.{ScanInvariant}
use Rattle.heap_state.specs.Scans.{Scans}
use Rattle.lisp_heap.specs.HeapView.{Counts, contents_of}
use Rattle.lisp_heap.specs.Stands.{IsSound}
use Rattle.lisp_heap.proofs.ListedMemory.{standing}

module _ (m : Store) (t : Table) (scan : Scan) (registers : List Parts) (k : RoleMap) (s : M.Store) where
  each_page : (p : Phase) → Scans m t scan registers k s p 0 → length scan.pages ≡ 16 * t.regions
  each_page Idle x = x.pages
  each_page (Running c) x = x.clean.pages

  going : scan.over ≡ false → (p : Phase) → Scans m t scan registers k s p 0 → ScanInvariant m t scan registers
  going runs Idle x = absurd (let over : scan.over ≡ true = x.over in cc)
  going runs (Running c) x = x.clean

module _ (m : Store) (t : Table) (scan : Scan) (registers : List Parts) (space : Space) (faults : ℕ) (resident : List ℕ) (counts : Counts) (sound : IsSound (contents_of m t scan registers space faults resident counts)) where
  pub ground_looked : IsGround m t
  ground_looked = (standing m t scan registers space faults resident counts sound).represents.represents.kept.ground

  pub pages_looked : length scan.pages ≡ 16 * t.regions
  pages_looked =
      let found = standing m t scan registers space faults resident counts sound in
      each_page m t scan registers found.map found.state.store found.state.phase found.represents.scans

  pub clean_looked : scan.over ≡ false → ScanInvariant m t scan registers
  clean_looked runs =
      let found = standing m t scan registers space faults resident counts sound in
      going m t scan registers found.map found.state.store runs found.state.phase found.represents.scans
