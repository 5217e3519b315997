-- A memory, and the same in lists.
use Rattle.std.proofs.Common.{◌≡◌, ℕ, ◌*◌, ◌/◌, ◌<◌, sym, ◌∙◌, ap, subst, arith, List, length}
use Rattle.std.specs.Prelude.{map, slice_index}
use Rattle.std.specs.List.{range_with_len}
use Rattle.std.proofs.lemmas.List.FromFn.{get_or-map-range_with_len}
use Rattle.std.proofs.lemmas.List.{length-map}
use Rattle.std.proofs.lemmas.Option.{slice_get_within}
use Rattle.store_word.specs.Sets.{HasLevel}
use Rattle.store_word.specs.Words.{Parts}
use Rattle.store_word.specs.declared.space.Space.{Space}
use Rattle.lisp_graph.specs.declared.object.Value.{Value}
use Rattle.lisp_graph.specs.declared.world.AreaKind.{AreaKind}
use Rattle.lisp_graph.specs.declared.world.AreaRule.{AreaRule}
use Rattle.mem_port.specs.Store.{MarksHold, Store, StoresNothing, level_of_word}
use Rattle.area_space.specs.Table.{Table}
use Rattle.word_graph.specs.lisp_meaning.State.{Phase, Idle, Running, State}
use Rattle.word_graph.specs.lisp_meaning.State as M
use Rattle.word_graph.specs.lisp_meaning.Roles.{RoleMap}
use Rattle.word_graph.specs.lisp_ground.GroundInvariant.{GroundInvariant}
use Rattle.word_graph.specs.lisp_meaning.Interpretation.{Interpretation, interpretation}
use Rattle.scavenger.specs.Scan.{Scan}
use Rattle.scavenger.specs.Collecting.{ScanInvariant, Collects}
use Rattle.heap_state.specs.Consistent.{RepresentsState}
use Rattle.heap_state.specs.RepresentsAll.{RepresentsAll}
use Rattle.heap_state.specs.Scans.{Scans}
use Rattle.heap_collect.specs.Moments.{RepresentsMachineState}
use Rattle.lisp_heap.specs.HeapView.{Counts, contents_of, lists_of, store_of}
use Rattle.lisp_heap.specs.Stands.{IsSound as IsSoundHeap}

-- What is represented doesn't depend on marks

module _ (m : Store) (marks : ℕ → ℕ) where
  abbrev other : Store
  other = record { words = m.words; levels = m.levels; marks = marks; top = m.top }

  remarked_kept : (t : Table) (it : Interpretation) → GroundInvariant m t it → GroundInvariant other t it
  remarked_kept t it x = record {
    kept = x.kept;
    ground = record { size = x.ground.size; levels_size = x.ground.levels_size; top = x.ground.top; level_live = x.ground.level_live; level_old = x.ground.level_old; blank = x.ground.blank };
    named = x.named;
    table = x.table;
    room = x.room;
    agrees = x.agrees;
  }

  remarked_clean : (t : Table) (scan : Scan) (registers : List Parts) → ScanInvariant m t scan registers → ScanInvariant other t scan registers
  remarked_clean t scan registers x = record {
    count = x.count;
    pages = x.pages;
    scanned = record { left = x.scanned.left; registers = x.scanned.registers; words = x.scanned.words; finished = x.scanned.finished; unfinished = x.scanned.unfinished };
    few = x.few;
    young = x.young;
    paged = x.paged;
    counted = x.counted;
  }

  pub remarked_collects : (t : Table) (scan : Scan) (registers : List Parts) (it : Interpretation) (values : List Value)
      → Collects m t scan registers it values → Collects other t scan registers it values
  remarked_collects t scan registers it values x = record {
    kept = remarked_kept t it x.kept;
    count = x.count;
    means = x.means;
    running = x.running;
    reaches = x.reaches;
    clean = remarked_clean t scan registers x.clean;
  }

  remarked_scans : (t : Table) (scan : Scan) (registers : List Parts) (k : RoleMap) (s : M.Store) (p : Phase) → Scans m t scan registers k s p 0 → Scans other t scan registers k s p 0
  remarked_scans t scan registers k s Idle x = x
  remarked_scans t scan registers k s (Running c) x = record { clean = remarked_clean t scan registers x.clean; over = x.over; work = x.work }

  pub remarked : (t : Table) (scan : Scan) (registers : List Parts) (k : RoleMap) (s : State) → RepresentsAll m t scan registers k s → MarksHold other → RepresentsAll other t scan registers k s
  remarked t scan registers k s x hold = record {
    represents = record { kept = remarked_kept t (interpretation k s) x.represents.kept; count = x.represents.count; means = x.represents.means; aims = x.represents.aims };
    scans = remarked_scans t scan registers k s.store s.phase x.scans;
    reach = x.reach;
    marks = hold;
  }

-- The law of marks, of the marks in a list

pub same_mark : (m : Store) (page : ℕ) → page < 16 * length m.levels → slice_index (map m.marks (range_with_len 0 (16 * length m.levels))) page ≡ m.marks page
same_mark m page low = get_or-map-range_with_len m.marks 0 (16 * length m.levels) page page 0 low (omega arith)

pub marks_listed : (m : Store) (regions : ℕ) → length m.words ≡ 4096 * regions → length m.levels ≡ regions → MarksHold m → MarksHold (store_of (lists_of m))
marks_listed m regions size count hold at word found high =
    let low = slice_get_within m.words at word found in
    let inside : at / 256 < 16 * length m.levels = omega arith in
    subst (λ (set : ℕ). HasLevel set (level_of_word m.levels word)) (sym (same_mark m (at / 256) inside)) (hold at word found high)

pub marks_back : (m : Store) (regions : ℕ) → length m.words ≡ 4096 * regions → length m.levels ≡ regions → MarksHold (store_of (lists_of m)) → MarksHold m
marks_back m regions size count hold at word found high =
    let low = slice_get_within m.words at word found in
    let inside : at / 256 < 16 * length m.levels = omega arith in
    subst (λ (set : ℕ). HasLevel set (level_of_word m.levels word)) (same_mark m (at / 256) inside) (hold at word found high)

-- Conversely too

pub listed : (m : Store) (t : Table) (scan : Scan) (registers : List Parts) (k : RoleMap) (s : State) → RepresentsAll m t scan registers k s → RepresentsAll (store_of (lists_of m)) t scan registers k s
listed m t scan registers k s x = remarked m (λ page. slice_index (lists_of m).marks page) t scan registers k s x (marks_listed m t.regions x.represents.kept.ground.size x.represents.kept.ground.levels_size x.marks)

pub unlisted : (m : Store) (t : Table) (scan : Scan) (registers : List Parts) (k : RoleMap) (s : State) → RepresentsAll (store_of (lists_of m)) t scan registers k s → RepresentsAll m t scan registers k s
unlisted m t scan registers k s x = remarked (store_of (lists_of m)) m.marks t scan registers k s x (marks_back m t.regions x.represents.kept.ground.size x.represents.kept.ground.levels_size x.marks)

-- What each heap has

module _ (m : Store) (t : Table) (scan : Scan) (registers : List Parts) (space : Space) (faults : ℕ) (resident : List ℕ) (counts : Counts) (sound : IsSoundHeap (contents_of m t scan registers space faults resident counts)) where
  pub standing : RepresentsMachineState m t scan registers
  standing =
      let found = sound.stands in
      record { map = found.1.map; state = found.0; represents = unlisted m t scan registers found.1.map found.0 found.1.represents }

  pub consistent : RepresentsState m t registers
  unfolding standing
  consistent =
      let found = sound.stands in
      let same = ap (λ (ks : List AreaKind). length ks) found.1.kinds in
      let all = length-map found.0.areas (λ (rule : AreaRule). rule.kind) in
      let some = sound.areas.0 in
      record { map = found.1.map; state = found.0; represents = standing.represents.represents; reach = found.1.represents.reach; some = omega arith }

-- Memory that was read

same_store : (m n : Store) → StoresNothing m n → n ≡ other m n.marks
same_store m n x =
    ap (λ (ws : List Parts). record { words = ws; levels = n.levels; marks = n.marks; top = n.top }) x.words
    ∙ ap (λ (ls : List ℕ). record { words = m.words; levels = ls; marks = n.marks; top = n.top }) x.levels
    ∙ ap (λ (top : ℕ). record { words = m.words; levels = m.levels; marks = n.marks; top = top }) x.top

pub read_all : (m n : Store) (t : Table) (scan : Scan) (registers : List Parts) (k : RoleMap) (s : State) → StoresNothing m n → MarksHold n → RepresentsAll m t scan registers k s → RepresentsAll n t scan registers k s
read_all m n t scan registers k s x hold b =
    subst (λ (y : Store). RepresentsAll y t scan registers k s) (sym (same_store m n x)) (remarked m n.marks t scan registers k s b (subst MarksHold (same_store m n x) hold))
