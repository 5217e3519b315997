-- What it means that a heap represents a state.
use Rattle.std.specs.Prelude.{◌≡◌, ◌≢◌, ◌+◌, ◌≤◌, ◌<◌, ℕ, Bool, true, false, if◌then◌else◌, List, length, IsTrue}
use Rattle.lisp_graph.specs.declared.command.Command.{Command}
use Rattle.lisp_graph.specs.declared.command.Command.TheVariants as C
use Rattle.lisp_graph.specs.declared.reply.Reply.{Reply}
use Rattle.lisp_graph.specs.declared.reply.Reply.TheVariants as R
use Rattle.lisp_graph.specs.World.{IsSpace}
use Rattle.area_space.specs.Fresh.{kinds_in}
use Rattle.word_graph.specs.lisp_meaning.State.{State}
use Rattle.word_graph.specs.lisp_meaning.Step.{Replied}
use Rattle.word_graph.specs.lisp_meaning.Run.{Does, allocates}
use Rattle.word_graph.specs.lisp_meaning.Image.{Image}
use Rattle.word_graph.specs.lisp_meaning.Roles.{RoleMap}
use Rattle.word_graph.specs.lisp_ground.Image.{image_of}
use Rattle.scavenger.specs.Left.{rest_of}
use Rattle.heap_state.specs.RepresentsAll.{RepresentsAll}
use Rattle.heap_state.specs.Reads.{reads, IsDone}
use Rattle.heap_state.specs.Settled.{IsSettled}
use Rattle.heap_collect.specs.Silent.{resident_from}
use Rattle.lisp_heap.specs.HeapView.{HeapView, SameWorld, store_of}
use Rattle.lisp_heap.specs.Costs.{done_at, placed_at}
use Rattle.lisp_heap.specs.Marked.{MarksPages}

-- the memory image of the heap: its memory, its table, its registers and what remains to be scanned
abbrev pub machine_of : HeapView → Image
machine_of heap = image_of (store_of heap.memory) heap.table (rest_of heap.scan heap.table heap.registers)

-- The heap represents the state: memory, table, registers and scan do, by a map of its words, and space and areas are the state's.
pub record Stands (heap : HeapView) (s : State) : Type 0 where
  pub map : RoleMap
  pub represents : RepresentsAll (store_of heap.memory) heap.table heap.scan heap.registers map s
  pub space : heap.space ≡ s.space
  pub kinds : heap.table.kinds ≡ kinds_in s.areas

-- The invariant of each heap: it represents some state, and has a machine's sizes.
pub record IsSound (heap : HeapView) : Type 0 where
  pub stands : (s : State) × Stands heap s
  pub sizes : IsSpace heap.space
  pub areas : (1 ≤ length heap.table.kinds) × (length heap.table.kinds ≤ 16)
  pub registers : length heap.registers ≡ heap.space.registers
  pub regions : heap.table.regions ≡ heap.space.regions

-- the units scanned, and the words placed since the flip, of the collection that runs when a command begins, after the silent steps before it
abbrev pub done_before : Command → HeapView → ℕ
done_before c heap = if allocates c then done_at heap else heap.scan.done

abbrev pub placed_before : Command → HeapView → ℕ
placed_before c heap = if allocates c then placed_at heap else heap.table.placed

-- What a command did before it met a swap error remains: units that were scanned are scanned, and what was transported is where it was placed.
pub record Keeps (c : Command) (old new : HeapView) : Type 0 where
  pub scanned : done_before c old ≤ new.scan.done
  pub placed : placed_before c old ≤ new.table.placed

-- a command may scan units, or begins a scan: an allocation pays for units, `scavenge` scans them, and `flip` begins a scan
abbrev pub scans_for : Command → Bool
scans_for (C.Flip what) = true
scans_for (C.Scavenge count) = true
scans_for c = allocates c

-- a command evicts pages, or makes pages empty
abbrev pub frees_pages : Command → Bool
frees_pages (C.PageOut count) = true
frees_pages C.Reclaim = true
frees_pages c = false

-- the pages that are resident when a command begins, in order of use: after the silent steps before it those outside the regions that were freed
abbrev pub resident_before : Command → HeapView → List ℕ
resident_before c heap = if allocates c then resident_from heap.table heap.scan heap.space heap.resident else heap.resident

-- What a command, with these counts of memory accesses before and after it, reports of the memory: each swap error is in its count, each access too. After the silent steps the number of resident pages doesn't fall or, if the reply is `fault`, falls by one at most, for a page that was evicted for one that wasn't read.
pub record Told (old new : HeapView) (before after : ℕ) (c : Command) (r : Reply) : Type 0 where
  pub later : old.faults ≤ new.faults
  pub fault : r ≡ R.Fault → old.faults < new.faults
  pub sure : r ≢ R.Fault → new.faults ≡ old.faults
  pub honest : new.counts.taken + before ≡ old.counts.taken + after
  pub room : r ≢ R.Fault → frees_pages c ≡ false → length (resident_before c old) ≤ length new.resident
  pub gone : frees_pages c ≡ false → length (resident_before c old) ≤ length new.resident + 1

-- A command ran with this reply: from each state that the heap represented the definition does it, and the heap represents what follows. The world is the same, and what it met is reported; a swap error undoes nothing. A register that was read is settled, if the command was done. No page got marks without a word that may give them. A command that neither pays for units nor begins a scan leaves the scan as it is. (Six parameters: the heap and the count of accesses, each before and after, and the command with its reply.)
pub record Runs (old new : HeapView) (before after : ℕ) (c : Command) (r : Reply) : Type 0 where
  pub does : (s : State) → Stands old s → ((next : State) × Does s c (Replied r) next × Stands new next)
  pub world : SameWorld old new
  pub told : Told old new before after c r
  pub kept : r ≡ R.Fault → Keeps c old new
  pub settled : IsDone r → (i : ℕ) → IsTrue (reads c i) → IsSettled new.table new.registers i
  pub marks : MarksPages c r (store_of old.memory) old.table (store_of new.memory) new.table
  pub still : scans_for c ≡ false → new.scan ≡ old.scan
