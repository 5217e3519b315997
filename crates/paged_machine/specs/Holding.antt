-- What a machine holds, and what it can be given.
use Rattle.std.specs.Prelude.{ℕ, ◌<◌, ◌≤◌, length, Bool, true, false, Option, Some, None}
use Rattle.std.specs.List.{All}
use Rattle.lisp_graph.specs.declared.command.Command.{Command}
use Rattle.lisp_graph.specs.declared.command.Command.TheVariants as C
use Rattle.lisp_graph.specs.Commands.{IsPlain}
use Rattle.lisp_heap.specs.lisp_meaning.State.{State}
use Rattle.lisp_heap.specs.lisp_meaning.Stands.{Stands as Means}
use Rattle.lisp_heap.specs.HeapView.{HeapView}
use Rattle.lisp_heap.specs.Stands.{Stands, machine_of}
use Rattle.paged_machine.specs.declared.machine.MachineStage.{MachineStage}
use Rattle.paged_machine.specs.declared.machine.MachineStage.TheVariants.{Swap, Memory, Part, Heap}

-- whether it holds its swap alone; the contents of its heap, once a world was loaded; and how often the swap failed
pub record Holding : Type 0 where
  pub idle : Bool
  pub heap : Option HeapView
  pub faults : ℕ

-- what is held: a swap, a memory over it, or a heap over that, into which a world was loaded or wasn't
abbrev pub held_as : {D : Type 0} → (D → ℕ) → MachineStage D → Holding
held_as faults (Swap swap) = record { idle = true; heap = None; faults = faults swap }
held_as faults (Memory memory) = record { idle = false; heap = None; faults = faults memory.1 }
held_as faults (Part heap) = record { idle = false; heap = None; faults = heap.faults }
held_as faults (Heap heap) = record { idle = false; heap = Some heap; faults = heap.faults }

-- nothing is held only while something else is opened
abbrev pub holding : {D : Type 0} → (D → ℕ) → Option (MachineStage D) → Holding
holding faults None = record { idle = false; heap = None; faults = 0 }
holding faults (Some stage) = held_as faults stage

-- the heap represents the state
abbrev pub StandsFor : Option HeapView → State → Type 0
StandsFor None s = ⊥
StandsFor (Some heap) s = Stands heap s

-- the heap has the meaning of the state: under a naming, each register and each object is found in its words
abbrev pub HasReading : Option HeapView → State → Type 0
HasReading None s = ⊥
HasReading (Some heap) s = Means (machine_of heap) s

-- a command whose registers and areas are below these numbers, within the limits of its other numbers
abbrev pub CanRun : ℕ → ℕ → Command → Type 0
CanRun registers areas (C.Set to value) = (to < registers) × IsPlain value
CanRun registers areas (C.Move to from) = (to < registers) × (from < registers)
CanRun registers areas (C.Cons to area car cdr) = (to < registers) × (area < areas) × (car < registers) × (cdr < registers)
CanRun registers areas (C.List to area items) = (to < registers) × (area < areas) × ((1 ≤ length items) × All (λ item. item < registers) items)
CanRun registers areas (C.Make to area code count) = (to < registers) × (area < areas) × (count ≤ 2047)
CanRun registers areas (C.Grow target count) = (target < registers) × (count ≤ 2047)
CanRun registers areas (C.Car to from) = (to < registers) × (from < registers)
CanRun registers areas (C.Cdr to from) = (to < registers) × (from < registers)
CanRun registers areas (C.Rplaca target from) = (target < registers) × (from < registers)
CanRun registers areas (C.Rplacd target from) = (target < registers) × (from < registers)
CanRun registers areas (C.Eq left right) = (left < registers) × (right < registers)
CanRun registers areas (C.Get to from index) = (to < registers) × (from < registers)
CanRun registers areas (C.Put target index from) = (target < registers) × (from < registers)
CanRun registers areas (C.Size of) = of < registers
CanRun registers areas (C.Flip what) = Unit {0}
CanRun registers areas (C.Scavenge count) = Unit {0}
CanRun registers areas C.Reclaim = Unit {0}
CanRun registers areas (C.PageOut count) = Unit {0}
CanRun registers areas C.Stats = Unit {0}
CanRun registers areas C.Dump = Unit {0}

-- the machine can be given the command: its world was loaded, and its heap has the command's registers and areas
abbrev pub Takes : Option HeapView → Command → Type 0
Takes None command = ⊥
Takes (Some heap) command = CanRun (length heap.registers) (length heap.table.kinds) command
