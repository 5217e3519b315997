-- What holds of all machines between two commands.
use Rattle.std.specs.Prelude.{◌≡◌, ℕ, ◌+◌, ◌<◌, true, false, List, length, get_or, slice_set, Some, IsTrue}
use Rattle.store_word.specs.Words.{Parts}
use Rattle.lisp_graph.specs.declared.command.Command.{Command}
use Rattle.lisp_graph.specs.declared.object.Value.{Value}
use Rattle.lisp_graph.specs.declared.object.Value.TheVariants as V
use Rattle.lisp_graph.specs.declared.reply.Reply.{Reply}
use Rattle.lisp_graph.specs.declared.reply.Reply.TheVariants as R
use Rattle.mem_port.specs.Store.{Store, MarksHold, StoresNothing}
use Rattle.area_space.specs.Table.{Table, IsOld}
use Rattle.transporter.specs.lisp_meaning.State.{State, Phase, Idle, Running, Collection, aim_of}
use Rattle.transporter.specs.lisp_meaning.State as M
use Rattle.transporter.specs.lisp_meaning.Roles.{RoleMap, value_of}
use Rattle.transporter.specs.lisp_meaning.Sound.{IsAllowed, Reach}
use Rattle.transporter.specs.lisp_meaning.Step.{Answer, Step, may_fault, scans}
use Rattle.transporter.specs.lisp_meaning.Invariant.{MachineInvariant}
use Rattle.transporter.specs.lisp_ground.Image.{image_of}
use Rattle.transporter.specs.lisp_ground.Collecting.{StandsOn}
use Rattle.transporter.specs.Settling.{IsKeptValue}
use Rattle.scavenger.specs.Scan.{Scan}
use Rattle.scavenger.specs.Left.{rest_of}
use Rattle.scavenger.specs.Collecting.{ScanInvariant}
use Rattle.heap_state.specs.HasScannedAhead.{ScansAhead}
use Rattle.heap_state.specs.Represents.{Represents}
use Rattle.heap_state.specs.RepresentsAll.{RepresentsAll}
use Rattle.heap_state.specs.RepresentsLater.{RepresentsLater}
use Rattle.heap_state.specs.Performs.{Performs, PerformsOn}
use Rattle.heap_state.specs.Scans.{IsScanless, Scans, Sweeps}
use Rattle.heap_state.specs.StepsTo.{PaysAhead, PaysFor, StepsTo}

-- Transitions

-- what is performed is a transition
abbrev pub PerformsIsStep : Type 0
PerformsIsStep = (m m' : Store) (t t' : Table) (scan : Scan) (registers registers' : List Parts) (k : RoleMap) (s : State) (c : Command) (r : Reply) (ahead : ℕ)
    → Represents m t registers k s → Scans m t scan registers k s.store s.phase ahead → Reach s s.phase → PaysAhead s c ahead
    → Performs m t registers m' t' registers' c r → StepsTo m' t' scan registers' s c r

-- an allocation that the quota allows is one, if the units that it pays for were scanned, or all that remained
abbrev pub AllocationIsStep : Type 0
AllocationIsStep = (m m' : Store) (t t' : Table) (scan : Scan) (registers registers' : List Parts) (k : RoleMap) (s : State) (c : Command) (r : Reply) (ahead : ℕ)
    → Represents m t registers k s → ScansAhead m t scan registers k s.store s.phase ahead → Reach s s.phase → PaysFor s c ahead
    → PerformsOn m t registers m' t' registers' c r k s → StepsTo m' t' scan registers' s c r

-- and so is a swap error in a scan
abbrev pub FaultIsStep : Type 0
FaultIsStep = (m : Store) (t : Table) (scan : Scan) (registers : List Parts) (k : RoleMap) (s : State) (c : Command) (ahead : ℕ)
    → Represents m t registers k s → ScansAhead m t scan registers k s.store s.phase ahead → IsTrue (may_fault c) → scans s c R.Fault ≡ true → StepsTo m t scan registers s c R.Fault

-- while a unit remains less is paid than is owed
abbrev pub AtLast : Type 0
AtLast = (m : Store) (t : Table) (scan : Scan) (registers : List Parts) (k : RoleMap) (s : M.Store) (c : Collection) → Sweeps m t scan registers k s c 0 → c.over ≡ false → c.paid < c.owed

-- after a transition a collection keeps what the registers lead to
abbrev pub ReachStays : Type 0
ReachStays = (m : Store) (t : Table) (scan : Scan) (registers : List Parts) (k : RoleMap) (s : State) (c : Command) (a : Answer) (next : State)
    → RepresentsAll m t scan registers k s → 0 < s.space.registers → IsAllowed c → Step s c a next → Reach next next.phase

-- and the machine represents the state after it
abbrev pub StepsRepresent : Type 0
StepsRepresent = (m m' : Store) (t t' : Table) (scan scan' : Scan) (registers registers' : List Parts) (k : RoleMap) (s : State) (c : Command) (r : Reply)
    → RepresentsAll m t scan registers k s → 0 < s.space.registers → IsAllowed c → (x : StepsTo m' t' scan' registers' s c r) → MarksHold m' → RepresentsAll m' t' scan' registers' x.map x.next

-- The invariant

-- what is represented and scanned is the whole invariant
abbrev pub IsMachineInvariant : Type 0
IsMachineInvariant = (m : Store) (t : Table) (scan : Scan) (registers : List Parts) (k : RoleMap) (s : State)
    → Represents m t registers k s → Scans m t scan registers k s.store s.phase 0 → Reach s s.phase → MarksHold m → MachineInvariant (image_of m t (rest_of scan t registers)) k s

-- the scan set has the machine's sizes, and while no collection runs no unit remains; while one runs it is clean
abbrev pub ScanMatchesPhase : Store → Table → Scan → List Parts → Phase → Type 0
ScanMatchesPhase m t scan registers Idle = IsScanless t scan registers
ScanMatchesPhase m t scan registers (Running c) = ScanInvariant m t scan registers × (scan.over ≡ c.over)

-- what is represented is what a machine represents, and conversely
pub record RepresentsIsStands : Type 0 where
  pub stands : (m : Store) (t : Table) (scan : Scan) (registers : List Parts) (k : RoleMap) (s : State) → RepresentsAll m t scan registers k s → StandsOn m t (rest_of scan t registers) k s
  pub represents : (m : Store) (t : Table) (scan : Scan) (registers : List Parts) (k : RoleMap) (s : State)
      → StandsOn m t (rest_of scan t registers) k s → ScanMatchesPhase m t scan registers s.phase → MarksHold m → RepresentsAll m t scan registers k s

-- Changes of what is represented

-- while a region is old, a collection runs and keeps each register's value
abbrev pub KeptRegister : Type 0
KeptRegister = (m : Store) (t : Table) (registers : List Parts) (k : RoleMap) (s : State) (r region : ℕ)
    → Represents m t registers k s → Reach s s.phase → r < length s.registers → IsOld t region → IsKeptValue t s.registers s.store (aim_of s.phase) (get_or s.registers r V.Nil)

-- two changes, one after the other
abbrev pub RepresentsTwice : Type 0
RepresentsTwice = (m m1 m2 : Store) (t t1 t2 : Table) (registers1 registers2 : List Parts) (k : RoleMap) (s s1 s2 : State) (more more' : ℕ)
    → (x : RepresentsLater m t m1 t1 registers1 k s s1 more) → RepresentsLater m1 t1 m2 t2 registers2 x.map s1 s2 more' → RepresentsLater m t m2 t2 registers2 k s s2 (more + more')

-- nothing was stored
abbrev pub ReadOn : Type 0
ReadOn = (m m' : Store) (t : Table) (registers : List Parts) (k : RoleMap) (s : State) → Represents m t registers k s → StoresNothing m m' → RepresentsLater m t m' t registers k s s 0

-- a register got a word with a value
abbrev pub RegisterSet : Type 0
RegisterSet = (m : Store) (t : Table) (registers : List Parts) (k : RoleMap) (s : State) (to : ℕ) (word : Parts) (v : Value)
    → Represents m t registers k s → to < length registers → value_of k.role word.content ≡ Some v
    → Represents m t (slice_set registers to word) k (record s { registers = slice_set s.registers to v })

-- How what is represented changes when registers and memory change.
pub record RepresentedChanges : Type 0 where
  pub kept : KeptRegister
  pub twice : RepresentsTwice
  pub read : ReadOn
  pub register : RegisterSet
