-- Laws of allocations.
use Rattle.std.specs.Prelude.{◌≡◌, ◌≢◌, ℕ, ◌*◌, ◌<◌, true, List, None}
use Rattle.store_word.specs.Words.{Parts}
use Rattle.lisp_graph.specs.declared.command.Command.{Command}
use Rattle.lisp_graph.specs.declared.reply.Reply.{Reply}
use Rattle.lisp_graph.specs.declared.reply.Reply.TheVariants as R
use Rattle.lisp_graph.specs.Effect.{effect}
use Rattle.mem_port.specs.Store.{MarksHold, Store}
use Rattle.area_space.specs.Table.{Table, areas_of, levels_of}
use Rattle.heap_state.specs.lisp_meaning.State.{State, new_level, rule_of}
use Rattle.heap_state.specs.lisp_meaning.Flip.{graph_of}
use Rattle.heap_state.specs.lisp_meaning.Roles.{RoleMap}
use Rattle.heap_state.specs.lisp_meaning.Run.{Does, allocates}
use Rattle.heap_state.specs.lisp_meaning.Sound.{IsAllowed}
use Rattle.heap_state.specs.lisp_meaning.Step.{Replied, wanted_by}
use Rattle.heap_state.specs.transporter.Preserving.{NoOldAddresses, RegistersPreserved, PreservesScanned}
use Rattle.scavenger.specs.Scan.{Scan}
use Rattle.heap_state.specs.HasScannedAhead.{HasScannedAhead}
use Rattle.heap_state.specs.RepresentsAll.{RepresentsAll}
use Rattle.heap_state.specs.RepresentsLater.{RepresentsLater}
use Rattle.heap_state.specs.Performs.{Performs, PerformsAt}
use Rattle.heap_state.specs.Settled.{NoOldAddressesInRegisters}
use Rattle.heap_state.specs.StepsTo.{StepsTo}
use Rattle.heap_collect.specs.Admitting.{HasLeft, Wants}
use Rattle.heap_collect.specs.Silent.{PreparesTo}

-- the definition does the command, and the machine represents the state after it
pub record GoesTo (m : Store) (t : Table) (scan : Scan) (registers : List Parts) (s : State) (c : Command) (r : Reply) : Type 0 where
  pub next : State
  pub does : Does s c (Replied r) next
  pub map : RoleMap
  pub represents : RepresentsAll m t scan registers map next

-- an allocation that was admitted, and then performed, is a transition
abbrev pub AdmittedIsStep : Type 0
AdmittedIsStep = (m m1 m' : Store) (t t1 t' : Table) (scan scan1 : Scan) (registers registers1 registers' : List Parts) (k : RoleMap) (s : State) (c : Command) (r : Reply) (area level charge : ℕ)
    → RepresentsAll m t scan registers k s → Wants s c area charge → area < areas_of t1 → level < levels_of t1 → level ≡ new_level (rule_of s.areas area).kind
    → HasScannedAhead m t m1 t1 scan1 registers1 k s (s.space.rate * charge) → HasLeft t1 area charge
    → PerformsAt m1 t1 registers1 m' t' registers' c r area level → StepsTo m' t' scan1 registers' s c r

-- the silent steps before an allocation and its transition are what the definition does
abbrev pub PreparedGoes : Type 0
PreparedGoes = (m m' : Store) (t t' : Table) (scan scan' : Scan) (registers registers' : List Parts) (s : State) (c : Command) (r : Reply)
    → allocates c ≡ true → IsAllowed c → 0 < s.space.registers → MarksHold m'
    → (x : PreparesTo m t scan registers s) → StepsTo m' t' scan' registers' x.mid c r → GoesTo m' t' scan' registers' s c r

-- A look before an allocation

-- what a machine represents after a call that stores at most what it transports
abbrev pub StandsAfterLook : Type 0
StandsAfterLook = (m m' : Store) (t t' : Table) (scan : Scan) (registers registers' : List Parts) (k : RoleMap) (s : State)
    → RepresentsAll m t scan registers k s → MarksHold m' → PreservesScanned m t m' t' → RegistersPreserved t' registers registers' → (NoOldAddressesInRegisters t registers → NoOldAddresses m t → NoOldAddresses m' t')
    → (x : RepresentsLater m t m' t' registers' k s s 0) → RepresentsAll m' t' scan registers' x.map s

-- what was performed before words were requested is a transition, if the command needs none or a swap error is the reply
abbrev pub UnaskedIsStep : Type 0
UnaskedIsStep = (m m' : Store) (t t' : Table) (scan : Scan) (registers registers' : List Parts) (k : RoleMap) (s : State) (c : Command) (r : Reply)
    → RepresentsAll m t scan registers k s → (r ≢ R.Fault → wanted_by (effect (graph_of s) c) ≡ None)
    → Performs m t registers m' t' registers' c r → StepsTo m' t' scan registers' s c r

-- and so is an allocation that was admitted, and then performed at the level of the object that grows
abbrev pub AdmittedCommandIsStep : Type 0
AdmittedCommandIsStep = (m m1 m' : Store) (t t1 t' : Table) (scan scan1 : Scan) (registers registers1 registers' : List Parts) (k : RoleMap) (s : State) (c : Command) (r : Reply) (area charge : ℕ)
    → RepresentsAll m t scan registers k s → Wants s c area charge → area < areas_of t1
    → HasScannedAhead m t m1 t1 scan1 registers1 k s (s.space.rate * charge) → HasLeft t1 area charge
    → Performs m1 t1 registers1 m' t' registers' c r → StepsTo m' t' scan1 registers' s c r
