-- What a command does to what is represented.
use Rattle.std.specs.Prelude.{◌≡◌, ◌≢◌, ℕ, ◌⊎◌, List, Some, IsTrue}
use Rattle.store_word.specs.Words.{Parts}
use Rattle.lisp_graph.specs.declared.command.Command.{Command}
use Rattle.lisp_graph.specs.declared.reply.Reply.{Reply}
use Rattle.lisp_graph.specs.declared.reply.Reply.TheVariants as R
use Rattle.lisp_graph.specs.Effect.{Effect, effect}
use Rattle.mem_port.specs.Store.{Store}
use Rattle.area_space.specs.Table.{Table}
use Rattle.transporter.specs.lisp_meaning.State.{State, new_level, rule_of}
use Rattle.transporter.specs.lisp_meaning.Flip.{graph_of}
use Rattle.transporter.specs.lisp_meaning.Roles.{RoleMap}
use Rattle.transporter.specs.lisp_meaning.Sound.{Reach}
use Rattle.transporter.specs.lisp_meaning.Step.{answer_of, may_fault}
use Rattle.transporter.specs.Preserving.{NoOldAddresses, PreservesScanned, RegistersPreserved}
use Rattle.heap_state.specs.Marks.{MarksOf}
use Rattle.heap_state.specs.Represents.{Represents}
use Rattle.heap_state.specs.RepresentsLater.{RepresentsLater}
use Rattle.heap_state.specs.Reads.{reads, IsDone}
use Rattle.heap_state.specs.Settled.{NoOldAddressesInRegisters, IsSettled}
use Rattle.heap_state.specs.Wanting.{owed_wanting}

-- a swap error occurred, and what was represented is represented
abbrev pub FaultsOn : Store → Table → Store → Table → List Parts → Command → Reply → RoleMap → State → Type 0
FaultsOn m t m' t' registers' c r k s = (r ≡ R.Fault) × IsTrue (may_fault c) × RepresentsLater m t m' t' registers' k s s 0

-- the command has this effect, and what is represented is the state after it
pub record AnswersOn (m : Store) (t : Table) (m' : Store) (t' : Table) (registers' : List Parts) (c : Command) (r : Reply) (k : RoleMap) (s : State) : Type 0 where
  pub effect_of : Effect
  pub is : effect (graph_of s) c ≡ Some effect_of
  pub reply : r ≡ (answer_of s c effect_of).0
  pub sure : r ≢ R.Fault
  pub represented : RepresentsLater m t m' t' registers' k s (answer_of s c effect_of).1 (owed_wanting s c effect_of effect_of.wanted)

-- what is represented after a command with this reply: its effect, or after a swap error what was represented before. (Eight parameters: memory, table and registers, each before and after, and the command with its reply.)
pub record Performs (m : Store) (t : Table) (registers : List Parts) (m' : Store) (t' : Table) (registers' : List Parts) (c : Command) (r : Reply) : Type 0 where
  pub performed : (k : RoleMap) (s : State) → Represents m t registers k s → Reach s s.phase → FaultsOn m t m' t' registers' c r k s ⊎ AnswersOn m t m' t' registers' c r k s
  pub preserves : PreservesScanned m t m' t'
  pub others : RegistersPreserved t' registers registers'
  pub stays_fresh : NoOldAddressesInRegisters t registers → NoOldAddresses m t → NoOldAddresses m' t'
  pub marks : MarksOf c r m t m' t'
  -- each register that was read is settled, if the command was done
  pub settled : IsDone r → (i : ℕ) → IsTrue (reads c i) → IsSettled t' registers' i

-- the same for one state, represented by one map
pub record PerformsOn (m : Store) (t : Table) (registers : List Parts) (m' : Store) (t' : Table) (registers' : List Parts) (c : Command) (r : Reply) (k : RoleMap) (s : State) : Type 0 where
  pub performed : FaultsOn m t m' t' registers' c r k s ⊎ AnswersOn m t m' t' registers' c r k s
  pub preserves : PreservesScanned m t m' t'
  pub others : RegistersPreserved t' registers registers'
  pub stays_fresh : NoOldAddressesInRegisters t registers → NoOldAddresses m t → NoOldAddresses m' t'
  pub marks : MarksOf c r m t m' t'
  pub settled : IsDone r → (i : ℕ) → IsTrue (reads c i) → IsSettled t' registers' i

-- and for each state in which the objects that a command makes in an area are of this level. (Ten parameters: memory, table and registers, each before and after, the command with its reply, and an area with its level.)
abbrev pub PerformsAt : Store → Table → List Parts → Store → Table → List Parts → Command → Reply → ℕ → ℕ → Type 0
PerformsAt m t registers m' t' registers' c r area level =
    (k : RoleMap) (s : State) → Represents m t registers k s → Reach s s.phase → level ≡ new_level (rule_of s.areas area).kind → PerformsOn m t registers m' t' registers' c r k s
