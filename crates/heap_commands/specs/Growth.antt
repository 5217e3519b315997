-- A block in a register that is to grow.
use Rattle.std.specs.Prelude.{◌≡◌, ◌≢◌, ℕ, suc, ◌+◌, ◌<◌, ◌≤◌, List, None, length, Bool, false}
use Rattle.store_word.specs.Words.{Parts}
use Rattle.lisp_graph.specs.declared.object.Value.{Value}
use Rattle.lisp_graph.specs.declared.object.Value.TheVariants as V
use Rattle.lisp_graph.specs.declared.object.Body.TheVariants.{Block}
use Rattle.lisp_graph.specs.declared.command.Command.TheVariants as C
use Rattle.lisp_graph.specs.declared.reply.Reply.{Reply}
use Rattle.lisp_graph.specs.declared.reply.Reply.TheVariants as R
use Rattle.lisp_graph.specs.Graph.{value_at}
use Rattle.lisp_graph.specs.Effect.{effect, grown_length}
use Rattle.mem_port.specs.Store.{Store}
use Rattle.area_space.specs.Table.{Table, areas_of, quota_of}
use Rattle.area_space.specs.Accounts.{account_of}
use Rattle.block_store.specs.lisp_meaning.State.{State, object}
use Rattle.block_store.specs.lisp_meaning.Flip.{graph_of}
use Rattle.block_store.specs.lisp_meaning.Roles.{RoleMap}
use Rattle.block_store.specs.lisp_meaning.Sound.{Reach}
use Rattle.block_store.specs.lisp_meaning.Step.{wanted_by}
use Rattle.heap_state.specs.Represents.{Represents}
use Rattle.heap_state.specs.Performs.{Performs}
use Rattle.heap_state.specs.Reads.{is_fault}
use Rattle.heap_state.specs.Settled.{IsSettled}
use Rattle.heap_commands.specs.declared.blocks.growing.Growing.{Growing}
use Rattle.heap_commands.specs.declared.blocks.growing.Growing.TheVariants.{Answered, Wants}

-- a value refers to a block
pub record IsBlock (s : State) (v : Value) : Type 0 where
  pub name : ℕ
  pub code : ℕ
  pub fields : List Value
  pub value : v ≡ V.Ref name
  pub body : (object s.store name).body ≡ Block code fields

-- a register refers to a block of this area, which has fewer fields than requested, and will be charged this much
pub record IsGrowing (s : State) (target wanted area charge : ℕ) : Type 0 where
  pub block : IsBlock s (value_at s.registers target)
  pub area_is : (object s.store block.name).area ≡ area
  pub fewer : length block.fields < wanted
  pub charge_is : charge ≡ suc (grown_length (length block.fields) wanted)

-- it does in each state that is represented, and the register is settled
pub record WantsGrowth (m : Store) (t : Table) (registers : List Parts) (target wanted area charge : ℕ) : Type 0 where
  pub settled : IsSettled t registers target
  pub area_in : area < areas_of t
  pub grows : (k : RoleMap) (s : State) → Represents m t registers k s → IsGrowing s target wanted area charge

-- the reply was performed, and in each state that was represented no words are needed, or the swap failed
pub record IsAnswered (m : Store) (t : Table) (registers : List Parts) (m' : Store) (t' : Table) (registers' : List Parts) (target wanted : ℕ) (reply : Reply) : Type 0 where
  pub performs : Performs m t registers m' t' registers' (C.Grow target wanted) reply
  pub unwanted : reply ≢ R.Fault → (k : RoleMap) (s : State) → Represents m t registers k s → Reach s s.phase → wanted_by (effect (graph_of s) (C.Grow target wanted)) ≡ None

-- what was found: a reply, or what a block will be charged. (Nine parameters: memory, table and registers, each before and after, the two arguments of the command, and what was returned.)
abbrev pub Finds : Store → Table → List Parts → Store → Table → List Parts → ℕ → ℕ → Growing → Type 0
Finds m t registers m' t' registers' target wanted (Answered reply) = IsAnswered m t registers m' t' registers' target wanted reply
Finds m t registers m' t' registers' target wanted (Wants area charge) = WantsGrowth m' t' registers' target wanted area charge

-- the reply was found because a page call failed
abbrev pub is_found_fault : Growing → Bool
is_found_fault (Answered reply) = is_fault reply
is_found_fault (Wants area charge) = false

-- some state is represented in which the block may grow: its new charge fits the quota of its area
pub record CanGrowIn (m : Store) (t : Table) (registers : List Parts) (target wanted : ℕ) : Type 0 where
  pub map : RoleMap
  pub state : State
  pub represents : Represents m t registers map state
  pub area : ℕ
  pub charge : ℕ
  pub growing : IsGrowing state target wanted area charge
  pub area_in : area < areas_of t
  pub fits : account_of t area + charge ≤ quota_of t area

-- the number of words placed is the block's charge in each state that was represented. (Six parameters: memory, table and registers before, the table after, and the two arguments of the command.)
abbrev pub PlacesGrowth : Store → Table → List Parts → Table → ℕ → ℕ → Type 0
PlacesGrowth m t registers t' target wanted =
    (k : RoleMap) (s : State) (area charge : ℕ) → Represents m t registers k s → IsGrowing s target wanted area charge → t'.placed ≡ t.placed + charge
