-- What the machine represents.
use Rattle.std.specs.Prelude.{◌≡◌, ℕ, ◌<◌, List, length, Some}
use Rattle.store_word.specs.Words.{Parts}
use Rattle.lisp_graph.specs.declared.command.Command.{Command}
use Rattle.lisp_graph.specs.declared.reply.Reply.{Reply}
use Rattle.lisp_graph.specs.declared.world.AreaRule.{AreaRule}
use Rattle.lisp_graph.specs.Effect.{Effect, effect}
use Rattle.mem_port.specs.Store.{Store}
use Rattle.area_space.specs.Table.{Table, areas_of, levels_of}
use Rattle.heap_state.specs.lisp_meaning.State.{State}
use Rattle.heap_state.specs.lisp_meaning.Flip.{graph_of}
use Rattle.heap_state.specs.lisp_meaning.Roles.{RoleMap}
use Rattle.heap_state.specs.lisp_meaning.Sound.{IsAllowed}
use Rattle.scavenger.specs.Scan.{Scan}
use Rattle.heap_state.specs.RepresentsAll.{RepresentsAll}
use Rattle.heap_state.specs.Performs.{Performs, PerformsAt}
use Rattle.heap_collect.specs.Admitting.{HasLeft, Wants}

-- some state is represented, of a world of these areas with eight registers, whose allocations scan nothing
pub record IsMachine (m : Store) (t : Table) (scan : Scan) (registers : List Parts) (areas : List AreaRule) : Type 0 where
  pub map : RoleMap
  pub state : State
  pub represents : RepresentsAll m t scan registers map state
  pub areas_are : state.areas ≡ areas
  pub some : 0 < length areas
  pub rate : state.space.rate ≡ 0
  pub eight : state.space.registers ≡ 8
  pub count : length registers ≡ 8

-- a command on the graph was performed
pub record IsPlayed (m : Store) (t : Table) (registers : List Parts) (m' : Store) (t' : Table) (registers' : List Parts) : Type 0 where
  pub command : Command
  pub reply : Reply
  pub allowed : IsAllowed command
  pub acts : (s : State) → (e : Effect) × (effect (graph_of s) command ≡ Some e)
  pub performs : Performs m t registers m' t' registers' command reply

-- the area and the level exist, and the quota allows this many words, at least one
pub record HasRoomAt (t : Table) (area level charge : ℕ) : Type 0 where
  pub some : 0 < charge
  pub area_in : area < areas_of t
  pub level_in : level < levels_of t
  pub left : HasLeft t area charge

-- a maker was performed in an area, at a level
pub record IsMade (m : Store) (t : Table) (registers : List Parts) (m' : Store) (t' : Table) (registers' : List Parts) (area level : ℕ) (reply : Reply) : Type 0 where
  pub command : Command
  pub charge : ℕ
  pub allowed : IsAllowed command
  pub room : HasRoomAt t area level charge
  pub wants : (s : State) → Wants s command area charge
  pub performs : PerformsAt m t registers m' t' registers' command reply area level
