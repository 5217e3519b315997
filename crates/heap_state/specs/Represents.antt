-- What a ground and registers represent.
use Rattle.std.specs.Prelude.{◌≡◌, ℕ, ◌<◌, List, length, get_or, Some}
use Rattle.store_word.specs.Words.{Parts, null_word}
use Rattle.lisp_graph.specs.declared.object.Value.TheVariants as V
use Rattle.mem_port.specs.Store.{Store}
use Rattle.area_space.specs.Table.{Table}
use Rattle.transporter.specs.lisp_meaning.State.{State}
use Rattle.transporter.specs.lisp_meaning.Roles.{RoleMap, value_of}
use Rattle.transporter.specs.lisp_ground.GroundInvariant.{GroundInvariant}
use Rattle.transporter.specs.lisp_meaning.Interpretation.{interpretation}
use Rattle.heap_state.specs.PhaseAgrees.{PhaseAgrees}

-- the ground represents the state's objects and the words of the registers have the state's values, by a map
pub record Represents (m : Store) (t : Table) (registers : List Parts) (k : RoleMap) (s : State) : Type 0 where
  pub kept : GroundInvariant m t (interpretation k s)
  pub count : length registers ≡ length s.registers
  pub means : (r : ℕ) → r < length s.registers → value_of k.role (get_or registers r null_word).content ≡ Some (get_or s.registers r V.Nil)
  pub aims : PhaseAgrees t s.phase
