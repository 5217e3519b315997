-- What a machine of two registers represents.
use Rattle.std.specs.Prelude.{◌≡◌, ℕ, ◌<◌, List, [], ◌∷◌, length, Some, None}
use Rattle.store_word.specs.Words.{Parts}
use Rattle.store_word.specs.declared.space.Space.{Space}
use Rattle.lisp_graph.specs.declared.object.Value.{Value}
use Rattle.lisp_graph.specs.declared.world.AreaRule.{AreaRule}
use Rattle.mem_port.specs.Store.{Store}
use Rattle.area_space.specs.Table.{Table, IsOld}
use Rattle.transporter.specs.lisp_meaning.State.{no_aim}
use Rattle.transporter.specs.lisp_meaning.State as M
use Rattle.transporter.specs.lisp_meaning.Sound.{Reaches}
use Rattle.transporter.specs.lisp_meaning.Roles.{RoleMap, value_of}
use Rattle.transporter.specs.lisp_ground.GroundInvariant.{GroundInvariant}
use Rattle.transporter.specs.lisp_meaning.Interpretation.{Interpretation}

-- objects of these areas while no collection runs
abbrev pub open_objects : RoleMap → Space → List AreaRule → M.Store → Interpretation
open_objects map space areas store = record { map = map; top = space.levels; areas = areas; store = store; aim = no_aim }

-- both registers have a value, and the ground represents objects; nothing is condemned
pub record IsOpen (m : Store) (t : Table) (front middle : Parts) : Type 0 where
  pub map : RoleMap
  pub space : Space
  pub areas : List AreaRule
  pub store : M.Store
  pub first : Value
  pub second : Value
  pub on : GroundInvariant m t (open_objects map space areas store)
  pub front_is : value_of map.role front.content ≡ Some first
  pub middle_is : value_of map.role middle.content ≡ Some second
  pub idle : t.aim ≡ None
  pub young : (region : ℕ) → IsOld t region → ⊥
  pub some : 0 < length areas

-- both have a value that the running collection keeps
pub record IsRunning (m : Store) (t : Table) (front middle : Parts) : Type 0 where
  pub it : Interpretation
  pub first : Value
  pub second : Value
  pub on : GroundInvariant m t it
  pub front_is : value_of it.map.role front.content ≡ Some first
  pub middle_is : value_of it.map.role middle.content ≡ Some second
  pub running : t.aim ≡ Some it.aim.what
  pub reaches : Reaches (first ∷ second ∷ []) it.store it.aim
