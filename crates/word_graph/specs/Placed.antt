-- What a walker requires: that the ground represents some objects.
use Rattle.std.specs.Prelude.{◌≡◌, ℕ, ◌<◌, List, length, get_or, Some}
use Rattle.store_word.specs.Words.{Parts, null_word}
use Rattle.store_word.specs.declared.word.Content.{Content}
use Rattle.lisp_graph.specs.declared.object.Value.{Value}
use Rattle.lisp_graph.specs.declared.object.Value.TheVariants as V
use Rattle.mem_port.specs.Store.{Store}
use Rattle.area_space.specs.Table.{Table}
use Rattle.lisp_ground.specs.lisp_meaning.State.{in_use}
use Rattle.lisp_ground.specs.lisp_meaning.Roles.{RoleMap, value_of}
use Rattle.lisp_ground.specs.GroundInvariant.{GroundInvariant}
use Rattle.lisp_ground.specs.lisp_meaning.Interpretation.{Interpretation}

-- the registers' words have these values
pub record MeanValues (k : RoleMap) (registers : List Parts) (values : List Value) : Type 0 where
  pub count : length registers ≡ length values
  pub each : (r : ℕ) → r < length values → value_of k.role (get_or registers r null_word).content ≡ Some (get_or values r V.Nil)

-- the ground represents some objects, and the registers' words represent values
pub record CanWalk (m : Store) (t : Table) (registers : List Parts) : Type 0 where
  pub it : Interpretation
  pub kept : GroundInvariant m t it
  pub values : List Value
  pub means : MeanValues it.map registers values

-- the ground represents some objects, and a word with this content represents a value
pub record CanSee (m : Store) (t : Table) (content : Content) : Type 0 where
  pub it : Interpretation
  pub kept : GroundInvariant m t it
  pub value : Value
  pub value_is : value_of it.map.role content ≡ Some value

-- the ground represents some objects, and one that is held is at this address
pub record HasObject (m : Store) (t : Table) (at : ℕ) : Type 0 where
  pub it : Interpretation
  pub kept : GroundInvariant m t it
  pub name : ℕ
  pub used : in_use it.store name
  pub place : it.map.at name ≡ at
