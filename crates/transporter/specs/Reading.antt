-- What may be read of an object while a collection may run.
use Rattle.std.specs.Prelude.{◌≡◌, ℕ, List, Some}
use Rattle.store_word.specs.Words.{Parts}
use Rattle.store_word.specs.declared.word.Content.{Content}
use Rattle.area_space.specs.lisp_graph.declared.object.Value.{Value}
use Rattle.mem_port.specs.Store as Memory
use Rattle.area_space.specs.Table.{Table, IsOld}
use Rattle.transporter.specs.lisp_meaning.Roles.{value_of}
use Rattle.transporter.specs.lisp_ground.GroundInvariant.{GroundInvariant}
use Rattle.lisp_ground.specs.lisp_meaning.Interpretation.{Interpretation}
use Rattle.transporter.specs.Settling.{RefersToOld, IsKeptValue}

-- the ground represents some objects, of which the content has this value; if a region is old, the collection that runs keeps the object that it refers to
pub record CanRead (m : Memory.Store) (t : Table) (it : Interpretation) (registers : List Value) (content : Content) (v : Value) : Type 0 where
  pub kept : GroundInvariant m t it
  pub value_is : value_of it.map.role content ≡ Some v
  pub survives : (region : ℕ) → IsOld t region → IsKeptValue t registers it.store it.aim v

-- so it is by some map, and the word has no old address
pub record IsReadable (m : Memory.Store) (t : Table) (word : Parts) : Type 0 where
  pub it : Interpretation
  pub registers : List Value
  pub value : Value
  pub can : CanRead m t it registers word.content value
  pub fresh : RefersToOld t word → ⊥
