-- What a ground and registers represent after a change.
use Rattle.std.specs.Prelude.{ℕ, ◌+◌, ◌≤◌, List}
use Rattle.store_word.specs.Words.{Parts}
use Rattle.mem_port.specs.Store.{Store}
use Rattle.area_space.specs.Table.{Table}
use Rattle.transporter.specs.lisp_meaning.State.{State, aim_of}
use Rattle.transporter.specs.lisp_meaning.Roles.{RoleMap, Refines}
use Rattle.transporter.specs.lisp_meaning.Sound.{Reach}
use Rattle.transporter.specs.lisp_ground.After.{old_on}
use Rattle.heap_state.specs.Represents.{Represents}

-- another state, by a later map; the words placed and the charges in old regions together grow by at most `more`
pub record RepresentsLater (m : Store) (t : Table) (m' : Store) (t' : Table) (registers' : List Parts) (k : RoleMap) (s s' : State) (more : ℕ) : Type 0 where
  pub map : RoleMap
  pub represents : Represents m' t' registers' map s'
  pub refines : Refines k.role map.role
  pub work : t'.placed + old_on m' t' s'.store (aim_of s'.phase) map.at ≤ t.placed + old_on m t s.store (aim_of s.phase) k.at + more

-- each state that was represented is represented, with no more work. (Six parameters: memory, table and registers, each before and after.)
abbrev pub RepresentsSame : Store → Table → List Parts → Store → Table → List Parts → Type 0
RepresentsSame m t registers m' t' registers' = (k : RoleMap) (s : State) → Represents m t registers k s → Reach s s.phase → RepresentsLater m t m' t' registers' k s s 0
