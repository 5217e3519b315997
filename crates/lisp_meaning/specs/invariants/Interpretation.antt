-- What a memory represents, as one value.
use Rattle.std.specs.Prelude.{ℕ, List}
use Rattle.lisp_graph.specs.declared.world.AreaRule.{AreaRule}
use Rattle.lisp_meaning.specs.machine.State.{Condemned, aim_of, Store, State}
use Rattle.lisp_meaning.specs.invariants.Roles.{RoleMap}

-- objects, and how words represent them: a role map, the greatest level, the areas, the store of the objects, and the aim of the collection that runs
pub record Interpretation : Type 0 where
  pub map : RoleMap
  pub top : ℕ
  pub areas : List AreaRule
  pub store : Store
  pub aim : Condemned

-- the same objects by another map
abbrev pub by_map : Interpretation → RoleMap → Interpretation
by_map it map = record it { map = map }

-- the objects of a state, by a map
abbrev pub interpretation : RoleMap → State → Interpretation
interpretation k s = record { map = k; top = s.space.levels; areas = s.areas; store = s.store; aim = aim_of s.phase }
