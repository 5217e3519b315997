-- The worlds that a heap can be opened for.
use Rattle.std.specs.Prelude.{List, [], replicate}
use Rattle.store_word.specs.declared.space.Space.{Space}
use Rattle.lisp_graph.specs.World.{IsSpace, AreAreas}
use Rattle.lisp_graph.specs.declared.object.Value.TheVariants as V
use Rattle.lisp_graph.specs.declared.world.AreaRule.{AreaRule}
use Rattle.lisp_graph.specs.declared.world.World.{World}
use Rattle.area_space.specs.Fresh.{RoomRuleFor}

-- A space and areas that a heap takes: of a machine's sizes, with room for each area's quota.
pub record IsForm (space : Space) (areas : List AreaRule) : Type 0 where
  pub sizes : IsSpace space
  pub rules : AreAreas areas
  pub room : RoomRuleFor space.regions space.levels areas

-- the world with this space and these areas, with no objects, and with nil in each register
abbrev pub world_with : Space → List AreaRule → World
world_with space areas = record { space = space; areas = areas; objects = []; roots = replicate space.registers V.Nil }
