-- Worlds within the limits of a machine.
use Rattle.std.specs.Prelude.{◌≡◌, ◌⊎◌, ℕ, suc, ◌<◌, ◌≤◌, List, length, slice_index}
use Rattle.std.specs.List.{All}
use Rattle.store_word.specs.declared.space.Space.{Space}
use Rattle.lisp_graph.specs.declared.object.Body.{Body}
use Rattle.lisp_graph.specs.declared.object.Body.TheVariants as B
use Rattle.lisp_graph.specs.declared.world.AreaRule.{AreaRule}
use Rattle.lisp_graph.specs.declared.world.World.{World}
use Rattle.lisp_graph.specs.Graph.{Graph, IsGraph}

-- the graph of a machine before its first command
abbrev pub opening : World → Graph
opening world = record { registers = world.roots; objects = world.objects }

-- the sizes of a machine; the capacity of level l is at index l - 1
pub record IsSpace (space : Space) : Type 0 where
  pub regions : (5 ≤ space.regions) × (space.regions ≤ 1024)
  pub frames : (32 ≤ space.frames) × (space.frames ≤ 4096)
  pub registers : (1 ≤ space.registers) × (space.registers ≤ 256)
  pub levels : (1 ≤ space.levels) × (space.levels ≤ 6)
  pub rate : space.rate ≤ 16
  pub capacities : All (λ capacity. capacity ≤ 16777216) space.capacity
  pub none_above : (index : ℕ) → space.levels ≤ index → slice_index space.capacity index ≡ 0

-- 1 to 16 areas, each with a quota of at most 1,048,576 words
pub record AreAreas (areas : List AreaRule) : Type 0 where
  pub count : (1 ≤ length areas) × (length areas ≤ 16)
  pub quotas : All (λ rule. rule.quota ≤ 1048576) areas

-- what an object is charged: a cons 2 or 3 words, a block one more than its fields
abbrev pub IsCharge : Body → ℕ → Type 0
IsCharge (B.Cons car cdr) charge = (charge ≡ 2) ⊎ (charge ≡ 3)
IsCharge (B.Block code fields) charge = charge ≡ suc (length fields)

-- a world whose objects are of its areas, with a root for each register
pub record IsWorld (world : World) : Type 0 where
  pub space : IsSpace world.space
  pub areas : AreAreas world.areas
  pub roots : length world.roots ≡ world.space.registers
  pub graph : IsGraph (opening world)
  pub placed : All (λ object. object.area < length world.areas) world.objects
  pub charged : All (λ object. IsCharge object.body object.charge) world.objects
