-- A dump as the world of an input that requests a dump.
use Rattle.std.specs.Prelude.{◌≡◌, ℕ, List, [], ◌∷◌, ◌++◌, codes, Some}
use Rattle.lisp_graph.specs.store_word.declared.space.Space.{Space}
use Rattle.lisp_graph.specs.KeyedGraph.{KeyedGraph}
use Rattle.lisp_graph.specs.declared.world.AreaRule.{AreaRule}
use Rattle.lisp_graph.specs.declared.command.Command.TheVariants.{Dump}
use Rattle.world_text.specs.Limits.{IsAccepted}
use Rattle.dump_laws.specs.Back.{read_world, with_feeds}
use Rattle.dump_laws.specs.Written.{dumped}
use Rattle.input_verdict.specs.Verdict.{Whole, verdict, world_of}

-- an input whose world has these lines, and whose only command is `dump`
abbrev pub asking : List (List ℕ) → List ℕ
asking lines = with_feeds (lines ++ codes "trace" ∷ codes "dump" ∷ codes "end" ∷ [])

-- The text is a world file whose lines form a whole input: it has the world that they describe, in which the objects have these numbers, and the one command `dump`. The dump of that world is the same text.
pub record IsWholeInput (graph : KeyedGraph) (keys : List ℕ) (space : Space) (areas : List AreaRule) (text : List ℕ) : Type 0 where
  pub lines : List (List ℕ)
  pub is : text ≡ with_feeds (lines ++ codes "end-world" ∷ [])
  pub whole : (verdict (asking lines)).ending ≡ Whole
  pub world : world_of (verdict (asking lines)).read.place ≡ Some (read_world graph keys space areas)
  pub commands : (verdict (asking lines)).read.commands ≡ Dump ∷ []
  pub accepted : IsAccepted (read_world graph keys space areas)
  pub same : text ≡ dumped (read_world graph keys space areas)
