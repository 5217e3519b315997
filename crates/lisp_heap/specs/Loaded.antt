-- What a heap represents that was loaded with a world.
use Rattle.lisp_graph.specs.declared.world.World.{World}
use Rattle.word_graph.specs.lisp_meaning.Opening.{opening}
use Rattle.heap_load.specs.Loading.{AreGrouped}
use Rattle.lisp_heap.specs.HeapView.{HeapView}
use Rattle.lisp_heap.specs.Stands.{Stands}

-- The heap represents the world before its first command; the conses of each of its groups are cells, and each other cons is a pair.
pub record StandsGrouped (heap : HeapView) (world : World) : Type 0 where
  pub stands : Stands heap (opening world)
  pub grouped : AreGrouped heap.memory.words stands.map.at world.objects
