use Rattle.std.proofs.Common.{◌≡◌, ◌<◌, ℕ, get_or}
use Rattle.store_word.specs.Words.{null_word}
use Rattle.lisp_graph.specs.declared.object.Value.TheVariants as V
use Rattle.heap_load.specs.Places.{word_of}
use Rattle.heap_load.proofs.places.set_roots.Given as goal

abbrev pub invariant-loop-r : goal.invariant-loop-r
invariant-loop-r l = (k : ℕ) → k < l.r → get_or l.registers k null_word ≡ word_of l.places (get_or l.roots k V.Nil)
