-- What the dump of a heap shows, and what the heap represents while a walk visits it.
use Rattle.std.proofs.Common.{◌≡◌, ℕ, refl, sym, ◌∙◌, subst, arith, List, Option, Some, None, Result}
use Rattle.std.specs.Result.{IfOk}
use Rattle.std.proofs.lemmas.Result.{IfOk-weaker}
use Rattle.store_word.specs.declared.space.Space.{Space}
use Rattle.lisp_graph.specs.declared.world.AreaRule.{AreaRule}
use Rattle.lisp_graph.specs.KeyedGraph.{keyed}
use Rattle.word_graph.specs.lisp_meaning.State.{State}
use Rattle.word_graph.specs.lisp_meaning.Step.{world_of}
use Rattle.word_graph.specs.lisp_meaning.Flip.{graph_of}
use Rattle.world_text.specs.Dump.{IsDump}
use Rattle.word_graph.specs.dump_laws.Written.{dumped}
use Rattle.word_graph.proofs.dump_laws.UniqueDump.{dump_is_function}
use Rattle.lisp_heap.specs.HeapView.{HeapView}
use Rattle.lisp_heap.specs.Stands.{Stands}
use Rattle.lisp_heap.specs.Walking.{StandsAsBefore, StandsSince, graph_in}
use Rattle.lisp_heap.proofs.HeapWalks.{dump_is_of_state}

-- a dump of what it shows is the dump of each state that it represents
pub dumped_of_state : {E : Type 0} (h : HeapView) (areas : List AreaRule) (result : Result (List ℕ) E) → IfOk result (λ text. IsDump (graph_in h) h.space areas text)
    → IfOk result (λ text. (s : State) → Stands h s → s.areas ≡ areas → text ≡ dumped (world_of s))
dumped_of_state h areas result =
    IfOk-weaker result (λ (text : List ℕ). IsDump (graph_in h) h.space areas text) (λ (text : List ℕ). (s : State) → Stands h s → s.areas ≡ areas → text ≡ dumped (world_of s))
    (λ text dump s st same. dump_is_function (world_of s) text
    (subst (λ (space : Space). IsDump (keyed (graph_of s)) space s.areas text) st.space
    (subst (λ (rules : List AreaRule). IsDump (keyed (graph_of s)) h.space rules text) (sym same)
    (dump_is_of_state h s st h.space areas text dump))))

-- when a walk begins, the heap represents the same states,
pub begins : (start : Option HeapView) (heap : HeapView) → start ≡ Some heap → StandsSince start heap
begins start heap is =
    subst (λ (from : Option HeapView). StandsSince from heap) (sym is)
    (record { words = refl; settled = refl; table = refl; scan = refl; stands = λ s st. st; world = record { registers = refl; space = refl; kinds = refl }; room = omega arith })

-- it still does if it is only read,
pub goes_on : (start : Option HeapView) (old new : HeapView) → StandsSince start old → StandsAsBefore old new → StandsSince start new
goes_on None old new since read = tt
goes_on (Some start) old new since read = record {
  words = read.words ∙ since.words;
  settled = read.settled ∙ since.settled;
  table = read.table ∙ since.table;
  scan = read.scan ∙ since.scan;
  stands = λ s st. read.stands s (since.stands s st);
  world = record {
    registers = read.world.registers ∙ since.world.registers;
    space = read.world.space ∙ since.world.space;
    kinds = read.world.kinds ∙ since.world.kinds;
  };
  room = (let a = since.room in let b = read.room in omega arith);
}

-- and so at the end of the walk it represents the same states
pub ends : (start : Option HeapView) (heap new : HeapView) → start ≡ Some heap → StandsSince start new → StandsAsBefore heap new
ends start heap new is since = subst (λ (from : Option HeapView). StandsSince from new) is since
