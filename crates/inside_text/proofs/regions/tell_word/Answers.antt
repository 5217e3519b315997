use Rattle.std.proofs.Common.{◌≡◌, get_or, ap, sym, ◌∙◌}
use Rattle.std.proofs.lemmas.Option.{get_or_from_slice_get}
use Rattle.store_word.specs.Words.{null_word}
use Rattle.scavenger.specs.Left.{word_left}
use Rattle.lisp_heap.specs.HeapView.{MemoryLists}
use Rattle.inside_text.proofs.regions.tell_word.Goals as goal

pub returns-clause-gathers : goal.returns-clause-gathers
returns-clause-gathers g c =
    let word : get_or c.args.heap.now.memory.words c.args.at null_word ≡ c.peek.result = ap (λ (m : MemoryLists). get_or m.words c.args.at null_word) (sym c.ground-ground.ensures.memory) ∙ get_or_from_slice_get _ c.args.at _ null_word c.peek.ensures in
    let left : c.is_word_left-left.result ≡ word_left c.args.heap.now.scan c.args.heap.now.table c.args.at = rw (c.scan.ensures.value, c.ground-ground.ensures.table) at c.is_word_left-left.ensures in
    rw (word, ← left) c.tell_marked.ensures.gathers
