use Rattle.std.proofs.Common.{ap, sym}
use Rattle.store_word.specs.Words.{Parts}
use Rattle.heap_state.specs.Words.{header_reply}
use Rattle.heap_state.proofs.WordValues.{read_final}
use Rattle.heap_state.proofs.values.block_header.Goals as goal

pub returns-clause-value : goal.returns-clause-value
returns-clause-value g c = λ to final.
    let block = c.in_ok-block.ensures in
    let found = read_final _ _ _ _ to _ block.unchanged.words c.in_ok-header.ensures.value block.value final in
    ap (λ (w : Parts). header_reply w.content) (sym found)
