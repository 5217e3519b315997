use Rattle.std.proofs.Common.{◌*◌, ◌≤◌, List, length, slice_get, ap, ◌∙◌, arith}
use Rattle.store_word.specs.Words.{Parts}
use Rattle.frame_pool.proofs.PaddedWords.{length-padded, padded_blank}
use Rattle.frame_pool.proofs.words.FrameWords.page.Goals as goal

pub returns-else-start-len-clause-words : goal.returns-else-start-len-clause-words
returns-else-start-len-clause-words c =
    let s = c.self.invariant.0 in
    let xs = c.self.inside.stored.items in
    let n = 256 * c.self.inside.frames in
    let inside = rw (← c.self.view_is) at c.requires in
    let past : length xs ≤ c.args.frame * 256 = omega (arith, c.if-start-len.false, c.len.ensures, c.self.inside.stored.ok.0) in
    rw (← c.self.view_is) (λ k low. ap (λ (ws : List Parts). slice_get ws k) c.deref-else-start-len.ensures.value
    ∙ padded_blank n c.args.frame k xs c.self.inside.blank.items s.whole s.within past (omega (arith, inside, length-padded n xs s.within)) c.self.invariant.1 low)
