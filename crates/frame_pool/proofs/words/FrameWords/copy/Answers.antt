use Rattle.std.proofs.Common.{◌≡◌, ◌+◌, ◌*◌, ◌≤◌, length, get_or, ap, ◌∙◌, arith}
use Rattle.std.proofs.lemmas.List.{with_items_is}
use Rattle.store_word.specs.Words.{null_word}
use Rattle.frame_pool.proofs.PaddedWords.{length-padded, stored_span, stored_word}
use Rattle.frame_pool.specs.Stored.{padded}
use Rattle.frame_pool.proofs.words.FrameWords.copy.Goals as goal

pub returns : goal.returns
returns c =
    let s = c.self.invariant.0 in
    let xs = c.self.inside.stored.items in
    let n = 256 * c.self.inside.frames in
    let from = rw (← c.self.view_is) at c.requires.from_held in
    let to = rw (← c.self.view_is) at c.requires.to_held in
    let end : c.max.result + 256 ≤ n = omega (arith, from, to, length-padded n xs s.within, c.max.ensures) in
    let size : length c.copy_span.new.words ≡ length c.reach.new.stored.items = c.copy_span.ensures.size ∙ ap length c.deref_mut.ensures.value in
    let same : length c.copy_span.new.words ≡ c.reach.new.stored.len = omega (arith, size, c.reach.new.stored.ok.0) in
    let place : c.args.to_frame * 256 + c.args.to ≡ 256 * c.args.to_frame + c.args.to = omega arith in
    rw (← c.self.view_is, with_items_is c.reach.new.stored c.copy_span.new.words same)
    (stored_span n (c.max.result + 256) (c.args.to_frame * 256 + c.args.to) (256 * c.args.to_frame + c.args.to) c.args.count xs c.reach.new.stored.items c.deref_mut.result.now c.copy_span.new.words
    (λ i. get_or c.deref_mut.result.now (c.args.from_frame * 256 + c.args.from + i) null_word) (λ i. get_or (padded n xs) (256 * c.args.from_frame + c.args.from + i) null_word)
    c.reach.ensures.items s.within end c.deref_mut.ensures.value place
    (λ i. stored_word n (c.max.result + 256) (c.args.from_frame * 256 + c.args.from + i) (256 * c.args.from_frame + c.args.from + i) xs c.reach.new.stored.items c.deref_mut.result.now c.reach.ensures.items s.within end c.deref_mut.ensures.value (omega arith))
    c.copy_span.ensures)
