use Rattle.std.proofs.Common.{◌≡◌, ◌+◌, ◌*◌, ◌≤◌, length, slice_get, ap, ◌∙◌, arith}
use Rattle.std.proofs.lemmas.List.{with_items_is}
use Rattle.frame_pool.proofs.PaddedWords.{length-padded, stored_frame}
use Rattle.frame_pool.proofs.words.FrameWords.fill.Goals as goal

pub returns : goal.returns
returns c =
    let xs = c.self.inside.stored.items in
    let n = 256 * c.self.inside.frames in
    let inside = rw (← c.self.view_is) at c.requires.in_range in
    let end : c.args.frame * 256 + 256 ≤ n = omega (arith, inside, length-padded n xs c.self.invariant.0.within) in
    let size : length c.fill_frame.new.words ≡ length c.reach.new.stored.items = c.fill_frame.ensures.size ∙ ap length c.deref_mut.ensures.value in
    let same : length c.fill_frame.new.words ≡ c.reach.new.stored.len = omega (arith, size, c.reach.new.stored.ok.0) in
    rw (← c.self.view_is, with_items_is c.reach.new.stored c.fill_frame.new.words same)
    (stored_frame n (c.args.frame * 256 + 256) c.args.frame xs c.reach.new.stored.items c.deref_mut.result.now c.fill_frame.new.words (slice_get c.args.from.now)
    c.reach.ensures.items c.self.invariant.0.within end (omega arith) c.deref_mut.ensures.value c.fill_frame.ensures)
