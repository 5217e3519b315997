use Rattle.std.proofs.Common.{◌≡◌, ◌+◌, ◌*◌, ◌≤◌, length, refl, ap, ◌∙◌, arith}
use Rattle.std.proofs.lemmas.List.{with_items_is}
use Rattle.frame_pool.proofs.PaddedWords.{length-padded, stored_span}
use Rattle.frame_pool.proofs.words.FrameWords.fill_span.Goals as goal

pub returns : goal.returns
returns c =
    let s = c.self.invariant.0 in
    let xs = c.self.inside.stored.items in
    let n = 256 * c.self.inside.frames in
    let inside = rw (← c.self.view_is) at c.requires.frame in
    let end : c.args.frame * 256 + 256 ≤ n = omega (arith, inside, length-padded n xs s.within) in
    let size : length c.fill_span.new.words ≡ length c.reach.new.stored.items = c.fill_span.ensures.size ∙ ap length c.deref_mut.ensures.value in
    let same : length c.fill_span.new.words ≡ c.reach.new.stored.len = omega (arith, size, c.reach.new.stored.ok.0) in
    let place : c.args.frame * 256 + c.args.from ≡ 256 * c.args.frame + c.args.from = omega arith in
    rw (← c.self.view_is, with_items_is c.reach.new.stored c.fill_span.new.words same)
    (stored_span n (c.args.frame * 256 + 256) (c.args.frame * 256 + c.args.from) (256 * c.args.frame + c.args.from) c.args.count xs c.reach.new.stored.items c.deref_mut.result.now c.fill_span.new.words
    (λ _. c.args.word) (λ _. c.args.word) c.reach.ensures.items s.within end c.deref_mut.ensures.value place (λ _. refl) c.fill_span.ensures)
