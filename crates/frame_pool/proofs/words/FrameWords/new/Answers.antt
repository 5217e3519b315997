use Rattle.std.proofs.Common.{◌≡◌, length, replicate, ap, ◌∙◌, arith, rules}
use Rattle.store_word.specs.Words.{Parts}
use Rattle.frame_pool.proofs.PaddedWords.{padded_fresh}
use Rattle.frame_pool.proofs.words.FrameWords.new.Goals as goal

pub invariant_of-result : goal.invariant_of-result
invariant_of-result c =
    let size : length c.in_ok-stored.stored.items ≡ 0 = ap length c.in_ok-stored.ensures.items in (
      record { whole = omega arith; within = omega arith; room = omega (arith, c.in_ok-stored.ensures.capacity); few = c.requires },
      c.in_ok-blank.ensures.items_if_clones_equal (search rules) ∙ ap (λ (w : Parts). replicate 256 w) c.null.ensures,
    )

pub returns : goal.returns
returns c = padded_fresh c.args.frames c.in_ok-stored.stored.items c.in_ok-stored.ensures.items
