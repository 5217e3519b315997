use Rattle.std.proofs.Common.{◌≡◌, subst, arith}
use Rattle.paged_memory.specs.Marking.{IsFirst, HasTag, IsTagged}
use Rattle.paged_memory.proofs.LowestPages.{first_lower, one_more_tagged}
use Rattle.paged_memory.proofs.marking.lowest_tagged.Goals as goal

pub loop-frame-preserved : goal.loop-frame-preserved
loop-frame-preserved c =
    one_more_tagged c.args.pool.now c.loop-frame.frame c.args.from c.lower-lowest.result
    (rw c.lower-lowest.ensures (first_lower (HasTag c.args.pool.now c.loop-frame.frame) (IsTagged c.args.pool.now c.loop-frame.frame) c.args.from c.loop-frame.lowest c.tagged_page.result c.loop-frame.invariant c.tagged_page.ensures))

pub returns : goal.returns
returns c =
    let end : c.loop-frame.frame ≡ c.args.frames = omega arith in
    subst (λ n. IsFirst (HasTag c.args.pool.now n) c.args.from c.loop-frame.lowest) end c.loop-frame.invariant
