use Rattle.std.proofs.Common.{arith}
use Rattle.area_space.proofs.PageSets.{lowest_at}
use Rattle.area_space.proofs.bits.lowest_bit.Goals as goal

pub returns-then-bits-word-ne0-clause-some : goal.returns-then-bits-word-ne0-clause-some
returns-then-bits-word-ne0-clause-some c =
    let l = lowest_at c.args.bits.now c.loop-word.word c.if-bits-word-ne0.true (omega (arith, c.type_inv.bits c.loop-word.word)) c.loop-word.invariant in
    let low = l.2 in
    (l.0, omega arith)

pub returns-then-bits-word-ne0-clause-lowest : goal.returns-then-bits-word-ne0-clause-lowest
returns-then-bits-word-ne0-clause-lowest c =
    let l = lowest_at c.args.bits.now c.loop-word.word c.if-bits-word-ne0.true (omega (arith, c.type_inv.bits c.loop-word.word)) c.loop-word.invariant in
    l.1
