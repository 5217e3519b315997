use Rattle.std.proofs.Common.{sym, arith}
use Rattle.index_lists.proofs.ListMoves.{moving_more, moving_falls, moving_all}
use Rattle.index_lists.proofs.lists.Lists.append_all.Goals as goal

pub loop-node-smaller : goal.loop-node-smaller
loop-node-smaller c =
    let count = c.loop-node.invariant.same_count in
    rw (c.push_back.ensures.after, c.remove.ensures.after c.args.from c.in-Some.ensures.listed)
    (moving_falls _ _ _ _ c.requires.apart (omega arith) c.in-Some.ensures.sound (sym c.in-Some.ensures.first))

pub loop-node-preserved : goal.loop-node-preserved
loop-node-preserved c =
    let count = c.loop-node.invariant.same_count in
    rw (c.push_back.ensures.after, c.remove.ensures.after c.args.from c.in-Some.ensures.listed)
    (moving_more _ _ _ _ _ c.requires.apart (omega arith) (omega arith) c.in-Some.ensures.sound (sym c.in-Some.ensures.first) c.loop-node.invariant)

pub returns-clause-after : goal.returns-clause-after
returns-clause-after c =
    let count = c.loop-node.invariant.same_count in
    moving_all _ _ _ _ c.requires.apart (omega arith) (omega arith) (sym c.in_default.ensures.first) c.loop-node.invariant
