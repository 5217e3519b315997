use Rattle.index_lists.proofs.LinkUpdates.{holds_relink}
use Rattle.index_lists.proofs.links.relink.Goals as goal

pub returns : goal.returns
returns c = λ lists all bl bn is h.
    let e = c.link_last.ensures in
    holds_relink _ _ _ _ c.args.nodes lists c.args.list c.args.node all c.unlink.ensures e.first e.second bn bl is h
