use Rattle.index_lists.proofs.LinkUpdates.{holds_push}
use Rattle.index_lists.proofs.links.attach.Goals as goal

pub returns : goal.returns
returns c = λ lists all bl bn free h.
    let e = c.link_last.ensures in
    holds_push _ _ _ _ c.args.nodes lists c.args.list c.args.node all e.first e.second c.set_owner.ensures bl bn free h
