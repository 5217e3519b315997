use Rattle.index_lists.proofs.LinkUpdates.{holds_unlink}
use Rattle.index_lists.proofs.links.detach.Goals as goal

pub returns : goal.returns
returns c = λ nodes lists l all bn bl is h.
    holds_unlink _ _ _ nodes lists c.args.node l all c.unlink.ensures c.set_owner.ensures bn bl is h
