use Rattle.index_lists.proofs.links.unlink.Goals as goal

pub returns : goal.returns
returns c = rw (c.before-left.ensures, c.after-right.ensures) at c.join.ensures
