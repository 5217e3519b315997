use Rattle.index_lists.proofs.links.link_last.Goals as goal

pub returns : goal.returns
returns c = record { middle = c.join.new.links; first = rw c.before-last.ensures at c.join.ensures; second = c.join-2.ensures }
