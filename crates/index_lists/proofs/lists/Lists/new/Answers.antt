use Rattle.std.proofs.Common.{refl, arith}
use Rattle.std.proofs.lemmas.List.{with_items_is}
use Rattle.index_lists.proofs.ChainUpdates.{shows}
use Rattle.index_lists.proofs.lists.Lists.new.Goals as goal

pub invariant_of-result : goal.invariant_of-result
invariant_of-result c =
    rw (with_items_is c.in_ok-links.links c.clear.new.links (omega arith)) (shows _ _ _ record { nodes = c.args.nodes; lists = _ } refl c.clear.ensures).kept

pub returns : goal.returns
returns c =
    let g = shows _ _ _ record { nodes = c.args.nodes; lists = _ } refl c.clear.ensures in
    rw (with_items_is c.in_ok-links.links c.clear.new.links (omega arith)) record { empty = g.is; sound = g.sound }
