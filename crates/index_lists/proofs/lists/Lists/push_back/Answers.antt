use Rattle.std.proofs.Common.{arith}
use Rattle.std.proofs.lemmas.List.{with_items_is}
use Rattle.index_lists.proofs.LinkReads.{seen, last_in}
use Rattle.index_lists.proofs.ChainUpdates.{after_push, same_nodes, same_lists, listed_after}
use Rattle.index_lists.proofs.lists.Lists.push_back.Goals as goal

pub attach-requires-clause-last : goal.attach-requires-clause-last
attach-requires-clause-last c =
    let s = seen _ _ _ _ c.self.view_is c.self.invariant in
    let count = s.holds.count in
    rw c.deref_mut.ensures.value (last_in _ _ _ _ _ s.holds (omega arith))

pub invariant_of-self : goal.invariant_of-self
invariant_of-self c =
    let s = seen _ _ _ _ c.self.view_is c.self.invariant in
    let did = rw c.deref_mut.ensures.value at c.attach.ensures in
    rw (with_items_is c.self.inside.links c.attach.new.links (omega arith))
    (after_push _ _ _ _ _ _ _ s c.requires.target c.requires.in_range c.requires.free did).kept

pub returns : goal.returns
returns c =
    let s = seen _ _ _ _ c.self.view_is c.self.invariant in
    let did = rw c.deref_mut.ensures.value at c.attach.ensures in
    let g = after_push _ _ _ _ _ _ _ s c.requires.target c.requires.in_range c.requires.free did in
    rw (with_items_is c.self.inside.links c.attach.new.links (omega arith))
    record { after = g.is; listed = listed_after _ _ _ _ _ c.requires.target g.is; unchanged = same_nodes _ _ _ _ g.is; size = same_lists _ _ _ _ g.is; sound = g.sound }
