use Rattle.std.proofs.Common.{arith}
use Rattle.std.proofs.lemmas.List.{with_items_is}
use Rattle.index_lists.proofs.LinkReads.{seen, at_from_contains}
use Rattle.index_lists.proofs.ChainUpdates.{after_removal, same_nodes, same_lists, free_after}
use Rattle.index_lists.proofs.lists.Lists.remove.Goals as goal

pub detach-requires : goal.detach-requires
detach-requires c =
    let s = seen _ _ _ _ c.self.view_is c.self.invariant in
    let at = at_from_contains _ _ _ _ _ _ s.holds c.requires.1 in
    let total = s.holds.total in
    rw c.deref_mut.ensures.value record { in_range = omega arith; before = at.before_in; after = at.after_in }

pub invariant_of-self : goal.invariant_of-self
invariant_of-self c =
    let s = seen _ _ _ _ c.self.view_is c.self.invariant in
    let did = rw c.deref_mut.ensures.value at c.detach.ensures in
    rw (with_items_is c.self.inside.links c.detach.new.links (omega arith)) (after_removal _ _ _ _ c.requires.0 _ _ s c.requires.1 did).kept

pub returns : goal.returns
returns c =
    let s = seen _ _ _ _ c.self.view_is c.self.invariant in
    let did = rw c.deref_mut.ensures.value at c.detach.ensures in
    let g = after_removal _ _ _ _ c.requires.0 _ _ s c.requires.1 did in
    rw (with_items_is c.self.inside.links c.detach.new.links (omega arith))
    record {
      after = λ l m. (after_removal _ _ _ _ l _ _ s m did).is;
      in_range = (at_from_contains _ _ _ _ _ _ s.holds c.requires.1).node_in;
      free = free_after _ _ _ _ s.sound c.requires.1 g.is;
      unchanged = same_nodes _ _ _ _ g.is;
      size = same_lists _ _ _ _ g.is;
      sound = g.sound;
    }
