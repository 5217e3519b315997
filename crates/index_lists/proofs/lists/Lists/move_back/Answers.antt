use Rattle.std.proofs.Common.{ℕ, ◌∙◌, arith}
use Rattle.std.proofs.lemmas.List.{with_items_is}
use Rattle.std.specs.Prelude.{Contains}
use Rattle.index_lists.specs.Chains.{list_at}
use Rattle.index_lists.proofs.LinkReads.{seen, at_from_contains, last_in}
use Rattle.index_lists.proofs.ChainUpdates.{after_relink, same_nodes, same_lists, listed_after}
use Rattle.index_lists.proofs.lists.Lists.move_back.Goals as goal

pub owner-list-requires : goal.owner-list-requires
owner-list-requires c =
    let s = seen _ _ _ _ c.self.view_is c.self.invariant in
    let at = at_from_contains _ _ _ _ _ _ s.holds c.requires.1 in
    let total = s.holds.total in
    rw c.deref.ensures.value (omega arith)

pub relink-requires : goal.relink-requires
relink-requires c =
    let s = seen _ _ _ _ c.self.view_is c.self.invariant in
    let at = at_from_contains _ _ _ _ _ _ s.holds c.requires.1 in
    let total = s.holds.total in
    let room = s.holds.room in
    let read = rw c.deref.ensures.value at c.owner-list.ensures in
    let is = read ∙ at.owner in
    rw (c.deref_mut.ensures.value, is) record {
      room = omega (arith, at.list_in);
      end = omega (arith, at.list_in);
      last = last_in _ _ _ _ _ s.holds at.list_in;
      in_range = omega (arith, at.node_in);
      before = at.before_in;
      after = at.after_in;
    }

pub invariant_of-self : goal.invariant_of-self
invariant_of-self c =
    let s = seen _ _ _ _ c.self.view_is c.self.invariant in
    let read = rw c.deref.ensures.value at c.owner-list.ensures in
    let is = read ∙ (at_from_contains _ _ _ _ _ _ s.holds c.requires.1).owner in
    let did = rw (c.deref_mut.ensures.value, is) at c.relink.ensures in
    rw (with_items_is c.self.inside.links c.relink.new.links (omega arith)) (after_relink _ _ _ _ c.requires.0 _ _ s c.requires.1 did).kept

pub returns : goal.returns
returns c =
    let s = seen _ _ _ _ c.self.view_is c.self.invariant in
    let read = rw c.deref.ensures.value at c.owner-list.ensures in
    let at = at_from_contains _ _ _ _ _ _ s.holds c.requires.1 in
    let did = rw c.deref_mut.ensures.value at c.relink.ensures in
    let shows = λ (l : ℕ) (m : Contains (list_at c.args.self.now l) c.args.node). after_relink _ _ _ _ l _ _ s m (rw (read ∙ (at_from_contains _ _ _ l _ _ s.holds m).owner) at did) in
    let g = shows c.requires.0 c.requires.1 in
    let count = s.holds.count in
    rw (with_items_is c.self.inside.links c.relink.new.links (omega arith))
    record {
      moved = λ l m. (shows l m).is;
      listed = λ l m. (let here = at_from_contains _ _ _ l _ _ s.holds m in listed_after _ _ _ _ _ (omega (arith, here.list_in)) (shows l m).is);
      unchanged = same_nodes _ _ _ _ g.is;
      size = same_lists _ _ _ _ g.is;
      sound = g.sound;
    }
