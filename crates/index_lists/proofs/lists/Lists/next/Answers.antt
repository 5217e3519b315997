use Rattle.std.proofs.Common.{arith}
use Rattle.index_lists.proofs.LinkReads.{seen, at_from_contains, next_seen}
use Rattle.index_lists.proofs.lists.Lists.next.Goals as goal

pub owner-requires : goal.owner-requires
owner-requires c =
    let s = seen _ _ _ _ c.self.view_is c.self.invariant in
    let at = at_from_contains _ _ _ _ _ _ s.holds c.requires.1 in
    let total = s.holds.total in
    rw c.deref.ensures.value (omega arith)

pub after-next-requires : goal.after-next-requires
after-next-requires c =
    let s = seen _ _ _ _ c.self.view_is c.self.invariant in
    let at = at_from_contains _ _ _ _ _ _ s.holds c.requires.1 in
    let total = s.holds.total in
    rw c.deref-2.ensures.value (omega arith)

pub overflow_add-end : goal.overflow_add-end
overflow_add-end c =
    let s = seen _ _ _ _ c.self.view_is c.self.invariant in
    let at = at_from_contains _ _ _ _ _ _ s.holds c.requires.1 in
    let room = s.holds.room in
    let read = rw c.deref.ensures.value at c.owner.ensures in
    let owner = at.owner in
    omega arith

pub returns : goal.returns
returns c =
    let s = seen _ _ _ _ c.self.view_is c.self.invariant in
    let owner_is = rw c.deref.ensures.value at c.owner.ensures in
    let read = rw c.deref-2.ensures.value at c.after-next.ensures in
    let is = rw (owner_is, read) at c.unless_end.ensures in
    record {
      value = λ l m. rw is (next_seen _ _ _ l c.args.node _ s m).is;
      none = λ l m. rw is (next_seen _ _ _ l c.args.node _ s m).none;
      listed = λ l m. rw is (next_seen _ _ _ l c.args.node _ s m).listed;
      sound = s.sound;
    }
