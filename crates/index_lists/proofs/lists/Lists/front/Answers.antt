use Rattle.std.proofs.Common.{◌∙◌}
use Rattle.index_lists.proofs.Ends.{none_first, listed_first}
use Rattle.index_lists.proofs.LinkReads.{seen, first_seen}
use Rattle.index_lists.proofs.lists.Lists.front.Goals as goal

pub returns : goal.returns
returns c =
    let s = seen _ _ _ _ c.self.view_is c.self.invariant in
    let read = rw c.deref.ensures.value at c.after-first.ensures in
    let found = rw read at c.unless_end.ensures in
    let e = found ∙ first_seen _ _ _ c.args.list _ s c.requires in
    record { first = e; none = none_first _ _ e; listed = listed_first _ _ e; sound = s.sound }
