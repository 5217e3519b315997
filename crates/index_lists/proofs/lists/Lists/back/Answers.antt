use Rattle.std.proofs.Common.{◌∙◌}
use Rattle.index_lists.proofs.Ends.{none_last, listed_last}
use Rattle.index_lists.proofs.LinkReads.{seen, last_seen}
use Rattle.index_lists.proofs.lists.Lists.back.Goals as goal

pub returns : goal.returns
returns c =
    let s = seen _ _ _ _ c.self.view_is c.self.invariant in
    let read = rw c.deref.ensures.value at c.before-last.ensures in
    let found = rw read at c.unless_end.ensures in
    let e = found ∙ last_seen _ _ _ c.args.list _ s c.requires in
    record { last = e; none = none_last _ _ e; listed = listed_last _ _ e; sound = s.sound }
