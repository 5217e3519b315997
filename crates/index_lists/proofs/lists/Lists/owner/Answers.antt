use Rattle.std.proofs.Common.{sym, ◌∙◌, ap, subst, arith, ℕ, Some}
use Rattle.std.specs.Prelude.{Contains}
use Rattle.index_lists.specs.Chains.{list_at}
use Rattle.index_lists.proofs.Members.{contains_from_has}
use Rattle.index_lists.proofs.LinkReads.{seen, none_from_free, at_from_contains}
use Rattle.index_lists.proofs.lists.Lists.owner.Goals as goal

pub returns-then-list : goal.returns-then-list
returns-then-list c =
    let s = seen _ _ _ _ c.self.view_is c.self.invariant in
    let read = rw c.deref.ensures.value at c.owner-list.ensures in
    let free = none_from_free _ _ _ _ _ s.holds (sym read ∙ c.if-list.true) in
    record { cases = free; found = λ l m. absurd (free l m); in_range = tt; sound = s.sound }

pub returns-else-list : goal.returns-else-list
returns-else-list c =
    let s = seen _ _ _ _ c.self.view_is c.self.invariant in
    let read = rw c.deref.ensures.value at c.owner-list.ensures in
    let nodes_is = s.nodes_is in
    let placed = s.holds.placed c.args.node (omega arith) (λ e. c.if-list.false (read ∙ e)) in
    let P : ℕ → Type 0 = λ l. Contains (list_at c.args.self.now l) c.args.node in
    record {
      cases = subst P (sym read) (contains_from_has _ _ placed.1);
      found = λ l m. ap Some (read ∙ (at_from_contains _ _ _ l _ _ s.holds m).owner);
      in_range = rw (read, s.holds.count) placed.0;
      sound = s.sound;
    }
