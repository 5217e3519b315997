use Rattle.std.proofs.Common.{◌+◌, ◌-◌, ◌<◌, ◌≤◌, min, length, ◌∙◌, sym, ap, arith}
use Rattle.heap_load.proofs.GroupSearch.{group_found, group_none, group_stops, stays_linked}
use Rattle.heap_load.specs.Loading.{AreLinked}
use Rattle.heap_load.proofs.groups.group_from.Goals.{After-skip_links-at, After-is_last}
use Rattle.heap_load.proofs.groups.group_from.Goals as goal

-- the objects before the end of the search refer each to the next
linked : (c : After-skip_links-at) → AreLinked c.args.objects.now c.args.number c.skip_links-at.result
linked c = stays_linked c.args.objects.now c.args.number c.args.linked.now c.max-from.result c.skip_links-at.result _ c.requires.known c.area_of-area.ensures c.max-from.ensures c.skip_links-at.ensures.before

-- it ended at one of the 1,024 objects from the first
ended : (c : After-is_last) → (c.args.number ≤ c.skip_links-at.result) × (c.skip_links-at.result < length c.args.objects.now) × (c.skip_links-at.result - c.args.number < 1024)
ended c =
    let low = c.requires.in_range in
    let few = c.min.ensures in
    let long = c.len.ensures in
    let inside = c.skip_links-at.ensures.in_range in
    let before_end = c.if-at-end.false in
    let order = c.skip_links-at.ensures.order (omega arith) in
    let further = c.max-from.ensures in
    (omega arith, omega arith, omega arith)

pub returns-then-at-end-clause-value : goal.returns-then-at-end-clause-value
returns-then-at-end-clause-value c =
    let low = c.requires.in_range in
    let few = c.min.ensures in
    let long = c.len.ensures in
    group_none c.args.objects.now c.args.number c.args.linked.now c.max-from.result c.skip_links-at.result _ c.requires.known c.area_of-area.ensures c.max-from.ensures c.skip_links-at.ensures.before
    (omega arith) (omega arith) (c.if-at-end.true ∙ ap (λ n. c.args.number + n) few ∙ ap (λ n. c.args.number + min (n - c.args.number) 1024) long)

pub returns-then-is_last-clause-value : goal.returns-then-is_last-clause-value
returns-then-is_last-clause-value c =
    let x = ended (goal.at.returns-then-is_last-clause-value c).After-is_last in
    let inside = x.1 in
    group_found c.args.objects.now c.args.number c.args.linked.now c.max-from.result c.skip_links-at.result _ c.requires.known c.area_of-area.ensures c.max-from.ensures c.skip_links-at.ensures.before
    x.0 (omega arith) inside x.2 (sym c.is_last.ensures ∙ c.if-is_last.true)

pub returns-else-is_last-clause-value : goal.returns-else-is_last-clause-value
returns-else-is_last-clause-value c =
    let x = ended (goal.at.returns-else-is_last-clause-value c).After-is_last in
    let inside = x.1 in
    let at_most = c.skip_links-at.ensures.in_range in
    let before_end = c.if-at-end.false in
    group_stops c.args.objects.now c.args.number c.args.linked.now c.max-from.result c.skip_links-at.result _ c.requires.known c.area_of-area.ensures c.max-from.ensures c.skip_links-at.ensures.before
    x.0 (omega arith) inside (sym c.is_last.ensures ∙ c.if-is_last.false) (c.skip_links-at.ensures.found (omega arith))

pub overflow_sub-result : goal.overflow_sub-result
overflow_sub-result c = let order = (ended (goal.at.overflow_sub-result c).After-is_last).0 in omega arith

pub returns-then-at-end-clause-stays_known : goal.returns-then-at-end-clause-stays_known
returns-then-at-end-clause-stays_known c = linked (goal.at.returns-then-at-end-clause-stays_known c).After-skip_links-at

pub returns-then-is_last-clause-stays_known : goal.returns-then-is_last-clause-stays_known
returns-then-is_last-clause-stays_known c = linked (goal.at.returns-then-is_last-clause-stays_known c).After-skip_links-at

pub returns-else-is_last-clause-stays_known : goal.returns-else-is_last-clause-stays_known
returns-else-is_last-clause-stays_known c = linked (goal.at.returns-else-is_last-clause-stays_known c).After-skip_links-at
