use Rattle.std.proofs.Common.{◌∙◌, sym, ap, arith, drop, Some}
use Rattle.lisp_graph.specs.Graph.{object_at}
use Rattle.lisp_graph.specs.Groups.{group_size, to_tail}
use Rattle.heap_load.proofs.ListCells.{group_within}
use Rattle.heap_load.proofs.GroupSearch.{group_of}
use Rattle.heap_load.proofs.drafts.make_next.Goals as goal

pub make_group-requires-clause-at_most : goal.make_group-requires-clause-at_most
make_group-requires-clause-at_most g c =
    let r = c.requires in
    let objects = c.args.world.now.objects in
    let n = c.args.group.number in
    let group = group_of (to_tail (object_at objects n).area n (drop n objects)) (λ none. c.if-count-eq0.false (r.agrees ∙ none)) in
    let is = r.agrees in
    let few = group.few in
    omega arith

pub make_group-requires-clause-agrees : goal.make_group-requires-clause-agrees
make_group-requires-clause-agrees g c =
    let r = c.requires in
    let objects = c.args.world.now.objects in
    let n = c.args.group.number in
    let group = group_of (to_tail (object_at objects n).area n (drop n objects)) (λ none. c.if-count-eq0.false (r.agrees ∙ none)) in
    group.is ∙ ap Some (sym r.agrees)

pub returns-clause-count : goal.returns-clause-count
returns-clause-count g c =
    let r = c.requires in
    let objects = c.args.world.now.objects in
    let n = c.args.group.number in
    let tail = to_tail (object_at objects n).area n (drop n objects) in
    let group = group_of tail (λ none. c.if-count-eq0.false (r.agrees ∙ none)) in
    let within = group_within _ _ c.args.world.now c.args.places.now n (group_size tail) group.is r.loadable r.made r.in_range in
    let is = r.agrees in
    omega (arith, within, is)

pub returns-then-count-eq0-clause-stays_laid : goal.returns-then-count-eq0-clause-stays_laid
returns-then-count-eq0-clause-stays_laid g c = c.in_ok-make_alone.ensures.stays_laid (sym c.requires.agrees ∙ c.if-count-eq0.true)
