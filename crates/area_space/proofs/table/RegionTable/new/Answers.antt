use Rattle.std.proofs.Common.{rules, ◌≡◌, ◌+◌, ◌*◌, length, replicate, sym, subst, arith}
use Rattle.lisp_graph.specs.World.{AreAreas}
use Rattle.area_space.proofs.EmptyTable.{fresh_is, start_kept, quotas_length}
use Rattle.area_space.proofs.table.RegionTable.new.Goals as goal

pub invariant_of-result : goal.invariant_of-result
invariant_of-result c =
    let space = c.args.space.now in
    let areas = c.as_slice-rules.result.now in
    let u : c.in_ok-used.used.items ≡ replicate space.regions 0 = search rules in
    let m : c.in_ok-marks.marks.items ≡ replicate space.regions 0 = search rules in
    let g : c.in_ok-charges.charges.items ≡ replicate (2 * (length areas * (space.levels + 1))) 0 = search rules in
    let h : c.in_ok-husks.husks.items ≡ replicate (2 * (length areas * (space.levels + 1))) 0 = search rules in
    let o : c.in_ok-debts.debts.items ≡ replicate (length areas) 0 = search rules in
    let sizes = c.requires.regions in
    let some = sizes.0 in
    let v = fresh_is space.regions space.levels areas sizes.1 c.requires.levels (subst AreAreas (sym c.as_slice-rules.ensures) c.requires.areas) in
    start_kept _ _ _ _ _ _ _ _ _ _ _ _ _ _ _ _ c.in_ok-chains.ensures.empty u m g h o c.in_ok-quotas.ensures c.in_ok-kinds.ensures c.in_ok-scan.ensures (sym (quotas_length areas)) c.in_ok-free.ensures c.insert_span.ensures (omega arith) v c.in_ok-classes.ensures
