use Rattle.std.proofs.Common.{length}
use Rattle.ref_table.proofs.SearchResults.{found_matches, found_lowest, found_none}
use Rattle.ref_table.proofs.Rows.{low_of}
use Rattle.ref_table.proofs.Searches.{found_next}
use Rattle.ref_table.proofs.table.RefTable.next_from.Goals as goal

pub returns-clause-found : goal.returns-clause-found
returns-clause-found c =
    let t = c.self.invariant.rows.0 in
    let h = c.self.invariant.rows.1 in
    let f = rw (c.deref.ensures.value, c.deref-2.ensures.value) at c.find_from.ensures in
    rw (← c.self.view_is, f t h.root_is h.stands (low_of _ _ _ t h))
    (found_matches _ _ _ c.args.page c.args.levels.0 t _ h (found_next _ c.args.page c.args.levels.0 0 (length c.self.inside.sets.items) t h.ordered))

pub returns-clause-lowest : goal.returns-clause-lowest
returns-clause-lowest c =
    let t = c.self.invariant.rows.0 in
    let h = c.self.invariant.rows.1 in
    let f = rw (c.deref.ensures.value, c.deref-2.ensures.value) at c.find_from.ensures in
    rw (← c.self.view_is, f t h.root_is h.stands (low_of _ _ _ t h))
    (found_lowest _ _ _ c.args.page c.args.levels.0 t _ h (found_next _ c.args.page c.args.levels.0 0 (length c.self.inside.sets.items) t h.ordered))

pub returns-clause-none : goal.returns-clause-none
returns-clause-none c =
    let t = c.self.invariant.rows.0 in
    let h = c.self.invariant.rows.1 in
    let f = rw (c.deref.ensures.value, c.deref-2.ensures.value) at c.find_from.ensures in
    rw (← c.self.view_is, f t h.root_is h.stands (low_of _ _ _ t h))
    (found_none _ _ _ c.args.page c.args.levels.0 t _ h (found_next _ c.args.page c.args.levels.0 0 (length c.self.inside.sets.items) t h.ordered))
