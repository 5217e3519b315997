use Rattle.std.proofs.Common.{◌≡◌, ◌<◌, ◌*◌, slice_index, subst, sym, ◌∙◌, arith}
use Rattle.std.proofs.lemmas.List.{get_or_default}
use Rattle.area_space.specs.Inside.{table_of}
use Rattle.area_space.proofs.ChargeChanges.{debt_small}
use Rattle.area_space.proofs.table.RegionTable.debt.Goals as goal
use Rattle.area_space.specs.Table.{Table, slots_of}

pub overflow_add-result : goal.overflow_add-result
overflow_add-result c =
    let k = c.self.invariant in
    let inside = subst (λ (t : Table). c.args.class < 2 * slots_of t) (sym c.self.view_is) c.requires in
    let size = k.table.charges_size in
    let size2 = k.table.husks_size in
    let e : c.index.result.now ≡ slice_index c.self.inside.charges.items c.args.class = c.index.ensures ∙ get_or_default c.self.inside.charges.items c.args.class c.index.result.now 0 (omega arith) in
    let f : c.index-2.result.now ≡ slice_index c.self.inside.husks.items c.args.class = c.index-2.ensures ∙ get_or_default c.self.inside.husks.items c.args.class c.index-2.result.now 0 (omega arith) in
    let d = debt_small (table_of c.self.inside) c.args.class k.table inside in
    omega arith

pub returns-clause-at_most : goal.returns-clause-at_most
returns-clause-at_most c =
    let k = c.self.invariant in
    let inside = subst (λ (t : Table). c.args.class < 2 * slots_of t) (sym c.self.view_is) c.requires in
    let size = k.table.charges_size in
    let size2 = k.table.husks_size in
    let e : c.index.result.now ≡ slice_index c.self.inside.charges.items c.args.class = c.index.ensures ∙ get_or_default c.self.inside.charges.items c.args.class c.index.result.now 0 (omega arith) in
    let f : c.index-2.result.now ≡ slice_index c.self.inside.husks.items c.args.class = c.index-2.ensures ∙ get_or_default c.self.inside.husks.items c.args.class c.index-2.result.now 0 (omega arith) in
    let d = debt_small (table_of c.self.inside) c.args.class k.table inside in
    omega arith
