use Rattle.std.proofs.Common.{◌≡◌, ◌<◌, ◌*◌, ◌≤◌, slice_index, subst, sym, ◌∙◌, arith}
use Rattle.std.proofs.lemmas.List.{get_or_default}
use Rattle.area_space.specs.Inside.{table_of}
use Rattle.area_space.proofs.ChargeChanges.{husked_is, debt_small}
use Rattle.area_space.proofs.Accounts.{husked_accounts}
use Rattle.area_space.proofs.table.RegionTable.add_husk.Goals as goal
use Rattle.area_space.specs.Table.{Table, slots_of}

pub invariant_of-self : goal.invariant_of-self
invariant_of-self c =
    let k = c.self.invariant in
    let inside = subst (λ (t : Table). c.args.class < 2 * slots_of t) (sym c.self.view_is) c.requires.in_range in
    let enough = subst (λ (t : Table). c.args.words ≤ slice_index t.charges c.args.class) (sym c.self.view_is) c.requires.at_most in
    let size = k.table.charges_size in
    let size2 = k.table.husks_size in
    let e : c.index_mut.result.now ≡ slice_index c.self.inside.charges.items c.args.class = c.index_mut.ensures.value ∙ get_or_default c.self.inside.charges.items c.args.class c.index_mut.result.now 0 (omega arith) in
    let f : c.index_mut-2.result.now ≡ slice_index c.self.inside.husks.items c.args.class = c.index_mut-2.ensures.value ∙ get_or_default c.self.inside.husks.items c.args.class c.index_mut-2.result.now 0 (omega arith) in
    rw (e, f) (record {
      table = husked_is (table_of c.self.inside) c.args.class c.args.words k.table inside enough;
      regions_is = k.regions_is;
      areas_is = k.areas_is;
      pages_is = k.pages_is;
      free_is = k.free_is;
      debts_is = husked_accounts (table_of c.self.inside) c.args.class c.args.words c.self.inside.debts.items k.table inside enough k.debts_is;
      classes_is = k.classes_is;
    })

pub returns-clause-sound : goal.returns-clause-sound
returns-clause-sound c =
    let k = c.self.invariant in
    let inside = subst (λ (t : Table). c.args.class < 2 * slots_of t) (sym c.self.view_is) c.requires.in_range in
    let enough = subst (λ (t : Table). c.args.words ≤ slice_index t.charges c.args.class) (sym c.self.view_is) c.requires.at_most in
    let size = k.table.charges_size in
    let size2 = k.table.husks_size in
    let e : c.index_mut.result.now ≡ slice_index c.self.inside.charges.items c.args.class = c.index_mut.ensures.value ∙ get_or_default c.self.inside.charges.items c.args.class c.index_mut.result.now 0 (omega arith) in
    let f : c.index_mut-2.result.now ≡ slice_index c.self.inside.husks.items c.args.class = c.index_mut-2.ensures.value ∙ get_or_default c.self.inside.husks.items c.args.class c.index_mut-2.result.now 0 (omega arith) in
    rw (e, f) (husked_is (table_of c.self.inside) c.args.class c.args.words k.table inside enough)

pub overflow_add-index_mut : goal.overflow_add-index_mut
overflow_add-index_mut c =
    let k = c.self.invariant in
    let inside = subst (λ (t : Table). c.args.class < 2 * slots_of t) (sym c.self.view_is) c.requires.in_range in
    let enough = subst (λ (t : Table). c.args.words ≤ slice_index t.charges c.args.class) (sym c.self.view_is) c.requires.at_most in
    let size2 = k.table.husks_size in
    let f : c.index_mut-2.result.now ≡ slice_index c.self.inside.husks.items c.args.class = c.index_mut-2.ensures.value ∙ get_or_default c.self.inside.husks.items c.args.class c.index_mut-2.result.now 0 (omega arith) in
    let d = debt_small (table_of c.self.inside) c.args.class k.table inside in
    omega arith
