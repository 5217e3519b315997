use Rattle.std.proofs.Common.{◌≡◌, ◌<◌, ◌≤◌, ◌/◌, ℕ, slice_index, subst, sym, ap, ◌∙◌, arith}
use Rattle.std.proofs.lemmas.List.{get_or_default}
use Rattle.area_space.specs.Inside.{table_of}
use Rattle.area_space.proofs.Accounts.{forgiven_accounts, class_in_account}
use Rattle.area_space.proofs.ChargeChanges.{area_below, slots_few}
use Rattle.area_space.proofs.RegionReleases.{forgiven_is}
use Rattle.area_space.proofs.table.RegionTable.forgive.Goals as goal
use Rattle.area_space.specs.Accounts.{debt}
use Rattle.area_space.specs.Table.{Table, slots_of, levels_of, stale}

pub returns-clause-sound : goal.returns-clause-sound
returns-clause-sound c = rw (← c.self.view_is) c.self.invariant.table

pub invariant_of-self : goal.invariant_of-self
invariant_of-self c =
    let k = c.self.invariant in
    let t : Table = table_of c.self.inside in
    let inside = subst (λ (t : Table). c.args.slot < slots_of t) (sym c.self.view_is) c.requires in
    let size = k.debts_is.0 in
    let low = area_below t c.args.slot inside in
    let owed : c.debt-owed.result ≡ debt t (stale c.args.slot) = c.debt-owed.ensures.value ∙ ap (λ (u : Table). debt u (stale c.args.slot)) (sym c.self.view_is) in
    let f : c.index_mut.result.now ≡ slice_index c.self.inside.debts.items (c.args.slot / levels_of t) = c.index_mut.ensures.value ∙ get_or_default c.self.inside.debts.items (c.args.slot / levels_of t) c.index_mut.result.now 0 (omega arith) in
    rw (f, owed) (record {
      table = forgiven_is t c.args.slot k.table inside;
      regions_is = k.regions_is;
      areas_is = k.areas_is;
      pages_is = k.pages_is;
      free_is = k.free_is;
      debts_is = forgiven_accounts t c.args.slot c.self.inside.debts.items k.table inside k.debts_is;
      classes_is = k.classes_is;
    })

pub overflow_sub-index_mut : goal.overflow_sub-index_mut
overflow_sub-index_mut c =
    let k = c.self.invariant in
    let t : Table = table_of c.self.inside in
    let inside = subst (λ (t : Table). c.args.slot < slots_of t) (sym c.self.view_is) c.requires in
    let size = k.debts_is.0 in
    let low = area_below t c.args.slot inside in
    let owed : c.debt-owed.result ≡ debt t (stale c.args.slot) = c.debt-owed.ensures.value ∙ ap (λ (u : Table). debt u (stale c.args.slot)) (sym c.self.view_is) in
    let f : c.index_mut.result.now ≡ slice_index c.self.inside.debts.items (c.args.slot / levels_of t) = c.index_mut.ensures.value ∙ get_or_default c.self.inside.debts.items (c.args.slot / levels_of t) c.index_mut.result.now 0 (omega arith) in
    let in_account = class_in_account t (stale c.args.slot) c.self.inside.debts.items (omega arith) k.debts_is in
    let half : stale c.args.slot / 2 ≡ c.args.slot = omega arith in
    let enough = subst (λ (q : ℕ). debt t (stale c.args.slot) ≤ slice_index c.self.inside.debts.items (q / levels_of t)) half in_account in
    omega arith

pub index_mut-requires : goal.index_mut-requires
index_mut-requires c =
    let t : Table = table_of c.self.inside in
    let inside = subst (λ (t : Table). c.args.slot < slots_of t) (sym c.self.view_is) c.requires in
    let size = c.self.invariant.debts_is.0 in
    let whole = c.self.inside.debts.ok.0 in
    let low = area_below t c.args.slot inside in
    omega arith

pub overflow_mul-class : goal.overflow_mul-class
overflow_mul-class c =
    let t : Table = table_of c.self.inside in
    let inside = subst (λ (t : Table). c.args.slot < slots_of t) (sym c.self.view_is) c.requires in
    let few = slots_few t c.self.invariant.table in
    omega arith

pub overflow_add-class : goal.overflow_add-class
overflow_add-class c =
    let t : Table = table_of c.self.inside in
    let inside = subst (λ (t : Table). c.args.slot < slots_of t) (sym c.self.view_is) c.requires in
    let few = slots_few t c.self.invariant.table in
    omega arith
