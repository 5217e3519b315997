use Rattle.std.proofs.Common.{◌≡◌, ◌≢◌, ◌<◌, ◌+◌, ◌*◌, ◌/◌, ◌≤◌, [], ℕ, slice_index, subst, sym, arith, ap, ◌∙◌}
use Rattle.std.proofs.lemmas.List.{get_or_default}
use Rattle.area_space.specs.Inside.{table_of}
use Rattle.area_space.proofs.Accounts.{charged_accounts}
use Rattle.area_space.proofs.ChargeChanges.{area_below, charged_is, debt_in_account}
use Rattle.area_space.proofs.table.RegionTable.add_charge.Goals as goal
use Rattle.area_space.specs.Accounts.{account_of}
use Rattle.area_space.specs.Table.{Table, slots_of, chain, live, quota_of, levels_of}

pub invariant_of-self : goal.invariant_of-self
invariant_of-self c =
    let k = c.self.invariant in
    let t : Table = table_of c.self.inside in
    let inside = (subst (λ (t : Table). c.args.slot < slots_of t) (sym c.self.view_is) c.requires.in_range) in
    let size = k.table.charges_size in
    let sums = k.debts_is.0 in
    let low = area_below t c.args.slot inside in
    let area : c.area_of-area.result ≡ c.args.slot / levels_of t = c.area_of-area.ensures.value ∙ (ap (λ (q : ℕ). q / levels_of c.args.self.now) (omega arith) ∙ ap (λ (u : Table). c.args.slot / levels_of u) (sym c.self.view_is)) in
    let e : c.index_mut.result.now ≡ slice_index c.self.inside.charges.items (2 * c.args.slot) = c.index_mut.ensures.value ∙ get_or_default c.self.inside.charges.items (2 * c.args.slot) c.index_mut.result.now 0 (omega arith) in
    let f : c.index_mut-2.result.now ≡ slice_index c.self.inside.debts.items (c.args.slot / levels_of t) = c.index_mut-2.ensures.value ∙ (get_or_default c.self.inside.debts.items c.area_of-area.result c.index_mut-2.result.now 0 (omega arith) ∙ ap (slice_index c.self.inside.debts.items) area) in
    rw (e, f, area) (record {
      table = charged_is (table_of c.self.inside) c.args.slot c.args.amount k.table inside
          (subst (λ (t : Table). chain t (live c.args.slot) ≢ []) (sym c.self.view_is) c.requires.placed)
          (subst (λ (t : Table). account_of t (c.args.slot / levels_of t) + c.args.amount ≤ quota_of t (c.args.slot / levels_of t)) (sym c.self.view_is) c.requires.fits);
      regions_is = k.regions_is;
      areas_is = k.areas_is;
      pages_is = k.pages_is;
      free_is = k.free_is;
      debts_is = charged_accounts t c.args.slot c.args.amount c.self.inside.debts.items k.table inside k.debts_is;
      classes_is = k.classes_is;
    })

pub overflow_add-index_mut : goal.overflow_add-index_mut
overflow_add-index_mut c =
    let k = c.self.invariant in
    let t : Table = table_of c.self.inside in
    let inside = (subst (λ (t : Table). c.args.slot < slots_of t) (sym c.self.view_is) c.requires.in_range) in
    let fits = (subst (λ (t : Table). account_of t (c.args.slot / levels_of t) + c.args.amount ≤ quota_of t (c.args.slot / levels_of t)) (sym c.self.view_is) c.requires.fits) in
    let size = k.table.charges_size in
    let e : c.index_mut.result.now ≡ slice_index c.self.inside.charges.items (2 * c.args.slot) = c.index_mut.ensures.value ∙ get_or_default c.self.inside.charges.items (2 * c.args.slot) c.index_mut.result.now 0 (omega arith) in
    let a = debt_in_account t (2 * c.args.slot) in
    let b : account_of t (2 * c.args.slot / 2 / levels_of t) ≡ account_of t (c.args.slot / levels_of t) = ap (λ (q : ℕ). account_of t (q / levels_of t)) (omega arith) in
    let d = k.table.small (c.args.slot / levels_of t) in
    omega arith

pub overflow_add-index_mut-2 : goal.overflow_add-index_mut-2
overflow_add-index_mut-2 c =
    let k = c.self.invariant in
    let t : Table = table_of c.self.inside in
    let inside = subst (λ (t : Table). c.args.slot < slots_of t) (sym c.self.view_is) c.requires.in_range in
    let fits = subst (λ (t : Table). account_of t (c.args.slot / levels_of t) + c.args.amount ≤ quota_of t (c.args.slot / levels_of t)) (sym c.self.view_is) c.requires.fits in
    let size = k.debts_is.0 in
    let low = area_below t c.args.slot inside in
    let area : c.area_of-area.result ≡ c.args.slot / levels_of t = c.area_of-area.ensures.value ∙ (ap (λ (q : ℕ). q / levels_of c.args.self.now) (omega arith) ∙ ap (λ (u : Table). c.args.slot / levels_of u) (sym c.self.view_is)) in
    let f : c.index_mut-2.result.now ≡ slice_index c.self.inside.debts.items (c.args.slot / levels_of t) = c.index_mut-2.ensures.value ∙ (get_or_default c.self.inside.debts.items c.area_of-area.result c.index_mut-2.result.now 0 (omega arith) ∙ ap (slice_index c.self.inside.debts.items) area) in
    let a = k.debts_is.1 (c.args.slot / levels_of t) low in
    let d = k.table.small (c.args.slot / levels_of t) in
    omega arith

pub index_mut-requires-2 : goal.index_mut-requires-2
index_mut-requires-2 c =
    let t : Table = table_of c.self.inside in
    let inside = subst (λ (t : Table). c.args.slot < slots_of t) (sym c.self.view_is) c.requires.in_range in
    let size = c.self.invariant.debts_is.0 in
    let whole = c.self.inside.debts.ok.0 in
    let low = area_below t c.args.slot inside in
    let area : c.area_of-area.result ≡ c.args.slot / levels_of t = c.area_of-area.ensures.value ∙ (ap (λ (q : ℕ). q / levels_of c.args.self.now) (omega arith) ∙ ap (λ (u : Table). c.args.slot / levels_of u) (sym c.self.view_is)) in
    omega arith
