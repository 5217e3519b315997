use Rattle.std.proofs.Common.{◌≡◌, ◌<◌, ◌≤◌, slice_index, subst, sym, ◌∙◌, arith}
use Rattle.std.proofs.lemmas.List.{get_or_default}
use Rattle.area_space.proofs.table.RegionTable.account.Goals as goal
use Rattle.area_space.specs.Accounts.{account_of}
use Rattle.area_space.specs.Table.{Table, areas_of, quota_of}

pub index-requires : goal.index-requires
index-requires c =
    let low = subst (λ (t : Table). c.args.area < areas_of t) (sym c.self.view_is) c.requires in
    let size = c.self.invariant.debts_is.0 in
    let whole = c.self.inside.debts.ok.0 in
    omega arith

pub returns-clause-value : goal.returns-clause-value
returns-clause-value c =
    let k = c.self.invariant in
    let low = subst (λ (t : Table). c.args.area < areas_of t) (sym c.self.view_is) c.requires in
    let size = k.debts_is.0 in
    let e : c.index.result.now ≡ slice_index c.self.inside.debts.items c.args.area = c.index.ensures ∙ get_or_default c.self.inside.debts.items c.args.area c.index.result.now 0 (omega arith) in
    subst (λ (t : Table). c.index.result.now ≡ account_of t c.args.area) c.self.view_is (e ∙ k.debts_is.1 c.args.area low)

pub returns-clause-at_most : goal.returns-clause-at_most
returns-clause-at_most c =
    let k = c.self.invariant in
    let low = subst (λ (t : Table). c.args.area < areas_of t) (sym c.self.view_is) c.requires in
    let size = k.debts_is.0 in
    let e : c.index.result.now ≡ slice_index c.self.inside.debts.items c.args.area = c.index.ensures ∙ get_or_default c.self.inside.debts.items c.args.area c.index.result.now 0 (omega arith) in
    let a = k.debts_is.1 c.args.area low in
    let paid = k.table.paid c.args.area low in
    subst (λ (t : Table). c.index.result.now ≤ quota_of t c.args.area) c.self.view_is (omega arith)
