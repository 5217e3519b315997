use Rattle.std.proofs.Common.{◌≡◌, ◌<◌, ℕ, None, [], subst, sym}
use Rattle.area_space.proofs.TableFields.{aimed_is, none_old}
use Rattle.area_space.specs.Inside.{table_of}
use Rattle.area_space.proofs.table.RegionTable.finish.Goals as goal
use Rattle.area_space.specs.Table.{Table, slots_of, chain, stale}

pub returns-clause-sound : goal.returns-clause-sound
returns-clause-sound c =
    let t : Table = table_of c.self.inside in
    let none = subst (λ (u : Table). (slot : ℕ) → slot < slots_of u → chain u (stale slot) ≡ []) (sym c.self.view_is) c.requires in
    aimed_is t None t.last t.pages c.self.invariant.table (λ _. none_old t c.self.invariant.table none)

pub invariant_of-self : goal.invariant_of-self
invariant_of-self c =
    let k = c.self.invariant in
    record { table = returns-clause-sound c; regions_is = k.regions_is; areas_is = k.areas_is; pages_is = k.pages_is; free_is = k.free_is; debts_is = k.debts_is; classes_is = k.classes_is }
