use Rattle.std.proofs.Common.{◌≡◌, ◌<◌, ◌*◌, ◌+◌, subst, sym, refl, arith}
use Rattle.index_lists.specs.Chains.{list_at}
use Rattle.area_space.specs.Inside.{table_of}
use Rattle.area_space.proofs.RegionReleases.{release_kept}
use Rattle.area_space.proofs.table.RegionTable.release.Goals as goal
use Rattle.area_space.specs.Accounts.{debt}
use Rattle.area_space.specs.Sound.{IsTable}
use Rattle.area_space.specs.Table.{Table, slots_of, stale}
use Rattle.index_lists.proofs.ListUpdates.{Contains-first}

pub remove-requires : goal.remove-requires
remove-requires c = (2 * c.args.slot + 1, Contains-first (list_at c.self.inside.chains (2 * c.args.slot + 1)) c.in-Some.region (sym c.in-Some.ensures.first))

pub invariant_of-self : goal.invariant_of-self
invariant_of-self c =
    let held = Contains-first (list_at c.self.inside.chains (2 * c.args.slot + 1)) c.in-Some.region (sym c.in-Some.ensures.first) in
    release_kept (table_of c.self.inside) c.remove.new.self c.self.inside.free c.insert.new.self c.args.slot c.in-Some.region c.self.inside.regions c.self.inside.areas c.self.inside.scan.count c.self.invariant c.insert.ensures
    (subst (λ (t : Table). c.args.slot < slots_of t) (sym c.self.view_is) c.requires.in_range)
    (subst (λ (t : Table). debt t (stale c.args.slot) ≡ 0) (sym c.self.view_is) c.requires.empty)
    (sym c.in-Some.ensures.first) (c.remove.ensures.after (2 * c.args.slot + 1) held) c.remove.ensures.sound c.remove.ensures.free

pub returns-in-Some-clause-after : goal.returns-in-Some-clause-after
returns-in-Some-clause-after c =
    let held = Contains-first (list_at c.self.inside.chains (2 * c.args.slot + 1)) c.in-Some.region (sym c.in-Some.ensures.first) in
    let is = c.remove.ensures.after (2 * c.args.slot + 1) held in
    rw (← c.self.view_is, is) refl

pub returns-in-Some-clause-sound : goal.returns-in-Some-clause-sound
returns-in-Some-clause-sound c = subst IsTable c.self.view_is c.self.invariant.table

pub returns-in-None-clause-sound : goal.returns-in-None-clause-sound
returns-in-None-clause-sound c = subst IsTable c.self.view_is c.self.invariant.table

pub insert-requires : goal.insert-requires
insert-requires c =
    let held = Contains-first (list_at c.self.inside.chains (2 * c.args.slot + 1)) c.in-Some.region (sym c.in-Some.ensures.first) in
    let low = c.self.invariant.table.sound.within (2 * c.args.slot + 1) c.in-Some.region held in
    let bound = c.self.invariant.free_is.bound in
    omega arith
