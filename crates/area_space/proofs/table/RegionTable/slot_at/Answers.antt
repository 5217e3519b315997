use Rattle.std.proofs.Common.{◌≡◌, ◌<◌, subst, sym, ap, arith}
use Rattle.std.specs.Option.{is_some}
use Rattle.std.specs.Prelude.{Contains, length}
use Rattle.area_space.proofs.ChargeChanges.{slots_few}
use Rattle.area_space.specs.Inside.{table_of}
use Rattle.area_space.specs.Table.{Table, live, chain}
use Rattle.area_space.proofs.table.RegionTable.slot_at.Goals as goal

pub owner-requires : goal.owner-requires
owner-requires c =
    let e = c.requires in
    let held = subst (λ (u : Table). Contains (chain u (live e.0)) c.args.region) (sym c.self.view_is) e.1 in
    c.self.invariant.table.sound.within (live e.0) c.args.region held

pub returns-clause-value : goal.returns-clause-value
returns-clause-value c = λ slot m.
    let held = subst (λ (u : Table). Contains (chain u (live slot)) c.args.region) (sym c.self.view_is) m in
    let f = c.owner.ensures.found (live slot) held in
    let got = c.unwrap-class.ensures in
    let e : c.unwrap-class.result ≡ live slot = cc in
    omega arith

pub returns-clause-in_range : goal.returns-clause-in_range
returns-clause-in_range c =
    let size = c.self.invariant.table.chains_size in
    let low : c.unwrap-class.result < length c.self.inside.chains.lists = rw c.unwrap-class.ensures at c.owner.ensures.in_range in
    rw (← c.self.view_is) (omega arith)

pub returns-clause-at_most : goal.returns-clause-at_most
returns-clause-at_most c =
    let size = c.self.invariant.table.chains_size in
    let low : c.unwrap-class.result < length c.self.inside.chains.lists = rw c.unwrap-class.ensures at c.owner.ensures.in_range in
    let few = slots_few (table_of c.self.inside) c.self.invariant.table in
    omega arith

pub returns-clause-sound : goal.returns-clause-sound
returns-clause-sound c = rw (← c.self.view_is) c.self.invariant.table

pub unwrap-class-requires : goal.unwrap-class-requires
unwrap-class-requires c =
    let e = c.requires in
    let held = subst (λ (u : Table). Contains (chain u (live e.0)) c.args.region) (sym c.self.view_is) e.1 in
    ap is_some (c.owner.ensures.found (live e.0) held)
