use Rattle.std.proofs.Common.{◌<◌, subst, sym}
use Rattle.area_space.specs.Inside.{table_of}
use Rattle.area_space.proofs.FlipSteps.{marked_is}
use Rattle.area_space.proofs.table.RegionTable.set_mark.Goals as goal
use Rattle.area_space.specs.Flips.{IsFlipMark}
use Rattle.area_space.specs.Table.{Table}

pub returns-clause-sound : goal.returns-clause-sound
returns-clause-sound c =
    let m = subst (λ (t : Table). IsFlipMark t c.args.region c.args.mark) (sym c.self.view_is) c.requires.marks in
    marked_is (table_of c.self.inside) c.args.region c.args.mark c.self.invariant.table (subst (λ (t : Table). c.args.region < t.regions) (sym c.self.view_is) c.requires.in_range) m.free

pub invariant_of-self : goal.invariant_of-self
invariant_of-self c =
    let k = c.self.invariant in
    record { table = returns-clause-sound c; regions_is = k.regions_is; areas_is = k.areas_is; pages_is = k.pages_is; free_is = k.free_is; debts_is = k.debts_is; classes_is = k.classes_is }
