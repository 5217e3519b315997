use Rattle.std.proofs.Common.{◌<◌, subst, sym, arith}
use Rattle.index_lists.specs.Chains.{IsFree}
use Rattle.area_space.specs.Inside.{table_of}
use Rattle.area_space.proofs.TableFields.{open_kept}
use Rattle.area_space.proofs.table.RegionTable.open.Goals as goal
use Rattle.area_space.specs.Table.{Table, lists_of}

pub push_back-requires-clause-free : goal.push_back-requires-clause-free
push_back-requires-clause-free c = subst (λ (t : Table). IsFree (lists_of t) c.args.region) (sym c.self.view_is) c.requires.free

pub invariant_of-self : goal.invariant_of-self
invariant_of-self c =
    open_kept (table_of c.self.inside) c.args.self.now _ _ _ c.args.area c.args.level c.args.region c.slot-slot.result _ _ _ c.self.view_is c.self.invariant c.remove.ensures
    c.requires.area c.requires.level c.requires.free c.requires.needed c.requires.at_most c.slot-slot.ensures.value c.push_back.ensures.after c.push_back.ensures.sound

pub remove-requires : goal.remove-requires
remove-requires c =
    let low = subst (λ (t : Table). c.args.region < t.regions) (sym c.self.view_is) c.requires.in_range in
    let bound = c.self.invariant.free_is.bound in
    omega arith

pub returns-clause-sound : goal.returns-clause-sound
returns-clause-sound c =
    let kept = open_kept (table_of c.self.inside) c.args.self.now _ _ _ c.args.area c.args.level c.args.region c.slot-slot.result _ _ _ c.self.view_is c.self.invariant c.remove.ensures
    c.requires.area c.requires.level c.requires.free c.requires.needed c.requires.at_most c.slot-slot.ensures.value c.push_back.ensures.after c.push_back.ensures.sound in
    kept.table
