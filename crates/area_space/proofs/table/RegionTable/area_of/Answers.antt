use Rattle.std.proofs.Common.{◌≡◌, ◌<◌, ◌*◌, ◌/◌, ap, subst, sym, ◌∙◌, arith}
use Rattle.area_space.proofs.ChargeChanges.{area_below}
use Rattle.area_space.specs.declared.classes.Class.{Class}
use Rattle.area_space.specs.Inside.{HasClasses, class_by}
use Rattle.area_space.proofs.table.RegionTable.area_of.Goals as goal
use Rattle.area_space.specs.Table.{Table, slots_of, levels_of, areas_of}

pub index-requires : goal.index-requires
index-requires c =
    let low = subst (λ (t : Table). c.args.class < 2 * slots_of t) (sym c.self.view_is) c.requires in
    let size = c.self.invariant.classes_is.size in
    let whole = c.self.inside.classes.ok.0 in
    omega arith

pub returns-clause-value : goal.returns-clause-value
returns-clause-value c =
    let t = c.args.self.now in
    let classes = subst (λ (u : Table). HasClasses c.self.inside.classes.items (levels_of u) (2 * slots_of u)) c.self.view_is c.self.invariant.classes_is in
    let e : c.index.result.now ≡ class_by (levels_of t) c.args.class = c.index.ensures ∙ classes.each c.args.class c.index.result.now c.requires in
    ap (λ (k : Class). k.area) e

pub returns-clause-in_range : goal.returns-clause-in_range
returns-clause-in_range c =
    let t = c.args.self.now in
    let classes = subst (λ (u : Table). HasClasses c.self.inside.classes.items (levels_of u) (2 * slots_of u)) c.self.view_is c.self.invariant.classes_is in
    let e : c.index.result.now ≡ class_by (levels_of t) c.args.class = c.index.ensures ∙ classes.each c.args.class c.index.result.now c.requires in
    let low = c.requires in
    subst (λ (k : Class). k.area < areas_of t) (sym e) (area_below t (c.args.class / 2) (omega arith))
