use Rattle.std.proofs.Common.{◌≡◌, ◌<◌, ◌*◌, ◌/◌, ℕ, sym, subst, ◌∙◌, arith}
use Rattle.std.specs.Prelude.{Contains, ◌↔◌, IsTrue}
use Rattle.area_space.proofs.ChargeChanges.{area_below}
use Rattle.area_space.proofs.ClassTable.{class_again}
use Rattle.area_space.proofs.RegionStates.{odd_is_old}
use Rattle.area_space.specs.declared.classes.Class.{Class}
use Rattle.area_space.specs.Inside.{HasClasses, class_by}
use Rattle.area_space.proofs.table.RegionTable.class_of.Goals as goal
use Rattle.area_space.specs.Table.{Table, areas_of, levels_of, slots_of, chain, class_number, IsOld}

pub returns-in-Some-clause-some : goal.returns-in-Some-clause-some
returns-in-Some-clause-some c =
    let t = c.args.self.now in
    let classes = subst (λ (u : Table). HasClasses c.self.inside.classes.items (levels_of u) (2 * slots_of u)) c.self.view_is c.self.invariant.classes_is in
    let low : c.in-Some.number < 2 * slots_of t = c.in-Some.ensures.in_range in
    let e : c.index.result.now ≡ class_by (levels_of t) c.in-Some.number = c.index.ensures ∙ classes.each c.in-Some.number c.index.result.now low in
    subst (λ (k : Class). Contains (chain t (class_number t k)) (c.args.at / 4096)) (sym e) (subst (λ (n : ℕ). Contains (chain t n) (c.args.at / 4096)) (sym (class_again t c.in-Some.number)) c.in-Some.ensures.cases)

pub returns-in-Some-clause-area : goal.returns-in-Some-clause-area
returns-in-Some-clause-area c =
    let t = c.args.self.now in
    let classes = subst (λ (u : Table). HasClasses c.self.inside.classes.items (levels_of u) (2 * slots_of u)) c.self.view_is c.self.invariant.classes_is in
    let low : c.in-Some.number < 2 * slots_of t = c.in-Some.ensures.in_range in
    let e : c.index.result.now ≡ class_by (levels_of t) c.in-Some.number = c.index.ensures ∙ classes.each c.in-Some.number c.index.result.now low in
    subst (λ (k : Class). k.area < areas_of t) (sym e) (area_below t (c.in-Some.number / 2) (omega arith))

pub returns-in-Some-clause-level : goal.returns-in-Some-clause-level
returns-in-Some-clause-level c =
    let t = c.args.self.now in
    let classes = subst (λ (u : Table). HasClasses c.self.inside.classes.items (levels_of u) (2 * slots_of u)) c.self.view_is c.self.invariant.classes_is in
    let low : c.in-Some.number < 2 * slots_of t = c.in-Some.ensures.in_range in
    let e : c.index.result.now ≡ class_by (levels_of t) c.in-Some.number = c.index.ensures ∙ classes.each c.in-Some.number c.index.result.now low in
    subst (λ (k : Class). k.level < levels_of t) (sym e) (omega arith)

pub returns-in-Some-clause-cases : goal.returns-in-Some-clause-cases
returns-in-Some-clause-cases c =
    let t = c.args.self.now in
    let classes = subst (λ (u : Table). HasClasses c.self.inside.classes.items (levels_of u) (2 * slots_of u)) c.self.view_is c.self.invariant.classes_is in
    let low : c.in-Some.number < 2 * slots_of t = c.in-Some.ensures.in_range in
    let e : c.index.result.now ≡ class_by (levels_of t) c.in-Some.number = c.index.ensures ∙ classes.each c.in-Some.number c.index.result.now low in
    subst (λ (k : Class). IsTrue k.stale ↔ IsOld t (c.args.at / 4096)) (sym e) (odd_is_old t c.in-Some.number _ c.in-Some.ensures.cases c.in-Some.ensures.found)
