use Rattle.std.proofs.Common.{List, ◌∷◌, [], ◌++◌, ◌+◌, ap, sym, subst, ◌∙◌}
use Rattle.area_space.proofs.ClassTable.{classes_none, classes_more}
use Rattle.area_space.proofs.table.making.classes_of.Goals as goal
use Rattle.area_space.specs.declared.classes.Class.{Class}
use Rattle.area_space.specs.Inside.{HasClasses}

pub loop-number-init : goal.loop-number-init
loop-number-init c = subst (λ (xs : List Class). HasClasses xs c.args.levels 0) (sym c.new-classes.ensures.items) (classes_none c.args.levels)

pub loop-number-preserved : goal.loop-number-preserved
loop-number-preserved c =
    let pushed = c.in_ok-push.ensures.items ∙ ap (λ (k : Class). c.loop-number.classes.items ++ k ∷ []) c.class_by.ensures in
    subst (λ (xs : List Class). HasClasses xs c.args.levels (c.loop-number.number + 1)) (sym pushed) (classes_more c.loop-number.classes.items c.args.levels c.loop-number.number c.loop-number.invariant)
