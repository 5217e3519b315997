use Rattle.area_space.proofs.table.making.classes_of.Given as goal
use Rattle.area_space.specs.Inside.{HasClasses}

abbrev pub invariant-loop-number : goal.invariant-loop-number
invariant-loop-number l = HasClasses l.classes.items l.levels l.number
