use Rattle.std.proofs.Common.{◌≡◌, ◌≤◌, [], length}
use Rattle.sexpr_text.specs.Roots.{roots_from}
use Rattle.sexpr_text.specs.Rooting.{rooted}
use Rattle.sexpr_text.proofs.RootLaws.{Goes}
use Rattle.sexpr_text.proofs.roots.roots.Given as goal

abbrev pub invariant-loop-forms : goal.invariant-loop-forms
invariant-loop-forms l =
    Goes (roots_from (length l.fn.forms.pieces) (rooted l.fn.registers l.fn.forms) l.fn.forms.pieces) (rooted l.registers l.forms) l.forms.pieces
    × (l.forms.tasks.items ≡ [])
    × (length l.registers.roots ≤ 256)

abbrev pub decreases-loop-forms : goal.decreases-loop-forms
decreases-loop-forms l = length l.forms.pieces
