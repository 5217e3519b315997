use Rattle.std.proofs.Common.{◌-◌, length}
use Rattle.sexpr_print.proofs.RootLines.{GoesLines}
use Rattle.sexpr_print.proofs.print.print_roots.Given as goal

abbrev pub invariant-loop-register : goal.invariant-loop-register
invariant-loop-register l = GoesLines l.world l.roots l.register l.fn.printer l.printer

abbrev pub decreases-loop-register : goal.decreases-loop-register
decreases-loop-register l = length l.roots - l.register
