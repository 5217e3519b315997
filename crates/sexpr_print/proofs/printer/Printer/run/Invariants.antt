use Rattle.sexpr_print.specs.Tasks.{work_left}
use Rattle.sexpr_print.proofs.Steps.{Goes}
use Rattle.sexpr_print.proofs.printer.Printer.run.Given as goal

abbrev pub invariant-loop-task : goal.invariant-loop-task
invariant-loop-task l = Goes l.world l.fn.self l.self

abbrev pub decreases-loop-task : goal.decreases-loop-task
decreases-loop-task l = work_left l.world.objects l.self.tasks.items l.self.printed
