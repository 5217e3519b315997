use Rattle.std.proofs.Common.{length, Result, Ok}
use Rattle.std.specs.List.{All}
use Rattle.sexpr_text.specs.declared.fault.SexprFault.{SexprFault}
use Rattle.sexpr_text.specs.Tasks.{AllLead, IsMade, TaskState, state_of}
use Rattle.sexpr_text.proofs.forms.Forms.run.Given as goal

abbrev pub invariant-loop-task : goal.invariant-loop-task
invariant-loop-task l =
    ((after : Result TaskState SexprFault) → AllLead l.fn.self.tasks.items (Ok (state_of l.fn.self)) after → AllLead l.self.tasks.items (Ok (state_of l.self)) after)
    × All (IsMade (length l.self.objects)) l.self.tasks.items

abbrev pub decreases-loop-task : goal.decreases-loop-task
decreases-loop-task l = length l.self.pieces
