use Rattle.std.proofs.Common.{◌-◌, length}
use Rattle.sexpr_print.proofs.ListConses.{Along}
use Rattle.sexpr_print.proofs.printer.Printer.rest.Given as goal

abbrev pub invariant-loop-next : goal.invariant-loop-next
invariant-loop-next l = Along l.world l.area l.charge l.fn.cdr l.cdr l.fn.self l.self

abbrev pub decreases-loop-next : goal.decreases-loop-next
decreases-loop-next l = length l.self.printed.counts - length l.self.printed.names
