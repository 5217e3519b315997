use Rattle.std.proofs.Common.{refl, subst, arith, List}
use Rattle.lisp_graph.specs.declared.object.Value.{Value}
use Rattle.sexpr_print.specs.Lines.{PrintsLines}
use Rattle.sexpr_print.proofs.RootLines.{lines_end, lines_next, lines_none}
use Rattle.sexpr_print.proofs.print.print_roots.Goals as goal

pub loop-register-init : goal.loop-register-init
loop-register-init c = lines_none c.args.world.now c.as_slice-roots.result.now c.args.printer.now c.requires.open c.requires.idle

pub loop-register-preserved : goal.loop-register-preserved
loop-register-preserved c =
    lines_next c.args.world.now c.as_slice-roots.result.now c.loop-register.register _ _ c.args.printer.now c.loop-register.printer c.print_register.new.printer (omega arith) refl c.loop-register.invariant c.in_ok-print_register.ensures

pub returns : goal.returns
returns c =
    let P : List Value → Type 0 = λ vs. PrintsLines c.args.world.now 0 vs c.args.printer.now c.loop-register.printer in
    subst P c.as_slice-roots.ensures (lines_end c.args.world.now c.as_slice-roots.result.now c.loop-register.register c.args.printer.now c.loop-register.printer (omega arith) c.loop-register.invariant)
