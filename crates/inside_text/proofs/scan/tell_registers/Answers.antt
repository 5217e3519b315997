use Rattle.std.proofs.Common.{arith, rules, length}
use Rattle.inside_text.specs.InsideText.{register_line}
use Rattle.std.proofs.lemmas.Result.{err_from_is_err_and}
use Rattle.inside_text.proofs.TextSequences.{gathered_first, gathered_to, gathers_first_cut, none_yet}
use Rattle.inside_text.proofs.scan.tell_registers.Goals as goal

pub returns-in_err-tell_register-clause-gathers : goal.returns-in_err-tell_register-clause-gathers
returns-in_err-tell_register-clause-gathers g c =
    gathers_first_cut (register_line c.args.heap.now) (length c.args.heap.now.registers) c.loop-register.register (search rules) c.args.buffer.now.pending c.loop-register.invariant.1 c.from_residual.result (err_from_is_err_and c.from_residual.result c.from_residual.ensures.1) c.in_err-tell_register.ensures.gathers.part

pub loop-register-preserved : goal.loop-register-preserved
loop-register-preserved g c = (omega (arith, c.in_ok-tell_register.ensures.cause.quiet, c.loop-register.invariant.0), gathered_first (register_line c.args.heap.now) (length c.args.heap.now.registers) c.loop-register.register (search rules) c.args.buffer.now.pending c.loop-register.invariant.1 c.in_ok-tell_register.ensures.gathers.whole)

pub loop-register-init : goal.loop-register-init
loop-register-init g c = (search rules, none_yet c.args.buffer.now.pending)

pub returns-clause-gathers : goal.returns-clause-gathers
returns-clause-gathers g c = record { whole = gathered_to (register_line c.args.heap.now) 0 (length c.args.heap.now.registers) _ c.args.buffer.now.pending (search rules) c.loop-register.invariant.1; part = _ }
