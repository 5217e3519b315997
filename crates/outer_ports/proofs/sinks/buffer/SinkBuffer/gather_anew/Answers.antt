use Rattle.std.proofs.Common.{arith}
use Rattle.std.proofs.lemmas.Result.{err_from_is_err_and}
use Rattle.outer_ports.proofs.BufferGains.{gathers_none, gathers_wrote}
use Rattle.outer_ports.proofs.sinks.buffer.SinkBuffer.gather_anew.Goals as goal

pub returns-in_err-flush-clause-gathers : goal.returns-in_err-flush-clause-gathers
returns-in_err-flush-clause-gathers g c =
    let p = err_from_is_err_and c.from_residual.result c.from_residual.ensures.1 in gathers_none c.args.bytes.now p.0 p.1 (omega (arith, c.requires)) c.flush.ensures.gathers

pub returns-clause-gathers : goal.returns-clause-gathers
returns-clause-gathers g c = gathers_wrote c.args.bytes.now c.in_ok-flush.ensures.ok c.flush.ensures.gathers c.give_all.ensures.written
