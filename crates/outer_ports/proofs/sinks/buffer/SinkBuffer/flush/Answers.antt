use Rattle.std.proofs.Common.{take}
use Rattle.outer_ports.proofs.Gains.{wrote_front}
use Rattle.outer_ports.proofs.sinks.buffer.SinkBuffer.flush.Goals as goal

pub returns-clause-written : goal.returns-clause-written
returns-clause-written g c =
    let e = c.give_front-given.ensures in rw (← c.self.view_is, ← c.deref.ensures.value) (wrote_front (take c.self.inside.len c.deref.result.now) e.fits e.written e.ok e.err)
