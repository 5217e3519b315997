use Rattle.std.proofs.Common.{◌-◌, refl, arith}
use Rattle.band_store.proofs.BufferBytes.{gate_read}
use Rattle.band_store.proofs.reading.gate_at.Goals as goal

pub returns-clause-ok : goal.returns-clause-ok
returns-clause-ok g c =
    gate_read c.min-len.result c.args.gate (c.size.result - c.args.gate) c.read_at.new.into _ (g.D.BandDisk.bytes c.args.disk.now) c.read_gate.result
    refl (omega arith) (omega arith) c.in_ok-read_at.ensures.read c.read_gate.ensures
