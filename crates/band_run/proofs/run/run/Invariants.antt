use Rattle.std.proofs.Common.{◌≡◌, List, ℕ, take}
use Rattle.outer_ports.specs.Buffers.{Gathered}
use Rattle.band_run.specs.Steps.{GoesOnAnyway, IsUsable}
use Rattle.band_run.proofs.run.run.Given as goal

abbrev pub invariant-loop-command : goal.invariant-loop-command
invariant-loop-command g l = record {
  text : List ℕ;
  gathered : Gathered (g.K.Sink.stands l.fn.sink) (g.K.Sink.stands l.sink) l.buffer.pending text;
  going : GoesOnAnyway g.D.BandDisk.bytes g.D.BandDisk.space g.D.BandDisk.images g.D.BandDisk.clock g.D.BandDisk.images_since g.D.BandDisk.faults g.D.BandDisk.changes l.fn.disk l.disk l.store (take l.command-index l.commands) text;
  usable : IsUsable l.store (g.D.BandDisk.bytes l.disk) (g.D.BandDisk.images l.disk);
  sink : g.K.Sink.faults l.sink ≡ g.K.Sink.faults l.fn.sink;
}
