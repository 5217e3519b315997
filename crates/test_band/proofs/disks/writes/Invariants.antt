use Rattle.std.proofs.Common.{◌≤◌, length}
use Rattle.test_band.proofs.disks.writes.Given as goal

-- the piece has its room
abbrev pub invariant-loop-i : goal.invariant-loop-i
invariant-loop-i g l = length l.piece ≤ g.D.BandDisk.space l.disk
