use Rattle.std.proofs.Common.{◌+◌}
use Rattle.mem_port.specs.Store.{IsMemory}
use Rattle.transporter.specs.Writes.{Writes}
use Rattle.test_ground.specs.Written.{husk_of}
use Rattle.test_ground.proofs.transports.relaying.leave_husk.Given as goal

-- the forward and the NULL words so far are written
abbrev pub invariant-loop-i : goal.invariant-loop-i
invariant-loop-i g l = record {
  written : Writes (g.M.Memory.seen l.fn.mem) (g.M.Memory.seen l.mem) l.at (l.i + 1) (husk_of l.to);
  sound : IsMemory (g.M.Memory.seen l.mem);
}
