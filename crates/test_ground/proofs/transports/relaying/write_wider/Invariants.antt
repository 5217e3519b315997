use Rattle.std.proofs.Common.{◌+◌}
use Rattle.mem_port.specs.Store.{IsMemory}
use Rattle.transporter.specs.Writes.{Writes}
use Rattle.test_ground.specs.Written.{wider_of}
use Rattle.test_ground.proofs.transports.relaying.write_wider.Given as goal

-- the header and the fields so far are written
abbrev pub invariant-loop-i : goal.invariant-loop-i
invariant-loop-i g l = record {
  written : Writes (g.M.Memory.seen l.fn.mem) (g.M.Memory.seen l.mem) l.to (l.i + 1) (wider_of (g.M.Memory.seen l.fn.mem).words l.at l.code l.fields);
  sound : IsMemory (g.M.Memory.seen l.mem);
}
