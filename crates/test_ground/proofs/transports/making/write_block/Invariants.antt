use Rattle.std.proofs.Common.{◌+◌}
use Rattle.mem_port.specs.Store.{IsMemory}
use Rattle.transporter.specs.Writes.{Writes}
use Rattle.test_ground.specs.Written.{block_of}
use Rattle.test_ground.proofs.transports.making.write_block.Given as goal

-- the header and the fields so far are written
abbrev pub invariant-loop-i : goal.invariant-loop-i
invariant-loop-i g l = record {
  written : Writes (g.M.Memory.seen l.fn.mem) (g.M.Memory.seen l.mem) l.at (l.i + 1) (block_of l.fields);
  sound : IsMemory (g.M.Memory.seen l.mem);
}
