use Rattle.mem_port.specs.Store.{IsMemory}
use Rattle.transporter.specs.Writes.{Writes}
use Rattle.test_ground.specs.Written.{cell_of}
use Rattle.test_ground.proofs.transports.making.write_cells.Given as goal

-- the cells so far are written
abbrev pub invariant-loop-i : goal.invariant-loop-i
invariant-loop-i g l = record {
  written : Writes (g.M.Memory.seen l.fn.mem) (g.M.Memory.seen l.mem) l.at l.i (cell_of l.count);
  sound : IsMemory (g.M.Memory.seen l.mem);
}
