use Rattle.std.proofs.Common.{◌+◌, ◌-◌, ◌*◌, ◌≤◌}
use Rattle.std.specs.List.{AllWithin}
use Rattle.mem_port.specs.View.{WithoutFault}
use Rattle.area_space.specs.View.{view}
use Rattle.transporter.specs.Preserving.{NoOldAddresses, RegistersPreserved, PreservesScanned}
use Rattle.transporter.specs.Marking.{MarksFollow}
use Rattle.transporter.specs.Moving.{MovesAtMost}
use Rattle.heap_state.specs.RepresentsLater.{RepresentsSame}
use Rattle.heap_state.specs.Settled.{IsSettled, NoOldAddressesInRegisters}
use Rattle.heap_state.proofs.settling.settle_items.Given as goal

-- the first items are settled
abbrev pub invariant-loop-i : goal.invariant-loop-i
invariant-loop-i g l = record {
  represented : RepresentsSame (g.M.Memory.seen l.fn.ground.mem) l.fn.ground.table l.fn.registers (g.M.Memory.seen l.ground.mem) l.ground.table l.registers;
  fresh : AllWithin (IsSettled l.ground.table l.registers) l.fn.items 0 l.i;
  others : RegistersPreserved l.ground.table l.fn.registers l.registers;
  preserves : PreservesScanned (g.M.Memory.seen l.fn.ground.mem) l.fn.ground.table (g.M.Memory.seen l.ground.mem) l.ground.table;
  stays_fresh : NoOldAddressesInRegisters l.fn.ground.table l.fn.registers → NoOldAddresses (g.M.Memory.seen l.fn.ground.mem) l.fn.ground.table → NoOldAddresses (g.M.Memory.seen l.ground.mem) l.ground.table;
  marks : MarksFollow (g.M.Memory.seen l.fn.ground.mem) l.fn.ground.table (g.M.Memory.seen l.ground.mem) l.ground.table;
  moves : MovesAtMost (g.M.Memory.seen l.fn.ground.mem) l.fn.ground.table (g.M.Memory.seen l.ground.mem) l.ground.table l.i;
  quiet : WithoutFault (view l.fn.ground).mem (view l.ground).mem l.fn.steps l.steps;
  few : l.ground.table.placed ≤ l.fn.ground.table.placed + 2048 * l.i;
  cost : l.steps ≤ l.fn.steps + 4 * (l.ground.table.placed - l.fn.ground.table.placed) + 46 * l.i;
}
