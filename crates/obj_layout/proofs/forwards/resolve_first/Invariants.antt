use Rattle.std.proofs.Common.{◌+◌, ◌≤◌}
use Rattle.mem_port.specs.View.{WithoutFault, shown}
use Rattle.mem_port.specs.Store.{StoresNothing}
use Rattle.obj_layout.proofs.ForwardChains.{Way}
use Rattle.obj_layout.proofs.forwards.resolve_first.Given as goal

-- the way goes on from here
abbrev pub invariant-loop-turn : goal.invariant-loop-turn
invariant-loop-turn g l = record {
  way : Way (g.M.Memory.seen l.fn.mem).words l.at l._turn l.here;
  stays : StoresNothing (g.M.Memory.seen l.fn.mem) (g.M.Memory.seen l.mem);
  quiet : WithoutFault (shown g.M.Memory l.fn.mem) (shown g.M.Memory l.mem) l.fn.steps l.steps;
  cost : l.steps ≤ l.fn.steps + l._turn;
}
