use Rattle.std.proofs.Common.{◌≡◌, ◌++◌, ◌+◌, ◌*◌, ◌≤◌, length, take}
use Rattle.outer_ports.specs.Buffers.{Gathered}
use Rattle.paged_machine.specs.lisp_meaning.State.{State}
use Rattle.replay_run.specs.Steps.{IsReached}
use Rattle.replay_run.proofs.Accounts.{accounts}
use Rattle.replay_run.proofs.serve.give_accounts.Given as goal

abbrev pub invariant-loop-area : goal.invariant-loop-area
invariant-loop-area g l = record {
  gathered : (s : State) → g.E.Engine.stands l.engine s → IsReached l.world s
      → Gathered (g.K.Sink.stands l.fn.sink) (g.K.Sink.stands l.sink) l.buffer.pending (l.fn.buffer.pending ++ accounts s 0 (take l.area l.world.areas));
  quiet : g.K.Sink.faults l.sink ≡ g.K.Sink.faults l.fn.sink;
  room : l.buffer.room ≡ l.fn.buffer.room;
  few : length l.buffer.pending ≤ length l.fn.buffer.pending + 64 * l.area;
}
