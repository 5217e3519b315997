-- The place after an accepted line.
use Rattle.std.proofs.Common.{◌≡◌, ℕ, List}
use Rattle.lisp_graph.specs.declared.command.Command.{Command}
use Rattle.lisp_graph.specs.declared.world.World.{World}
use Rattle.lisp_graph.specs.Flips.{InLevels}
use Rattle.trace_text.specs.Commands.{Run, trace_line}
use Rattle.std.specs.Prelude.{Ok}
use Rattle.lisp_graph.specs.Commands.{IsRunnable}
use Rattle.input_verdict.proofs.TraceNames.{trace_named}

-- a command of the trace can be run
pub runnable : (world : World) (text : List ℕ) (command : Command) → trace_line world.space world.areas text ≡ Ok (Run command) → InLevels world.space.levels command → IsRunnable world command
runnable world text command is levels =
    let named = trace_named world.space world.areas text command is in
    record { registers = named.in_registers; areas = named.in_areas; limits = named.in_limits; levels = levels }
