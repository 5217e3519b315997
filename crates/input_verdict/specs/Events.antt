-- What a line requests, including the command that it states.
use Rattle.std.specs.Prelude.{◌+◌, Result, Ok, Err}
use Rattle.lisp_graph.specs.declared.command.Command.{Command}
use Rattle.world_text.specs.declared.fault.WorldFault.{WorldFault}
use Rattle.line_input.specs.declared.statuses.status.RunError.{RunError}
use Rattle.line_input.specs.Statuses.{world_trouble}
use Rattle.input_verdict.specs.Input.{JudgedInput}
use Rattle.input_verdict.specs.declared.input.LineEffect.{LineEffect}
use Rattle.input_verdict.specs.declared.input.LineEffect.TheVariants as steps

-- a machine has to be opened for the world, a command has to be run, or nothing has to be done
pub data Event : Type 0 where
  Nothing : Event
  Opens : Event
  Does : Command → Event

-- the event of a step whose command, if it has one, is this
abbrev pub event_of : LineEffect → Command → Event
event_of steps.Nothing command = Nothing
event_of steps.Opens command = Opens
event_of steps.Does command = Does command

-- the trouble if the line after a place is refused for this reason (`fault`)
abbrev pub trouble_at : JudgedInput → WorldFault → RunError
trouble_at place fault = world_trouble (place.lines + 1) place.judge.builder.world.areas fault

-- what a call that judged the line after a place returned, with the command that it wrote
abbrev pub events : JudgedInput → Result LineEffect WorldFault → Command → Result Event RunError
events place (Ok step) command = Ok (event_of step command)
events place (Err fault) command = Err (trouble_at place fault)
