use Rattle.lisp_meaning.proofs.laws.every_command_is_answered.Goals as goal
use Rattle.lisp_meaning.proofs.closure.Limits.{world_whole, limits_allowed}
use Rattle.lisp_meaning.proofs.closure.Transitions.{opening_sound, does_sound, step_sound, some_answers, some_run}

pub returns : goal.returns
returns c = record {
  limits = record { worlds = world_whole; commands = limits_allowed };
  opening = opening_sound;
  sound = does_sound;
  step = step_sound;
  answered = some_answers;
  run = some_run;
}
