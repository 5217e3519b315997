use Rattle.std.proofs.Common.{rules}
use Rattle.file_modes.proofs.ModeAnswers.{answered_object, answered_text, answered_trouble, answers_read}
use Rattle.file_modes.proofs.run.answer.Goals as goal

pub returns-in_err-world-clause-value : goal.returns-in_err-world-clause-value
returns-in_err-world-clause-value g c = answered_trouble c.args.mode _ c.from_residual.result (search rules) c.in_err-world.ensures.judged

pub returns-in-Ok-clause-value : goal.returns-in-Ok-clause-value
returns-in-Ok-clause-value g c = answered_text c.args.mode c.in_ok-world.world c.in-Ok.text c.in_ok-world.ensures.judged c.in-Ok.ensures

pub returns-clause-value : goal.returns-clause-value
returns-clause-value g c = answered_object c.args.mode c.in_ok-world.world c.in-Err.trouble c.in_ok-world.ensures.judged c.in-Err.ensures

pub returns-clause-read : goal.returns-clause-read
returns-clause-read g c = answers_read c.args.mode c.in_ok-world.world c.in-Err.trouble _ c.in-Err.ensures
