use Rattle.heap_collect.proofs.Admissions.{admitted_is_step, prepared_goes}
use Rattle.heap_collect.proofs.laws.allocations_are_steps.Goals as goal

pub returns-clause-admitted : goal.returns-clause-admitted
returns-clause-admitted c = admitted_is_step c.commands_are_steps.ensures.made

pub returns-clause-step : goal.returns-clause-step
returns-clause-step c = prepared_goes
