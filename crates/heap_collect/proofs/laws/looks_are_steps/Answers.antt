use Rattle.heap_collect.proofs.ObjectLooks.{admitted_play_is_step, stands_after_look, unasked_is_step}
use Rattle.heap_collect.proofs.laws.looks_are_steps.Goals as goal

pub returns-clause-stands : goal.returns-clause-stands
returns-clause-stands c = stands_after_look c.scans_go_on.ensures.stays_sound c.scans_go_on.ensures.units

pub returns-clause-idle : goal.returns-clause-idle
returns-clause-idle c = unasked_is_step c.scans_go_on.ensures.stays_sound c.scans_go_on.ensures.units c.commands_are_steps.ensures.performs

pub returns-clause-admitted : goal.returns-clause-admitted
returns-clause-admitted c = admitted_play_is_step c.commands_are_steps.ensures.made
