use Rattle.std.proofs.Common.{arith}
use Rattle.input_verdict.proofs.judge.judge_line.Goals as goal

pub advance-requires-clause-sound : goal.advance-requires-clause-sound
advance-requires-clause-sound c = record {
  few = omega (arith, c.in_ok-step.ensures.count.0, c.in_ok-step.ensures.count.1, c.requires.sound.counts.few);
  within = omega (arith, c.in_ok-step.ensures.count.1, c.requires.sound.counts.within);
}

pub advance-requires-clause-in_range : goal.advance-requires-clause-in_range
advance-requires-clause-in_range c = omega (arith, c.in_ok-step.ensures.count.1, c.broken_limit.ensures.in_range c.in_default.is c.requires.at_most)

pub returns-clause-stays_sound : goal.returns-clause-stays_sound
returns-clause-stays_sound c = record {
  counts = c.advance.ensures.stays_sound;
  accepted = rw c.advance.ensures.after c.in_ok-step.ensures.accepted;
}
