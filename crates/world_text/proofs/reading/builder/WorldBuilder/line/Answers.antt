use Rattle.world_text.proofs.reading_laws.PlaceInvariant.{judged_reached, judged_step}
use Rattle.world_text.proofs.reading_laws.ChargeRefusals.{judged_area}
use Rattle.world_text.proofs.reading.builder.WorldBuilder.line.Goals as goal

pub invariant_of-self : goal.invariant_of-self
invariant_of-self c = judged_reached c.self.inside.place c.line_at.new.place c.args.line.now c.line_at.result c.self.invariant c.line_at.ensures.judged

pub returns-clause-step : goal.returns-clause-step
returns-clause-step c = judged_step c.self.inside.place c.line_at.new.place c.args.line.now c.line_at.result c.self.invariant c.line_at.ensures.judged

pub returns-clause-area : goal.returns-clause-area
returns-clause-area c = judged_area c.self.inside.place c.line_at.new.place c.args.line.now c.line_at.result c.line_at.ensures.judged
