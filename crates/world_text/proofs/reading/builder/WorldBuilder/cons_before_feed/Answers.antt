use Rattle.world_text.proofs.reading_laws.FastLaws.{fed_reached}
use Rattle.world_text.proofs.reading.builder.WorldBuilder.cons_before_feed.Goals as goal

pub invariant_of-self : goal.invariant_of-self
invariant_of-self c =
    fed_reached c.self.inside.place c.cons_before_feed.new.place c.args.text.now c.cons_before_feed.result c.self.invariant c.cons_before_feed.ensures.judged c.cons_before_feed.ensures.none
