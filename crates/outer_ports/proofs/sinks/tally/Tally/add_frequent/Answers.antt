use Rattle.std.proofs.Common.{◌∙◌}
use Rattle.outer_ports.proofs.Tallies.{exhausted-counted}
use Rattle.outer_ports.proofs.sinks.tally.Tally.add_frequent.Goals as goal

pub returns-clause-after : goal.returns-clause-after
returns-clause-after c =
    c.with_exhausted.ensures ∙ exhausted-counted c.args.self.now c.args.text.now c.in_ok-words.words.now c.far_feed-feed.result c.in_ok-words.ensures
