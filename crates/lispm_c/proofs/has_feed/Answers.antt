use Rattle.std.proofs.Common.{◌∙◌}
use Rattle.lispm_c.proofs.LineFeeds.{any_feed}
use Rattle.lispm_c.proofs.has_feed.Goals as goal

pub returns : goal.returns
returns c = c.contains.ensures.value ∙ any_feed c.args.text.now
