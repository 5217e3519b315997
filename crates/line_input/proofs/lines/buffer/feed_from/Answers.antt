use Rattle.std.proofs.lemmas.List.{take_rest}
use Rattle.line_input.proofs.LineFeeds.{feed_behind, no_feed_behind}
use Rattle.line_input.proofs.lines.buffer.feed_from.Goals as goal

pub returns-in-None : goal.returns-in-None
returns-in-None c = no_feed_behind c.args.bytes.now c.args.from c.requires.none (rw (take_rest c.args.bytes.now c.args.from) at c.in-None.ensures)

pub returns-in-Some : goal.returns-in-Some
returns-in-Some c = feed_behind c.args.bytes.now c.args.from c.in-Some.at c.requires.in_range c.requires.none (rw (take_rest c.args.bytes.now c.args.from) at c.in-Some.ensures)
