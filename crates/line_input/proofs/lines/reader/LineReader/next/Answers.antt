use Rattle.std.proofs.Common.{◌-◌, length, inr, ap, ◌∙◌}
use Rattle.line_input.specs.Reader.{no_feed}
use Rattle.line_input.proofs.LineFeeds.{no_feed-take}
use Rattle.line_input.proofs.lines.reader.LineReader.next.Goals as goal

-- the source failed: no buffered byte is a line feed, so neither is one before the latest piece
pub returns-in_err-more-clause-last : goal.returns-in_err-more-clause-last
returns-in_err-more-clause-last g c =
    inr (no_feed-take (length c.more.new.self.bytes - g.S.Source.last c.more.new.source) c.more.new.self.bytes
    (ap no_feed c.in_err-more.ensures.bytes ∙ c.in_default.ensures.found.none))
