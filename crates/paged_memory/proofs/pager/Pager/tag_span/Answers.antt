use Rattle.std.proofs.Common.{refl}
use Rattle.paged_memory.proofs.SpanStores.{frame_tags}
use Rattle.paged_memory.proofs.pager.Pager.tag_span.Goals as goal

pub returns-clause-marks : goal.returns-clause-marks
returns-clause-marks c = (
  c.tag_with-tag.result,
  frame_tags c.args.self.now.pool c.set_tag.new.self c.words-words.result.now c.args.self.now.levels c.args.self.now.levels c.args.frame c.args.offset c.args.count c.tagged.result c.tag_with-tag.result
      c.words-words.ensures.size c.words-words.ensures.words c.requires.in_range refl c.tagged.ensures.value c.tag_with-tag.ensures c.set_tag.ensures.set,
)
