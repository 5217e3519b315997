use Rattle.paged_memory.proofs.FrameAccess.{stores_pair}
use Rattle.paged_memory.proofs.region_levels.RegionLevels.store_two.Goals as goal

pub returns-clause-written : goal.returns-clause-written
returns-clause-written c =
    stores_pair _ c.set_two.new.self c.tag_word.new.pool _ c.args.self.now c.args.frame c.args.offset c.args.first c.args.second c.set_two.ensures.sound c.set_two.ensures.set c.tag_word.ensures.marks c.tag_word-2.ensures.marks
