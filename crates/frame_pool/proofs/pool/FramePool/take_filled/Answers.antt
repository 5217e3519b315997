use Rattle.std.proofs.Common.{slice_get}
use Rattle.frame_pool.proofs.FrameMoves.{takes, still_used}
use Rattle.frame_pool.proofs.pool.FramePool.take_filled.Goals as goal

pub returns-clause-taken : goal.returns-clause-taken
returns-clause-taken c = takes _ c.claim.new.self _ c.args.frame c.args.page (slice_get c.args.from.now) c.claim.ensures.after c.fill.ensures.words c.fill.ensures.unchanged

pub returns-clause-used : goal.returns-clause-used
returns-clause-used c = still_used c.claim.new.self _ c.args.frame c.claim.ensures.used c.fill.ensures.unchanged

pub returns-clause-in_range : goal.returns-clause-in_range
returns-clause-in_range c = c.fill.ensures.sound.used_in c.args.frame (still_used c.claim.new.self _ c.args.frame c.claim.ensures.used c.fill.ensures.unchanged)
