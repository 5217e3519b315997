use Rattle.std.proofs.Common.{Some}
use Rattle.store_word.specs.Words.{null_word}
use Rattle.frame_pool.proofs.FrameMoves.{takes, still_used}
use Rattle.frame_pool.proofs.pool.FramePool.take.Goals as goal

pub returns-clause-taken : goal.returns-clause-taken
returns-clause-taken c = takes _ c.claim.new.self _ c.args.frame c.args.page (λ _. Some null_word) c.claim.ensures.after c.clear.ensures.words c.clear.ensures.unchanged

pub returns-clause-used : goal.returns-clause-used
returns-clause-used c = still_used c.claim.new.self _ c.args.frame c.claim.ensures.used c.clear.ensures.unchanged

pub returns-clause-in_range : goal.returns-clause-in_range
returns-clause-in_range c = c.clear.ensures.sound.used_in c.args.frame (still_used c.claim.new.self _ c.args.frame c.claim.ensures.used c.clear.ensures.unchanged)
