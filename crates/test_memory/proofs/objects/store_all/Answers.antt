use Rattle.std.proofs.Common.{◌<◌, length, arith, ◌∙◌}
use Rattle.test_memory.proofs.ExampleLaws.{stored-more, stored-size}
use Rattle.test_memory.proofs.objects.store_all.Goals as goal

pub loop-at-preserved : goal.loop-at-preserved
loop-at-preserved g c =
    let i = c.loop-at.invariant in
    let size = i.size in
    let stored = c.in_ok-write.ensures.ok.words in
    let inside : c.loop-at.at < length (g.M.Memory.seen c.loop-at.mem).words = omega arith in
    record {
      size = stored-size _ _ _ _ stored ∙ size;
      stored = stored-more _ _ _ _ _ stored inside c.loop-at-test.true c.index-words-at.is i.stored;
    }
