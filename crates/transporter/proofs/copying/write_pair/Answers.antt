use Rattle.std.proofs.Common.{refl}
use Rattle.transporter.specs.Writes.{two_words}
use Rattle.transporter.proofs.WriteSequences.{writes-two}
use Rattle.transporter.proofs.copying.write_pair.Goals as goal

pub returns-clause-written : goal.returns-clause-written
returns-clause-written g c = writes-two (two_words c.args.pair.first c.args.pair.second) c.in_ok-write.ensures.ok c.in_ok-write-2.ensures.ok c.requires.in_range refl refl

pub returns-then-to-lt-LAST_OFFSET-clause-written : goal.returns-then-to-lt-LAST_OFFSET-clause-written
returns-then-to-lt-LAST_OFFSET-clause-written g c =
    let two = c.in_ok-write_two.ensures.ok in
    writes-two (two_words c.args.pair.first c.args.pair.second) two.front two.back c.requires.in_range refl refl
