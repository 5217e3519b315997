use Rattle.std.proofs.lemmas.Result.{on_ok_weaker}
use Rattle.transporter.proofs.TransportSequences.{same-stores}
use Rattle.cdr_lists.proofs.NewWords.{pair_written}
use Rattle.cdr_lists.proofs.pair.write_pair.Goals as goal

pub returns-then-at-lt-LAST_OFFSET-clause-pair : goal.returns-then-at-lt-LAST_OFFSET-clause-pair
returns-then-at-lt-LAST_OFFSET-clause-pair g c = on_ok_weaker c.write_two.result (λ two. pair_written same-stores two.front two.back c.requires.in_range) c.write_two.ensures.ok
