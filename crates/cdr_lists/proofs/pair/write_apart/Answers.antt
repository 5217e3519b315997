use Rattle.std.proofs.lemmas.Result.{on_ok_weaker}
use Rattle.cdr_lists.proofs.NewWords.{pair_written}
use Rattle.cdr_lists.proofs.pair.write_apart.Goals as goal

pub returns-clause-pair : goal.returns-clause-pair
returns-clause-pair g c = on_ok_weaker c.write-2.result (λ stores. pair_written c.in_ok-hold.ensures.unchanged c.in_ok-write.ensures.ok stores c.requires.in_range) c.write-2.ensures.ok
