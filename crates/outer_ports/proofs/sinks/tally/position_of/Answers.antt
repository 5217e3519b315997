use Rattle.std.proofs.Common.{rules, tests, ◌==◌}
use Rattle.std.proofs.lemmas.Iterator.{YieldsList-from_slice}
use Rattle.std.proofs.lemmas.Iterator.Search.{position_from_yields_List}
use Rattle.outer_ports.proofs.FirstWords.{position_or_len-found}
use Rattle.outer_ports.proofs.sinks.tally.position_of.Goals as goal

pub returns-clause-value : goal.returns-clause-value
returns-clause-value c =
    rw c.unwrap_or.ensures (position_or_len-found (λ byte. byte == c.args.mark) c.args.bytes.now c.position-found.result (position_from_yields_List (λ byte. byte == c.args.mark) _ _ c.position-found.result c.position-found.ensures.ran (YieldsList-from_slice c.args.bytes.now cc) (λ x b q k. search (rules, tests))))
