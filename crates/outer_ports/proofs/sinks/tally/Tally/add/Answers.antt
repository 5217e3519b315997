use Rattle.std.proofs.Common.{Bool, true, sym, ap, ◌∙◌}
use Rattle.outer_ports.specs.Counting.{next_count_if}
use Rattle.outer_ports.proofs.FirstWords.{uncounted}
use Rattle.outer_ports.proofs.sinks.tally.Tally.add.Goals as goal

pub returns-else-may_be_counted : goal.returns-else-may_be_counted
returns-else-may_be_counted c =
    let t = c.args.self.now in
    let none = uncounted c.args.line.now (sym c.may_be_counted.ensures ∙ c.if-may_be_counted.false) in
    let exhausted = ap (λ (b : Bool). next_count_if b t.exhausted) (sym none.0) in
    let wrong_type = ap (λ (b : Bool). next_count_if b t.wrong_type) (sym none.1) in
    let reclaimed = ap (λ (b : Bool). next_count_if b t.reclaimed) (sym none.2) in
    let fault = ap (λ (b : Bool). next_count_if b t.fault) (sym none.3) in
    c.with_other.ensures ∙ (λ i. record { replies = next_count_if true t.replies; exhausted = exhausted i; wrong_type = wrong_type i; reclaimed = reclaimed i; fault = fault i })
