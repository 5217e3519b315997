use Rattle.std.proofs.Common.{ℕ, ◌++◌, take, sym, ap, ◌∙◌}
use Rattle.outer_ports.specs.Counting.{with_line}
use Rattle.outer_ports.proofs.Tallies.{counted-same, with_line-take}
use Rattle.outer_ports.proofs.sinks.sink_tally.SinkTally.end_line.Goals as goal

pub returns-then-self-eq0-clause-value : goal.returns-then-self-eq0-clause-value
returns-then-self-eq0-clause-value c =
    let s = c.self.inside in
    let bytes = c.args.bytes.now in
    let none = c.if-self-eq0.true in
    rw (← c.self.view_is) (counted-same
    (c.add.ensures ∙ sym (with_line-take s.tally bytes) ∙ ap (λ (k : ℕ). with_line s.tally (take 11 (take k s.begun ++ bytes))) (sym none))
    (ap (λ (k : ℕ). take k s.begun) none))
