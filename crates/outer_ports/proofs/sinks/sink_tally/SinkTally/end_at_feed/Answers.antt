use Rattle.std.proofs.Common.{ℕ, ◌++◌, take, sym, ap, ◌∙◌}
use Rattle.outer_ports.specs.Counting.{with_line}
use Rattle.outer_ports.proofs.Tallies.{counted-same, with_line-take}
use Rattle.outer_ports.proofs.sinks.sink_tally.SinkTally.end_at_feed.Goals as goal

pub returns-clause-after : goal.returns-clause-after
returns-clause-after c =
    let s = c.self.inside in
    let line = take c.in-Some.feed c.args.bytes.now in
    let none = c.if-self-eq0.true in
    rw (← c.self.view_is) (counted-same
    (c.in-Some.ensures.after ∙ sym (with_line-take s.tally line) ∙ ap (λ (k : ℕ). with_line s.tally (take 11 (take k s.begun ++ line))) (sym none))
    (ap (λ (k : ℕ). take k s.begun) none))
