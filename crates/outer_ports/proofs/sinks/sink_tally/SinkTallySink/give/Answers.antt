use Rattle.std.proofs.Common.{◌≡◌, ◌+◌, ◌-◌, length, take, drop, refl, sym, ap, ◌∙◌, arith}
use Rattle.std.proofs.lemmas.List.{take_all, take_rest, drop-drop}
use Rattle.std.specs.Prelude.{fold}
use Rattle.outer_ports.specs.Counting.{with_rest}
use Rattle.outer_ports.proofs.Tallies.{counted_gained, line-begins, line-taken, with_byte}
use Rattle.outer_ports.proofs.sinks.sink_tally.SinkTallySink.give.Goals as goal

pub lines-preserved : goal.lines-preserved
lines-preserved c =
    let bytes = c.lines.rest.now in
    let feed = c.in-Some.feed in
    let ended = c.split_at.result.1.now in
    let rest : take (length ended - 1) (drop 1 ended) ≡ drop (feed + 1) bytes = take_rest ended 1 ∙ ap (drop 1) c.split_at.ensures.back ∙ drop-drop 1 feed bytes in
    ap (λ s. fold with_byte s (take (length ended - 1) (drop 1 ended))) c.in-Some.ensures.after
    ∙ line-taken c.lines.self bytes _ _ feed c.end_at_feed.ensures.at_most c.in-Some.ensures.found (omega (arith, c.in-Some.ensures.in_range)) (omega (arith, c.in-Some.ensures.in_range)) refl rest
    ∙ c.lines.invariant

pub returns-clause-written : goal.returns-clause-written
returns-clause-written c =
    let piece = c.args.piece.now in
    counted_gained _ (c.go_on.ensures.value ∙ ap (λ s. with_rest s c.lines.rest.now) c.in_default.ensures.after
    ∙ sym (line-begins c.lines.self c.lines.rest.now c.end_at_feed.ensures.at_most c.in_default.ensures.found)
    ∙ c.lines.invariant ∙ ap (fold with_byte c.args.self.now) (sym (take_all (length piece) piece (omega arith))))
