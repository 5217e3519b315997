use Rattle.std.proofs.Common.{◌∙◌, Bool, ap, sym}
use Rattle.std.specs.Prelude.{if◌then◌else◌}
use Rattle.lisp_graph.specs.declared.reply.Reply.TheVariants as R
use Rattle.heap_collect.proofs.ScanSequences.{faulted_ahead, none_of, scavenges, scavenges_none, some_of}
use Rattle.heap_collect.proofs.scanning.scavenge.Goals as goal

pub returns-in-Ok-clause-step : goal.returns-in-Ok-clause-step
returns-in-Ok-clause-step g c k s x = scavenges_none (c.in-Ok.ensures.ok.ahead k s x) (none_of c.scan_ahead.new.ground.table.aim c.condemned.result c.is_none.result c.condemned.ensures c.is_none.ensures c.if-is_none.true)

pub returns-in-Ok-2-clause-step : goal.returns-in-Ok-2-clause-step
returns-in-Ok-2-clause-step g c k s x =
    scavenges (c.in-Ok-2.ensures.ok.ahead k s x) c.from.ensures (some_of c.scan_ahead.new.ground.table.aim c.condemned.result c.is_none.result c.condemned.ensures c.is_none.ensures c.if-is_none.false)
    (sym (ap (λ (b : Bool). if b then R.Done else R.More) (sym c.is_over.ensures ∙ c.if-is_over.true)))

pub returns-in-Ok-3-clause-step : goal.returns-in-Ok-3-clause-step
returns-in-Ok-3-clause-step g c k s x =
    scavenges (c.in-Ok-3.ensures.ok.ahead k s x) c.from.ensures (some_of c.scan_ahead.new.ground.table.aim c.condemned.result c.is_none.result c.condemned.ensures c.is_none.ensures c.if-is_none.false)
    (sym (ap (λ (b : Bool). if b then R.Done else R.More) (sym c.is_over.ensures ∙ c.if-is_over.false)))

pub returns-in-Err-clause-step : goal.returns-in-Err-clause-step
returns-in-Err-clause-step g c k s x = faulted_ahead (c.in-Err.ensures.fault k s x)

pub returns-in-Ok-clause-scans : goal.returns-in-Ok-clause-scans
returns-in-Ok-clause-scans g c = λ _. rw (← c.from.ensures) c.in-Ok.ensures.ok

pub returns-in-Ok-2-clause-scans : goal.returns-in-Ok-2-clause-scans
returns-in-Ok-2-clause-scans g c = λ _. rw (← c.from.ensures) c.in-Ok-2.ensures.ok

pub returns-in-Ok-3-clause-scans : goal.returns-in-Ok-3-clause-scans
returns-in-Ok-3-clause-scans g c = λ _. rw (← c.from.ensures) c.in-Ok-3.ensures.ok
