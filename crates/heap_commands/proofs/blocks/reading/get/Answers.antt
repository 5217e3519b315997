use Rattle.std.proofs.Common.{Err, ap, arith, refl, rules}
use Rattle.std.proofs.lemmas.Result.{on_ok_weaker}
use Rattle.store_word.specs.Words.{Parts}
use Rattle.lisp_graph.specs.declared.reply.Reply.TheVariants as R
use Rattle.heap_state.proofs.FetchedValues.{fetched_shows, answer_performs}
use Rattle.heap_state.proofs.CommandEffects.{performs_after}
use Rattle.mem_port.proofs.CallReports.{answered, answered-if, quiet-twice}
use Rattle.heap_commands.proofs.Refusals.{failed_ok, failed_tells, quiet-then}
use Rattle.heap_commands.proofs.FieldReads.{field_fetches, field_readable, get_failed, only_from}
use Rattle.heap_commands.proofs.SettledRegisters.{settles_one}
use Rattle.block_store.proofs.transporter.TransportSequences.{moves-more, moves-then}
use Rattle.heap_commands.proofs.Moves.{moves_read}
use Rattle.heap_commands.proofs.blocks.reading.get.Goals as goal

pub field-requires : goal.field-requires
field-requires g c =
    let x = c.in_ok-block.ensures in
    let s = settles_one _ _ _ _ _ _ c.requires.consistent x.represented x.preserves x.registers x.stays_fresh x.marks c.args.from c.in_ok-block.block c.requires.from x.word x.fresh in
    field_readable _ _ c.settle_register.new.registers c.args.from c.in_ok-block.block s.read (s.inside _ c.requires.from) s.consistent s.settled

pub show_into-requires-clause-can : goal.show_into-requires-clause-can
show_into-requires-clause-can g c =
    let x = c.in_ok-block.ensures in
    let s = settles_one _ _ _ _ _ _ c.requires.consistent x.represented x.preserves x.registers x.stays_fresh x.marks c.args.from c.in_ok-block.block c.requires.from x.word x.fresh in
    let got = c.in-Ok.ensures in
    let fetches = field_fetches _ _ c.settle_register.new.registers c.args.from c.in_ok-block.block s.read (s.inside _ c.requires.from) _ _ c.args.to c.args.index (λ ne. let e = got.refused.1 ne in cc) got.in_range.0 got.in_range.1 got.in_range.2 c.in-Ok.word got.value in
    fetched_shows _ _ (g.M.Memory.seen c.field.new.ground.mem) _ _ c.settle_register.new.registers _ c.args.to c.args.from c.in-Ok.word R.Fine s.consistent (s.inside _ c.requires.to) (s.inside _ c.requires.from) s.settled (only_from c.args.to c.args.from c.args.index) fetches got.fresh got.stays_ground.preserves got.stays_ground.stays_fresh got.stays_ground.marks

pub returns-in-Ok-clause-performs : goal.returns-in-Ok-clause-performs
returns-in-Ok-clause-performs g c =
    let x = c.in_ok-block.ensures in
    let s = settles_one _ _ _ _ _ _ c.requires.consistent x.represented x.preserves x.registers x.stays_fresh x.marks c.args.from c.in_ok-block.block c.requires.from x.word x.fresh in
    let got = c.in-Ok.ensures in
    let fetches = field_fetches _ _ c.settle_register.new.registers c.args.from c.in_ok-block.block s.read (s.inside _ c.requires.from) _ _ c.args.to c.args.index (λ ne. let e = got.refused.1 ne in cc) got.in_range.0 got.in_range.1 got.in_range.2 c.in-Ok.word got.value in
    let shown = c.show_into.ensures in
    performs_after _ _ _ _ _ _ _ _ _ _ _ s.leaves
    (answer_performs _ _ (g.M.Memory.seen c.show_into.new.mem) _ _ c.settle_register.new.registers _ c.args.to c.args.from c.in-Ok.word c.show_into.result s.consistent (s.inside _ c.requires.to) (s.inside _ c.requires.from) s.settled (only_from c.args.to c.args.from c.args.index) fetches got.fresh got.stays_ground.preserves got.stays_ground.stays_fresh got.stays_ground.marks c.show_into.new.registers refl
    shown.unchanged shown.shows shown.succeeds shown.set shown.err)

pub returns-in-Err-clause-performs : goal.returns-in-Err-clause-performs
returns-in-Err-clause-performs g c =
    let x = c.in_ok-block.ensures in
    let s = settles_one _ _ _ _ _ _ c.requires.consistent x.represented x.preserves x.registers x.stays_fresh x.marks c.args.from c.in_ok-block.block c.requires.from x.word x.fresh in
    let got = c.in-Err.ensures in
    rw c.refusal.ensures (performs_after _ _ _ _ _ _ _ _ _ _ _ s.leaves
    (get_failed _ _ c.settle_register.new.registers c.args.from c.in_ok-block.block s.read (s.inside _ c.requires.from) _ _ c.args.to c.args.index got.fault got.stays_ground.preserves got.stays_ground.stays_fresh got.stays_ground.marks
    c.in-Err.fault (λ is. got.refused.0 (ap Err is)) (λ ne. let e = got.refused.1 ne in cc) (λ count is. got.no_field count (ap Err is))))

pub returns-in-Ok-clause-costs : goal.returns-in-Ok-clause-costs
returns-in-Ok-clause-costs g c =
    let settled = c.in_ok-block.ensures in
    let settling = settled.cost in
    let settling_grows = settled.preserves.grows.placed in
    let reading = c.in-Ok.ensures.costs.cost refl in
    let reading_grows = c.in-Ok.ensures.grows.placed in
    let showing = c.show_into.ensures.cost in
    record { tells = quiet-then (quiet-twice (answered _ settled.accounted) (answered-if c.in-Ok.ensures.accounted)) c.show_into.ensures.accounted; few = search rules; cost = on_ok_weaker c.show_into.result (λ _. omega arith) c.show_into.ensures.set }

pub returns-in-Err-clause-costs : goal.returns-in-Err-clause-costs
returns-in-Err-clause-costs g c =
    let settled = c.in_ok-block.ensures in
    let settling = settled.cost in
    let settling_grows = settled.preserves.grows.placed in
    let got = c.in-Err.ensures in
    let reading_grows = got.grows.placed in
    record { tells = quiet-then (answered _ settled.accounted) (failed_tells Parts c.in-Err.fault c.refusal.result c.refusal.ensures got.accounted); few = search rules; cost = failed_ok Parts c.in-Err.fault c.refusal.result c.refusal.ensures (λ sure. let reading = got.costs.cost sure in omega arith) }

-- What moves

pub returns-in-Ok-clause-moves : goal.returns-in-Ok-clause-moves
returns-in-Ok-clause-moves g c = moves_read (moves-then c.in_ok-block.ensures.moves c.field.ensures.stays_ground.moves) c.show_into.ensures.unchanged refl

pub returns-in-Err-clause-moves : goal.returns-in-Err-clause-moves
returns-in-Err-clause-moves g c = moves-then c.in_ok-block.ensures.moves c.field.ensures.stays_ground.moves

pub returns-in_err-block-clause-moves : goal.returns-in_err-block-clause-moves
returns-in_err-block-clause-moves g c = moves-more (omega arith) c.in_err-block.ensures.moves
