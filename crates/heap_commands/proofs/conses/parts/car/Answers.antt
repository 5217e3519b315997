use Rattle.std.proofs.Common.{refl, arith, rules}
use Rattle.mem_port.proofs.CallReports.{answered, answered-if, quiet-twice}
use Rattle.heap_commands.proofs.Refusals.{quiet-then}
use Rattle.std.proofs.lemmas.Result.{on_ok_weaker}
use Rattle.lisp_graph.specs.declared.reply.Reply.TheVariants as R
use Rattle.lisp_graph.specs.Effect.{fetched}
use Rattle.block_store.specs.lisp_meaning.Flip.{graph_of}
use Rattle.heap_state.proofs.FetchedValues.{fetched_shows, answer_performs}
use Rattle.heap_state.proofs.CommandEffects.{performs_after, performs_fault, performs_refused}
use Rattle.heap_commands.proofs.ConsReads.{car_fetches, kept_leaves, no_cons}
use Rattle.heap_commands.proofs.ConsRegisters.{only_one, readable}
use Rattle.heap_commands.proofs.SettledRegisters.{settles_one}
use Rattle.block_store.proofs.transporter.TransportSequences.{moves-more, moves-then}
use Rattle.heap_commands.proofs.Moves.{moves_read}
use Rattle.heap_commands.proofs.conses.parts.car.Goals as goal

pub car-requires : goal.car-requires
car-requires g c =
    let x = c.in_ok-cons.ensures in
    let s = settles_one _ _ _ _ _ _ c.requires.consistent x.represented x.preserves x.registers x.stays_fresh x.marks c.args.from c.in_ok-cons.cons c.requires.from x.word x.fresh in
    readable _ _ c.settle_register.new.registers c.args.from (s.inside _ c.requires.from) c.in_ok-cons.cons s.read s.consistent s.settled

pub show_into-requires-clause-can : goal.show_into-requires-clause-can
show_into-requires-clause-can g c =
    let x = c.in_ok-cons.ensures in
    let s = settles_one _ _ _ _ _ _ c.requires.consistent x.represented x.preserves x.registers x.stays_fresh x.marks c.args.from c.in_ok-cons.cons c.requires.from x.word x.fresh in
    let got = c.in-Ok.ensures in
    let fetches = car_fetches _ _ _ _ c.settle_register.new.registers c.args.to c.args.from c.in-Ok.word (s.inside _ c.requires.from) c.in_ok-cons.cons s.read (λ other. let e = got.refused.not_a_cons.1 other in cc) got.value.car in
    fetched_shows _ _ (g.M.Memory.seen c.car.new.ground.mem) _ _ c.settle_register.new.registers _ c.args.to c.args.from c.in-Ok.word R.Fine s.consistent (s.inside _ c.requires.to) (s.inside _ c.requires.from) s.settled (only_one c.args.from) fetches got.value.fresh got.stays_ground.preserves got.stays_ground.stays_fresh got.stays_ground.marks

pub returns-in-Ok-clause-performs : goal.returns-in-Ok-clause-performs
returns-in-Ok-clause-performs g c =
    let x = c.in_ok-cons.ensures in
    let s = settles_one _ _ _ _ _ _ c.requires.consistent x.represented x.preserves x.registers x.stays_fresh x.marks c.args.from c.in_ok-cons.cons c.requires.from x.word x.fresh in
    let got = c.in-Ok.ensures in
    let fetches = car_fetches _ _ _ _ c.settle_register.new.registers c.args.to c.args.from c.in-Ok.word (s.inside _ c.requires.from) c.in_ok-cons.cons s.read (λ other. let e = got.refused.not_a_cons.1 other in cc) got.value.car in
    let shown = c.show_into.ensures in
    performs_after _ _ _ _ _ _ _ _ _ _ _ s.leaves
    (answer_performs _ _ (g.M.Memory.seen c.show_into.new.mem) _ _ c.settle_register.new.registers _ c.args.to c.args.from c.in-Ok.word c.show_into.result s.consistent (s.inside _ c.requires.to) (s.inside _ c.requires.from) s.settled (only_one c.args.from) fetches got.value.fresh got.stays_ground.preserves got.stays_ground.stays_fresh got.stays_ground.marks c.show_into.new.registers refl
    shown.unchanged shown.shows shown.succeeds shown.set shown.err)

pub returns-in-Err-NotACons-clause-performs : goal.returns-in-Err-NotACons-clause-performs
returns-in-Err-NotACons-clause-performs g c =
    let x = c.in_ok-cons.ensures in
    let s = settles_one _ _ _ _ _ _ c.requires.consistent x.represented x.preserves x.registers x.stays_fresh x.marks c.args.from c.in_ok-cons.cons c.requires.from x.word x.fresh in
    let got = c.car.ensures in
    performs_after _ _ _ _ _ _ _ _ _ _ _ s.leaves
    (performs_refused _ _ _ _ c.settle_register.new.registers c.settle_register.new.registers _
    (no_cons _ (g.M.Memory.seen c.car.new.ground.mem) _ c.car.new.ground.table c.settle_register.new.registers c.args.from (s.inside _ c.requires.from) c.in_ok-cons.cons s.read (λ s name car cdr. fetched (graph_of s) c.args.to car) (got.refused.not_a_cons.0 (let is = c.in-Err-NotACons.is in let e = c.in-Err-NotACons.field-0-is in cc)))
    (kept_leaves _ _ _ _ c.settle_register.new.registers c.args.from (s.inside _ c.requires.from) c.in_ok-cons.cons s.read got.unchanged got.stays_ground.preserves got.stays_ground.stays_fresh got.stays_ground.marks))

pub returns-in-Err-Swap-clause-performs : goal.returns-in-Err-Swap-clause-performs
returns-in-Err-Swap-clause-performs g c =
    let x = c.in_ok-cons.ensures in
    let s = settles_one _ _ _ _ _ _ c.requires.consistent x.represented x.preserves x.registers x.stays_fresh x.marks c.args.from c.in_ok-cons.cons c.requires.from x.word x.fresh in
    let got = c.car.ensures in
    performs_after _ _ _ _ _ _ _ _ _ _ _ s.leaves
    (performs_fault _ _ _ _ c.settle_register.new.registers c.settle_register.new.registers _ refl (kept_leaves _ _ _ _ c.settle_register.new.registers c.args.from (s.inside _ c.requires.from) c.in_ok-cons.cons s.read got.unchanged got.stays_ground.preserves got.stays_ground.stays_fresh got.stays_ground.marks))

pub returns-in-Ok-clause-costs : goal.returns-in-Ok-clause-costs
returns-in-Ok-clause-costs g c =
    let settling = c.in_ok-cons.ensures.cost in
    let settling_grows = c.in_ok-cons.ensures.preserves.grows.placed in
    let reading = c.in-Ok.ensures.costs.cost refl in
    let reading_grows = c.in-Ok.ensures.stays_ground.preserves.grows.placed in
    let showing = c.show_into.ensures.cost in
    record { tells = quiet-then (quiet-twice (answered _ c.in_ok-cons.ensures.accounted) (answered-if c.in-Ok.ensures.accounted)) c.show_into.ensures.accounted; few = search rules; cost = on_ok_weaker c.show_into.result (λ _. omega arith) c.show_into.ensures.set }

-- What moves

pub returns-in-Ok-clause-moves : goal.returns-in-Ok-clause-moves
returns-in-Ok-clause-moves g c = moves_read (moves-then c.in_ok-cons.ensures.moves c.car.ensures.stays_ground.moves) c.show_into.ensures.unchanged refl

pub returns-in-Err-NotACons-clause-moves : goal.returns-in-Err-NotACons-clause-moves
returns-in-Err-NotACons-clause-moves g c = moves-then c.in_ok-cons.ensures.moves c.car.ensures.stays_ground.moves

pub returns-in-Err-Swap-clause-moves : goal.returns-in-Err-Swap-clause-moves
returns-in-Err-Swap-clause-moves g c = moves-then c.in_ok-cons.ensures.moves c.car.ensures.stays_ground.moves

pub returns-in_err-cons-clause-moves : goal.returns-in_err-cons-clause-moves
returns-in_err-cons-clause-moves g c = moves-more (omega arith) c.in_err-cons.ensures.moves
