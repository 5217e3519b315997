use Rattle.std.proofs.Common.{ℕ, Err, ap, arith, rules}
use Rattle.heap_state.proofs.CommandEffects.{performs_after}
use Rattle.mem_port.proofs.CallReports.{answered}
use Rattle.heap_commands.proofs.Refusals.{failed_ok, failed_tells, quiet-then}
use Rattle.heap_commands.proofs.RegisterReferences.{register_meaning}
use Rattle.heap_commands.proofs.SettledRegisters.{settles_one}
use Rattle.heap_commands.proofs.Sizes.{size_failed, size_told}
use Rattle.heap_commands.proofs.Moves.{moves_read}
use Rattle.heap_commands.proofs.blocks.reading.size.Goals as goal

pub length-requires : goal.length-requires
length-requires g c =
    let x = c.in_ok-block.ensures in
    let s = settles_one _ _ _ _ _ _ c.requires.consistent x.represented x.preserves x.registers x.stays_fresh x.marks c.args.of c.in_ok-block.block c.requires.in_range x.word x.fresh in
    register_meaning _ _ c.settle_register.new.registers c.args.of c.in_ok-block.block s.read s.consistent (s.inside _ c.requires.in_range)

pub returns-in-Ok-clause-performs : goal.returns-in-Ok-clause-performs
returns-in-Ok-clause-performs g c =
    let x = c.in_ok-block.ensures in
    let s = settles_one _ _ _ _ _ _ c.requires.consistent x.represented x.preserves x.registers x.stays_fresh x.marks c.args.of c.in_ok-block.block c.requires.in_range x.word x.fresh in
    let told = c.in-Ok.ensures in
    performs_after _ _ _ _ _ _ _ _ _ _ _ s.leaves
    (size_told _ _ _ _ c.settle_register.new.registers c.args.of c.in_ok-block.block s.read (s.inside _ c.requires.in_range) told.costs.stays told.costs.table c.in-Ok.count _ c.number.ensures (λ ne. let e = told.costs.not_a_block.1 ne in cc) told.value s.settled)

pub returns-in-Err-clause-performs : goal.returns-in-Err-clause-performs
returns-in-Err-clause-performs g c =
    let x = c.in_ok-block.ensures in
    let s = settles_one _ _ _ _ _ _ c.requires.consistent x.represented x.preserves x.registers x.stays_fresh x.marks c.args.of c.in_ok-block.block c.requires.in_range x.word x.fresh in
    let told = c.in-Err.ensures.costs in
    rw c.refusal.ensures (performs_after _ _ _ _ _ _ _ _ _ _ _ s.leaves
    (size_failed _ _ _ _ c.settle_register.new.registers c.args.of c.in_ok-block.block s.read (s.inside _ c.requires.in_range) told.stays told.table c.in-Err.fault (λ is. told.not_a_block.0 (ap Err is)) (λ count is. told.every_field count (ap Err is))))

pub returns-in-Err-clause-costs : goal.returns-in-Err-clause-costs
returns-in-Err-clause-costs g c =
    let settled = c.in_ok-block.ensures in
    let settling = settled.cost in
    let told = c.in-Err.ensures.costs in
    let reading = told.cost in
    record { tells = quiet-then (answered _ settled.accounted) (failed_tells ℕ c.in-Err.fault c.refusal.result c.refusal.ensures told.tells); few = search rules; cost = failed_ok ℕ c.in-Err.fault c.refusal.result c.refusal.ensures (λ _. omega arith) }

-- What moves

pub returns-in-Ok-clause-moves : goal.returns-in-Ok-clause-moves
returns-in-Ok-clause-moves g c = moves_read c.in_ok-block.ensures.moves c.length.ensures.costs.stays c.length.ensures.costs.table

pub returns-in-Err-clause-moves : goal.returns-in-Err-clause-moves
returns-in-Err-clause-moves g c = moves_read c.in_ok-block.ensures.moves c.length.ensures.costs.stays c.length.ensures.costs.table
