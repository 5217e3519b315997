use Rattle.std.proofs.Common.{◌≡◌, suc, ◌+◌, Err, ap, arith}
use Rattle.lisp_graph.specs.declared.reply.Reply.TheVariants as R
use Rattle.lisp_graph.specs.Effect.{grown_length}
use Rattle.heap_state.proofs.CommandEffects.{Leaves}
use Rattle.heap_commands.specs.declared.blocks.growing.Growing.TheVariants.{Answered, Wants}
use Rattle.heap_commands.proofs.NoAllocation.{leaves_still}
use Rattle.mem_port.proofs.CallReports.{answered}
use Rattle.block_store.specs.declared.header.BlockSize.{BlockSize}
use Rattle.heap_commands.proofs.Refusals.{failed_tells, quiet-then, unwrapped}
use Rattle.heap_commands.proofs.BlockGrowth.{fault_answered, finds_after, found_failed, found_wants, found_wide}
use Rattle.heap_commands.proofs.RegisterReferences.{register_meaning}
use Rattle.heap_commands.proofs.SettledRegisters.{SettlesOne, settles_one}
use Rattle.heap_commands.proofs.blocks.growing.find_growing.Given.{Over}
use Rattle.heap_commands.proofs.blocks.growing.find_growing.Goals.{After-block_size}
use Rattle.heap_commands.proofs.blocks.growing.find_growing.Goals as goal

-- the register is settled
one : (g : Over) (c : After-block_size g) → SettlesOne (g.M.Memory.seen c.args.ground.now.mem) (g.M.Memory.seen c.settle_register.new.ground.mem) c.args.ground.now.table c.settle_register.new.ground.table c.args.registers.now c.settle_register.new.registers c.args.target c.in-Ok.word
one g c =
    let x = c.in-Ok.ensures in
    settles_one _ _ _ _ _ _ c.requires.consistent x.represented x.preserves x.registers x.stays_fresh x.marks c.args.target c.in-Ok.word c.requires.target x.word x.fresh

-- and its block is measured
left : (g : Over) (c : After-block_size g) → Leaves (g.M.Memory.seen c.args.ground.now.mem) c.args.ground.now.table c.args.registers.now (g.M.Memory.seen c.block_size.new.ground.mem) c.block_size.new.ground.table c.settle_register.new.registers
left g c = leaves_still _ _ _ _ _ _ _ _ (one g c).leaves c.block_size.ensures.costs.stays c.block_size.ensures.costs.table

pub block_size-requires-clause-represented : goal.block_size-requires-clause-represented
block_size-requires-clause-represented g c =
    let x = c.in-Ok.ensures in
    let s = settles_one _ _ _ _ _ _ c.requires.consistent x.represented x.preserves x.registers x.stays_fresh x.marks c.args.target c.in-Ok.word c.requires.target x.word x.fresh in
    register_meaning _ _ c.settle_register.new.registers c.args.target c.in-Ok.word s.read s.consistent (s.inside _ c.requires.target)

pub returns-in_default-clause-finds : goal.returns-in_default-clause-finds
returns-in_default-clause-finds g c =
    let one = c.settle_register.ensures in
    fault_answered _ _ _ _ _ _ c.args.target c.args.wanted (record { represented = one.represented; preserves = one.preserves; others = one.registers; stays_fresh = one.stays_fresh; marks = one.marks })

pub returns-in-Ok-block_size-clause-finds : goal.returns-in-Ok-block_size-clause-finds
returns-in-Ok-block_size-clause-finds g c =
    let s = one g (goal.at.returns-in-Ok-block_size-clause-finds g c).After-block_size in
    let told = c.in-Ok-block_size.ensures in
    let charge : c.grown_length.result + 1 ≡ suc (grown_length c.in-Ok-block_size.block.length c.args.wanted) = (let e = c.grown_length.ensures in omega arith) in
    finds_after _ _ _ _ _ _ _ _ _ c.args.target c.args.wanted (Wants c.in-Ok-block_size.block.area (c.grown_length.result + 1)) s.leaves
    (found_wants _ _ _ _ c.settle_register.new.registers c.args.target c.args.wanted c.in-Ok.word s.read (s.inside _ c.requires.target) told.costs.stays told.costs.table (λ ne. let e = told.costs.not_a_block.1 ne in cc) c.in-Ok-block_size.block.length told.size s.settled
    c.in-Ok-block_size.block.area _ told.area told.in_range c.if-block-wanted.true charge)

pub returns-in-Ok-2-clause-finds : goal.returns-in-Ok-2-clause-finds
returns-in-Ok-2-clause-finds g c =
    let s = one g (goal.at.returns-in-Ok-2-clause-finds g c).After-block_size in
    let told = c.in-Ok-block_size.ensures in
    finds_after _ _ _ _ _ _ _ _ _ c.args.target c.args.wanted (Answered R.Fine) s.leaves
    (found_wide _ _ _ _ c.settle_register.new.registers c.args.target c.args.wanted c.in-Ok.word s.read (s.inside _ c.requires.target) told.costs.stays told.costs.table (λ ne. let e = told.costs.not_a_block.1 ne in cc) c.in-Ok-block_size.block.length told.size s.settled c.if-block-wanted.false)

pub returns-in-Err-clause-finds : goal.returns-in-Err-clause-finds
returns-in-Err-clause-finds g c =
    let s = one g (goal.at.returns-in-Err-clause-finds g c).After-block_size in
    let told = c.in-Err.ensures.costs in
    rw (c.unwrap_or.ensures, unwrapped c.refusal.result, c.refusal.ensures) (finds_after _ _ _ _ _ _ _ _ _ c.args.target c.args.wanted (Answered _) s.leaves
    (found_failed _ _ _ _ c.settle_register.new.registers c.args.target c.args.wanted c.in-Ok.word s.read (s.inside _ c.requires.target) told.stays told.table c.in-Err.fault (λ is. told.not_a_block.0 (ap Err is)) (λ count is. told.every_field count (ap Err is))))

pub returns-in-Ok-block_size-clause-represented : goal.returns-in-Ok-block_size-clause-represented
returns-in-Ok-block_size-clause-represented g c = (left g (goal.at.returns-in-Ok-block_size-clause-represented g c).After-block_size).represented

pub returns-in-Ok-block_size-clause-preserves : goal.returns-in-Ok-block_size-clause-preserves
returns-in-Ok-block_size-clause-preserves g c = (left g (goal.at.returns-in-Ok-block_size-clause-preserves g c).After-block_size).preserves

pub returns-in-Ok-block_size-clause-stays_fresh : goal.returns-in-Ok-block_size-clause-stays_fresh
returns-in-Ok-block_size-clause-stays_fresh g c = (left g (goal.at.returns-in-Ok-block_size-clause-stays_fresh g c).After-block_size).stays_fresh

pub returns-in-Ok-block_size-clause-marks : goal.returns-in-Ok-block_size-clause-marks
returns-in-Ok-block_size-clause-marks g c = (left g (goal.at.returns-in-Ok-block_size-clause-marks g c).After-block_size).marks

pub returns-in-Ok-2-clause-represented : goal.returns-in-Ok-2-clause-represented
returns-in-Ok-2-clause-represented g c = (left g (goal.at.returns-in-Ok-2-clause-represented g c).After-block_size).represented

pub returns-in-Ok-2-clause-preserves : goal.returns-in-Ok-2-clause-preserves
returns-in-Ok-2-clause-preserves g c = (left g (goal.at.returns-in-Ok-2-clause-preserves g c).After-block_size).preserves

pub returns-in-Ok-2-clause-stays_fresh : goal.returns-in-Ok-2-clause-stays_fresh
returns-in-Ok-2-clause-stays_fresh g c = (left g (goal.at.returns-in-Ok-2-clause-stays_fresh g c).After-block_size).stays_fresh

pub returns-in-Ok-2-clause-marks : goal.returns-in-Ok-2-clause-marks
returns-in-Ok-2-clause-marks g c = (left g (goal.at.returns-in-Ok-2-clause-marks g c).After-block_size).marks

pub returns-in-Err-clause-represented : goal.returns-in-Err-clause-represented
returns-in-Err-clause-represented g c = (left g (goal.at.returns-in-Err-clause-represented g c).After-block_size).represented

pub returns-in-Err-clause-preserves : goal.returns-in-Err-clause-preserves
returns-in-Err-clause-preserves g c = (left g (goal.at.returns-in-Err-clause-preserves g c).After-block_size).preserves

pub returns-in-Err-clause-stays_fresh : goal.returns-in-Err-clause-stays_fresh
returns-in-Err-clause-stays_fresh g c = (left g (goal.at.returns-in-Err-clause-stays_fresh g c).After-block_size).stays_fresh

pub returns-in-Err-clause-marks : goal.returns-in-Err-clause-marks
returns-in-Err-clause-marks g c = (left g (goal.at.returns-in-Err-clause-marks g c).After-block_size).marks

pub returns-in-Err-clause-accounted : goal.returns-in-Err-clause-accounted
returns-in-Err-clause-accounted g c =
    rw (c.unwrap_or.ensures, unwrapped c.refusal.result)
    (quiet-then (answered _ c.in-Ok.ensures.accounted) (failed_tells BlockSize c.in-Err.fault c.refusal.result c.refusal.ensures c.in-Err.ensures.costs.tells))
