use Rattle.std.proofs.Common.{ap, ◌+◌, arith}
use Rattle.std.proofs.lemmas.List.{get_or-set_same}
use Rattle.std.proofs.lemmas.Result.{err_from_is_err_and}
use Rattle.store_word.specs.Words.{Parts, null_word}
use Rattle.heap_state.proofs.Allocations.{placed_more}
use Rattle.heap_commands.proofs.NewMarks.{block_marked}
use Rattle.heap_commands.proofs.NewBlocks.{can_make, make_faulted, make_performs, table_there}
use Rattle.heap_commands.proofs.blocks.making.make.Goals as goal

pub make_block-requires-clause-can : goal.make_block-requires-clause-can
make_block-requires-clause-can g c = can_make _ _ c.args.registers.now c.args.object.area c.args.object.level c.args.length c.requires.consistent c.requires.area c.requires.level c.requires.fits

pub returns-clause-performs : goal.returns-clause-performs
returns-clause-performs g c =
    let new = c.in_ok-at.ensures in
    make_performs _ _ _ _ c.args.registers.now c.args.object.to c.args.object.area c.args.object.level c.args.code c.args.length new.preserves new.stays_fresh new.marks c.in_ok-at.at c.struct_at.result (ap (λ (w : Parts). w.content) c.struct_at.ensures) c.requires.to c.requires.area c.requires.level c.requires.fits new.made new.placed

pub returns-in_err-at-clause-performs : goal.returns-in_err-at-clause-performs
returns-in_err-at-clause-performs g c =
    let p = err_from_is_err_and c.from_residual.result c.from_residual.ensures.1 in
    let new = c.in_err-at.ensures in
    rw p.1 (make_faulted _ _ _ _ c.args.registers.now c.args.object.to c.args.object.area c.args.object.level c.args.code c.args.length new.preserves new.stays_fresh new.marks new.fault)

pub returns-clause-placed : goal.returns-clause-placed
returns-clause-placed g c =
    let more = placed_more c.args.ground.now.table c.make_block.new.ground.table c.args.object.area c.args.object.level c.in_ok-at.at (c.args.length + 1) (c.args.length + 1) c.in_ok-at.ensures.placed in
    omega arith

pub returns-clause-unmarked : goal.returns-clause-unmarked
returns-clause-unmarked g c =
    let new = c.in_ok-at.ensures in
    rw (get_or-set_same c.args.registers.now c.args.object.to c.struct_at.result null_word c.requires.to)
    (block_marked (g.M.Memory.seen c.args.ground.now.mem) (g.M.Memory.seen c.make_block.new.ground.mem) c.args.ground.now.table c.make_block.new.ground.table c.args.object.area c.args.object.level c.args.code c.args.length c.in_ok-at.at c.struct_at.result
    (table_there _ _ _ _ c.args.registers.now c.args.object.to c.args.object.area c.args.object.level c.args.code c.args.length new.preserves new.stays_fresh new.marks c.in_ok-at.at c.struct_at.result (ap (λ (w : Parts). w.content) c.struct_at.ensures) c.requires.to c.requires.area c.requires.level c.requires.fits new.made new.placed c.requires.consistent.map c.requires.consistent.state c.requires.consistent.represents)
    new.placed (ap (λ (w : Parts). w.content) c.struct_at.ensures) new.words new.unmarked)
