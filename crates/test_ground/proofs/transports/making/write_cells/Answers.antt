use Rattle.std.proofs.Common.{arith}
use Rattle.transporter.proofs.WriteSequences.{writes-more}
use Rattle.test_ground.proofs.transports.making.write_cells.Goals as goal

pub loop-i-preserved : goal.loop-i-preserved
loop-i-preserved g c =
    let i = c.loop-i.invariant.written in
    let size = i.size in
    let inside = c.requires.in_range in
    let below = c.loop-i-test.true in
    record { written = writes-more i c.in_ok-write.ensures.ok (omega arith) c.cell.ensures; sound = c.in_ok-write.ensures.sound }
