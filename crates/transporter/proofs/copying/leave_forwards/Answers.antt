use Rattle.std.proofs.Common.{◌+◌, ◌/◌, ◌∙◌, arith}
use Rattle.transporter.proofs.WriteSequences.{writes-more}
use Rattle.transporter.proofs.copying.leave_forwards.Goals as goal

pub loop-i-preserved : goal.loop-i-preserved
loop-i-preserved g c =
    let i = c.loop-i.invariant in
    let stored = c.in_ok-write.ensures in
    let below = c.loop-i-test.true in
    let size = i.forwards.size in
    let inside = c.requires.in_range in
    let page : g.M.Memory.held c.args.mem.now ((c.args.at + c.loop-i.i) / 256) = c.requires.held (c.args.at + c.loop-i.i) (omega arith) (omega arith) in
    record {
      forwards = writes-more i.forwards stored.ok (omega arith) c.gc_forward.ensures;
      held = λ p h. stored.stays_held (i.held _ page) p (i.held p h);
      quiet = record {
        faults = stored.cause.quiet ∙ i.quiet.faults;
        honest = (let a = i.quiet.honest in let b = stored.taken in let d = stored.cost in omega arith);
        room = (let a = i.quiet.room in let b = stored.room.answered in omega arith);
        sound = λ _. stored.sound;
      };
      cost = (let a = i.cost in let b = stored.cost in omega arith);
    }
