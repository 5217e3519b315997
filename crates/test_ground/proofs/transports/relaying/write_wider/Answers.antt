use Rattle.std.proofs.Common.{◌≡◌, ◌+◌, suc, ◌∙◌, ap, subst, arith}
use Rattle.mem_port.specs.Store.{Stores}
use Rattle.transporter.proofs.WriteSequences.{writes-more, writes-then_read}
use Rattle.test_ground.specs.Written.{wider_of}
use Rattle.test_ground.proofs.Relocations.{field-same}
use Rattle.test_ground.proofs.transports.relaying.write_wider.Goals as goal

pub loop-i-preserved : goal.loop-i-preserved
loop-i-preserved g c =
    let i = c.loop-i.invariant.written in
    let low = c.loop-i-test.true in
    let read = c.in_ok-word.ensures in
    let before = writes-then_read i read.unchanged in
    let size = before.size in
    let room = c.requires.to in
    let place : c.args.to + 1 + c.loop-i.i ≡ c.args.to + (c.loop-i.i + 1) = omega arith in
    let stored = subst (λ a. Stores (g.M.Memory.seen c.field.new.mem) (g.M.Memory.seen c.write-in-loop-i.new.self) a c.in_ok-word.word) place c.in_ok-write-2.ensures.ok in
    let next : suc c.loop-i.i ≡ c.loop-i.i + 1 = omega arith in
    record {
      written = writes-more before stored (omega arith) (read.value ∙ (field-same c.args.at c.args.fields i c.requires.apart low ∙ ap (wider_of (g.M.Memory.seen c.args.mem.now).words c.args.at c.args.code c.args.fields) next));
      sound = c.in_ok-write-2.ensures.sound;
    }
