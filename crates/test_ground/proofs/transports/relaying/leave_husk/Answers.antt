use Rattle.std.proofs.Common.{◌≡◌, ◌+◌, suc, ◌∙◌, ap, subst, arith}
use Rattle.mem_port.specs.Store.{Stores}
use Rattle.transporter.proofs.WriteSequences.{writes-more, writes-none}
use Rattle.test_ground.specs.Written.{husk_of}
use Rattle.test_ground.proofs.transports.relaying.leave_husk.Goals as goal

pub loop-i-init : goal.loop-i-init
loop-i-init g c =
    let none = writes-none (g.M.Memory.seen c.args.mem.now) c.args.at (husk_of c.args.to) in
    let here : c.args.at ≡ c.args.at + 0 = omega arith in
    let stored = subst (λ a. Stores (g.M.Memory.seen c.args.mem.now) (g.M.Memory.seen c.write.new.self) a c.header_forward.result) here c.in_ok-write.ensures.ok in
    let inside = c.requires.in_range in
    record { written = writes-more none stored (omega arith) c.header_forward.ensures; sound = c.in_ok-write.ensures.sound }

pub loop-i-preserved : goal.loop-i-preserved
loop-i-preserved g c =
    let before = c.loop-i.invariant.written in
    let size = before.size in
    let inside = c.requires.in_range in
    let low = c.loop-i-test.true in
    let place : c.args.at + 1 + c.loop-i.i ≡ c.args.at + (c.loop-i.i + 1) = omega arith in
    let stored = subst (λ a. Stores (g.M.Memory.seen c.loop-i.mem) (g.M.Memory.seen c.write-in-loop-i.new.self) a c.null.result) place c.in_ok-write-2.ensures.ok in
    let next : suc c.loop-i.i ≡ c.loop-i.i + 1 = omega arith in
    record { written = writes-more before stored (omega arith) (c.null.ensures ∙ ap (husk_of c.args.to) next); sound = c.in_ok-write-2.ensures.sound }
