use Rattle.std.proofs.Common.{◌≡◌, ◌+◌, length, ◌∙◌, ap, subst, arith}
use Rattle.std.proofs.lemmas.List.{length-set}
use Rattle.mem_port.specs.Store.{Stores}
use Rattle.transporter.proofs.WriteSequences.{writes-none, writes-more}
use Rattle.test_ground.specs.Written.{pair_of}
use Rattle.test_ground.proofs.transports.making.write_pair.Goals as goal

pub returns-clause-written : goal.returns-clause-written
returns-clause-written g c =
    let m = g.M.Memory.seen c.args.mem.now in
    let m1 = g.M.Memory.seen c.write.new.self in
    let one = c.in_ok-write.ensures.ok in
    let two = c.in_ok-write-2.ensures.ok in
    let inside = c.requires.in_range in
    let size : length m1.words ≡ length m.words = ap length one.words ∙ length-set m.words c.args.at c.with_cdr.result in
    let here = subst (λ a. Stores m m1 a c.with_cdr.result) (let e : c.args.at ≡ c.args.at + 0 = omega arith in e) one in
    let once = writes-more (writes-none m c.args.at (pair_of c.args.code c.args.car c.args.cdr)) here (omega arith) c.with_cdr.ensures in
    writes-more once two (omega arith) c.with_cdr-2.ensures
