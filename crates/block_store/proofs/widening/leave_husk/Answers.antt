use Rattle.std.proofs.Common.{◌+◌, ◌<◌, length, subst, arith}
use Rattle.store_word.specs.Words.{Parts}
use Rattle.mem_port.specs.Store.{Stores}
use Rattle.transporter.specs.Writes.{Writes}
use Rattle.block_store.proofs.WriteSequences.{writes-husk}
use Rattle.block_store.proofs.widening.leave_husk.Goals as goal

pub returns-clause-written : goal.returns-clause-written
returns-clause-written g c =
    let low = c.requires.in_range in
    let inside : c.args.head.at < length (g.M.Memory.seen c.args.mem.now).words = omega arith in
    let first = subst (λ (w : Parts). Stores (g.M.Memory.seen c.args.mem.now) (g.M.Memory.seen c.write.new.self) c.args.head.at w) c.header_forward.ensures c.in_ok-write.ensures.ok in
    let rest = subst (λ (w : Parts). Writes (g.M.Memory.seen c.write.new.self) (g.M.Memory.seen c.fill.new.mem) (c.args.head.at + 1) c.args.head.length (λ i. w)) c.null.ensures c.fill.ensures.written in
    writes-husk c.args.to first rest inside
