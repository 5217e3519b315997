use Rattle.std.proofs.Common.{◌+◌, ◌<◌, length, refl, subst, arith}
use Rattle.store_word.specs.Words.{Parts}
use Rattle.mem_port.specs.Store.{Stores}
use Rattle.transporter.specs.Writes.{Writes}
use Rattle.block_store.specs.Making.{block_word}
use Rattle.block_store.proofs.WriteSequences.{writes-behind}
use Rattle.block_store.proofs.making.write_block.Goals as goal

pub returns-clause-written : goal.returns-clause-written
returns-clause-written g c =
    let low = c.requires.in_range in
    let inside : c.args.at < length (g.M.Memory.seen c.args.mem.now).words = omega arith in
    let first = subst (λ (w : Parts). Stores (g.M.Memory.seen c.args.mem.now) (g.M.Memory.seen c.write.new.self) c.args.at w) c.header.ensures c.in_ok-write.ensures.ok in
    let rest = subst (λ (w : Parts). Writes (g.M.Memory.seen c.write.new.self) (g.M.Memory.seen c.fill.new.mem) (c.args.at + 1) c.args.length (λ i. w)) c.nil.ensures c.fill.ensures.written in
    writes-behind (block_word c.args.code c.args.length) first inside rest refl (λ i l. refl)
