use Rattle.std.proofs.Common.{◌+◌, ◌-◌, subst}
use Rattle.store_word.specs.Words.{Parts}
use Rattle.mem_port.specs.Store.{Stores}
use Rattle.transporter.specs.Writes.{Writes}
use Rattle.block_store.proofs.WriteSequences.{writes-wide}
use Rattle.block_store.proofs.widening.write_wide.Goals as goal

pub returns-clause-written : goal.returns-clause-written
returns-clause-written g c =
    let first = subst (λ (w : Parts). Stores (g.M.Memory.seen c.args.mem.now) (g.M.Memory.seen c.write.new.self) c.args.to w) c.header.ensures c.in_ok-write.ensures.ok in
    let rest = subst (λ (w : Parts). Writes (g.M.Memory.seen c.copy_words.new.mem) (g.M.Memory.seen c.fill.new.mem) (c.args.to + 1 + c.args.head.length) (c.args.wide - c.args.head.length) (λ i. w)) c.nil.ensures c.fill.ensures.written in
    writes-wide _ _ _ _ c.args.head.at c.args.head.code c.args.head.length c.args.wide c.args.to c.requires.can.more c.requires.can.to_inside c.requires.can.apart first c.in_ok-copy_words.ensures.written rest
