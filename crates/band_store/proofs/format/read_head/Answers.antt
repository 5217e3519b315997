use Rattle.std.proofs.Common.{arith}
use Rattle.band_store.proofs.RecordBytes.{head_read}
use Rattle.band_store.proofs.format.read_head.Goals as goal

pub returns : goal.returns
returns c =
    head_read c.args.bytes.now c.split_at.result.0.now c.split_at.result.1.now c.in_ok-name.name c.read_u32-size.result (omega arith)
    c.split_at.ensures.front c.split_at.ensures.back c.if-rest-len.false c.in_ok-name.ensures c.read_u32-size.ensures (omega arith) (λ i. omega (arith, c.type_inv.bytes i))
