use Rattle.std.proofs.Common.{◌≡◌, ◌-◌, ◌++◌, length, replicate, take, drop, sym, ◌∙◌, ap, arith}
use Rattle.std.proofs.lemmas.List.{take_at}
use Rattle.band_disk.specs.Disks.{overwritten}
use Rattle.band_disk.proofs.OverwrittenBytes.{spoiled_parts}
use Rattle.band_disk.proofs.overwrite.spoil.Goals as goal

-- what was filled, followed by the rest
pub returns-clause-items : goal.returns-clause-items
returns-clause-items c =
    let bytes = c.args.bytes.now in
    let long : length c.fill.new.bytes ≡ bytes.len = omega (arith, c.deref_mut.ensures.len, c.fill.auto.bytes) in
    let all : take bytes.len (c.fill.new.bytes ++ drop (length c.fill.new.bytes) bytes.items) ≡ c.fill.new.bytes = take_at c.fill.new.bytes (drop (length c.fill.new.bytes) bytes.items) bytes.len long in
    let same : c.fill.new.bytes ≡ overwritten c.args.at (replicate c.min-within.result c.args.byte) bytes.items = c.fill.ensures ∙ ap (overwritten c.args.at (replicate c.min-within.result c.args.byte)) c.deref_mut.ensures.value in
    let had : length bytes.items ≡ bytes.len = omega (arith, ap length c.deref_mut.ensures.value, c.deref_mut.ensures.len) in
    rw c.unwrap.ensures at c.resize.ensures.items
    ∙ ap (λ l. take c.max-end.result l ++ replicate (c.max-end.result - bytes.len) c.args.byte) all
    ∙ ap (λ n. take c.max-end.result c.fill.new.bytes ++ replicate (c.max-end.result - n) c.args.byte) (sym long)
    ∙ spoiled_parts c.args.at c.args.len c.min-within.result c.max-end.result c.args.byte bytes.items c.fill.new.bytes (omega arith) (omega arith) (omega arith) same (omega arith)
