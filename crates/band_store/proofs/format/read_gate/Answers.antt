use Rattle.std.proofs.Common.{arith}
use Rattle.band_store.proofs.RecordBytes.{long_gate, no_head_gate, record_gate, shut_gate}
use Rattle.band_store.proofs.format.read_gate.Goals as goal

pub returns-then-bytes-ne1 : goal.returns-then-bytes-ne1
returns-then-bytes-ne1 c rest all = shut_gate c.args.bytes.now rest c.args.left c.requires.at_least c.requires.size all c.if-bytes-ne1.true

pub returns-in_default : goal.returns-in_default
returns-in_default c rest all = no_head_gate c.args.bytes.now rest c.args.left c.requires.at_least c.requires.size all c.if-bytes-ne1.false c.in_default.ensures

pub returns-then-len-from : goal.returns-then-len-from
returns-then-len-from c rest all =
    long_gate c.args.bytes.now rest c.args.left c.requires.at_least c.requires.size all c.if-bytes-ne1.false c.in-Some.name c.in-Some.size c.in-Some.ensures (omega (arith, c.if-len-from.true, c.len.ensures, c.from.ensures))

pub returns : goal.returns
returns c rest all =
    record_gate c.args.bytes.now rest c.args.left c.requires.at_least c.requires.size all c.if-bytes-ne1.false c.in-Some.name c.in-Some.size c.in-Some.ensures (omega (arith, c.if-len-from.false, c.len.ensures, c.from.ensures))
