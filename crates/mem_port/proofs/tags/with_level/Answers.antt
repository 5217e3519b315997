use Rattle.std.proofs.Common.{◌≡◌, ◌∙◌, ◌^◌, ◌-◌, ap, arith}
use Rattle.std.specs.Int.RustNames.{bit_or}
use Rattle.mem_port.proofs.TagLaws.{has_one_more}
use Rattle.mem_port.proofs.tags.with_level.Goals as goal

pub returns : goal.returns
returns c = λ l from.
    let is : c.union.result.0 ≡ bit_or c.args.set.0 (2 ^ (c.args.level - 1)) = c.union.ensures tt ∙ ap (bit_or c.args.set.0) c.one.ensures in
    rw is (has_one_more c.args.set.0 c.args.level l (omega arith) from)
