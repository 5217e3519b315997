use Rattle.std.proofs.Common.{◌≡◌, ◌+◌, suc, refl, sym, ◌∙◌, ap, arith, List}
use Rattle.store_word.specs.Words.{Parts}
use Rattle.obj_layout.specs.Forwards.{word_at}
use Rattle.obj_layout.proofs.ForwardChains.{word_at-read}
use Rattle.transporter.proofs.MovableParcels.{if-ok}
use Rattle.test_ground.proofs.Relocations.{field-there}
use Rattle.test_ground.proofs.transports.relaying.field.Goals as goal

pub returns-then-i-fields-clause-value : goal.returns-then-i-fields-clause-value
returns-then-i-fields-clause-value g c =
    let words : List Parts = (g.M.Memory.seen c.args.mem.now).words in
    let place : c.args.at + suc c.args.i ≡ c.args.at + 1 + c.args.i = omega arith in
    if-ok c.read.result (λ w got. sym (field-there words c.args.at c.args.fields c.args.i c.if-i-fields.true ∙ (ap (word_at words) place ∙ word_at-read words words (c.args.at + 1 + c.args.i) w refl got))) c.read.ensures.value
