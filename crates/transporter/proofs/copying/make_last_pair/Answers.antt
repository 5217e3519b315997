use Rattle.std.proofs.Common.{ap, refl, sym, ◌∙◌}
use Rattle.store_word.specs.Words.{Parts}
use Rattle.store_word.specs.declared.word.CdrCode.TheVariants.{Normal}
use Rattle.obj_layout.specs.Forwards.{word_at}
use Rattle.obj_layout.proofs.ForwardChains.{word_at-read}
use Rattle.transporter.proofs.WriteSequences.{writes-pair}
use Rattle.transporter.proofs.copying.make_last_pair.Goals as goal

pub returns-clause-pair : goal.returns-clause-pair
returns-clause-pair g c =
    let words = (g.M.Memory.seen c.args.mem.now).words in
    let read = c.in_ok-car.ensures in
    let car = word_at-read words words c.args.from c.in_ok-car.car refl read.value in
    writes-pair (word_at words c.args.from) c.args.rest read.unchanged c.in_ok-write.ensures.ok c.in_ok-write-2.ensures.ok c.requires.to (c.with_cdr.ensures ∙ ap (λ (w : Parts). record { cdr = Normal; content = w.content }) (sym car)) c.list_at.ensures
