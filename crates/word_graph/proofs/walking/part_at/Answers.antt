use Rattle.std.proofs.Common.{◌≡◌, refl, sym, ◌∙◌, ap, List}
use Rattle.std.proofs.lemmas.Result.{IfOk-weaker}
use Rattle.store_word.specs.Words.{Parts}
use Rattle.obj_layout.specs.Forwards.{word_at}
use Rattle.obj_layout.proofs.ForwardChains.{word_at-read}
use Rattle.lisp_ground.specs.Leading.{cdr_in}
use Rattle.word_graph.specs.Shown.{part_in}
use Rattle.word_graph.proofs.ShownObjects.{cdr_part}
use Rattle.word_graph.proofs.walking.part_at.Goals as goal

pub returns-else-index-eq0-clause-value : goal.returns-else-index-eq0-clause-value
returns-else-index-eq0-clause-value g c =
    let words = (g.M.Memory.seen c.args.mem.now).words in
    let first = word_at-read words words c.args.at c.in_ok-first.first refl c.in_ok-first.ensures.value in
    let part = cdr_part words c.args.at c.args.index (word_at words c.args.at).content (λ code count e. c.in_default.not-Header code count (c.content.ensures.value ∙ sym (ap (λ (w : Parts). w.content) first) ∙ e)) c.if-index-eq0.false in
    IfOk-weaker c.cdr_behind.result (λ (word : Parts). word.content ≡ cdr_in (g.M.Memory.seen c.read.new.self).words c.args.at)
    (λ (word : Parts). word.content ≡ part_in words c.args.at c.args.index (word_at words c.args.at).content)
    (λ word is. is ∙ ap (λ (ws : List Parts). cdr_in ws c.args.at) c.in_ok-first.ensures.unchanged.words ∙ sym part) c.cdr_behind.ensures.value
