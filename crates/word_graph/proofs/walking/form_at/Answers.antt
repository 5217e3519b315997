use Rattle.std.proofs.Common.{◌≡◌, refl, sym, ◌∙◌, ap, subst, List}
use Rattle.store_word.specs.Words.{Parts}
use Rattle.obj_layout.specs.Forwards.{word_at}
use Rattle.obj_layout.specs.Shapes.{IsWhole, charge_at}
use Rattle.obj_layout.proofs.ForwardChains.{word_at-read}
use Rattle.word_graph.proofs.ShownObjects.{object_whole, object_classed, form_told}
use Rattle.word_graph.proofs.walking.form_at.Goals as goal

pub charge_behind-requires-clause-first : goal.charge_behind-requires-clause-first
charge_behind-requires-clause-first g c =
    let words = (g.M.Memory.seen c.args.ground.now.mem).words in
    let first = word_at-read words words c.args.key c.in_ok-first.first refl c.in_ok-first.ensures.value in
    sym first ∙ ap (λ (ws : List Parts). word_at ws c.args.key) (sym c.in_ok-first.ensures.unchanged.words)

pub charge_behind-requires-clause-whole : goal.charge_behind-requires-clause-whole
charge_behind-requires-clause-whole g c =
    subst (λ (words : List Parts). IsWhole words c.args.key) (sym c.in_ok-first.ensures.unchanged.words) (object_whole (g.M.Memory.seen c.args.ground.now.mem) c.args.ground.now.table c.args.key c.requires)

pub class_of_object-class-requires-clause-used : goal.class_of_object-class-requires-clause-used
class_of_object-class-requires-clause-used g c = object_classed (g.M.Memory.seen c.args.ground.now.mem) c.args.ground.now.table c.args.key c.requires

pub returns-clause-value : goal.returns-clause-value
returns-clause-value g c =
    let m = g.M.Memory.seen c.args.ground.now.mem in
    let first = word_at-read m.words m.words c.args.key c.in_ok-first.first refl c.in_ok-first.ensures.value in
    let charge : c.in_ok-charge.charge ≡ charge_at m.words c.args.key = c.in_ok-charge.ensures.value ∙ ap (λ (words : List Parts). charge_at words c.args.key) c.in_ok-first.ensures.unchanged.words in
    form_told m c.args.ground.now.table c.args.key c.requires c.class_of_object-class.result c.in_ok-first.first c.header_told-code.result.0 c.header_told-code.result.1 c.in_ok-charge.charge
    c.class_of_object-class.ensures.found c.class_of_object-class.ensures.level first c.header_told-code.ensures.first c.header_told-code.ensures.second charge
