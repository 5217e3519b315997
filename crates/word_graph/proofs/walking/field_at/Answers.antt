use Rattle.std.proofs.Common.{◌≡◌, ◌∙◌}
use Rattle.std.proofs.lemmas.Result.{IfOk-weaker}
use Rattle.lisp_graph.specs.declared.walk.Seen.{Seen}
use Rattle.word_graph.specs.Shown.{told, field_in}
use Rattle.word_graph.proofs.ShownObjects.{object_part, part_can, part_told}
use Rattle.word_graph.proofs.walking.field_at.Goals as goal

pub part_at-requires-clause-whole : goal.part_at-requires-clause-whole
part_at-requires-clause-whole g c = object_part (g.M.Memory.seen c.args.ground.now.mem) c.args.ground.now.table c.args.key c.requires.object c.args.index c.requires.in_range

pub value_of_word-requires : goal.value_of_word-requires
value_of_word-requires g c =
    part_can (g.M.Memory.seen c.args.ground.now.mem) c.args.ground.now.table c.args.key c.requires.object (g.M.Memory.seen c.part_at.new.mem) c.args.index c.in_ok-word.word.content
    c.requires.in_range c.in_ok-word.ensures.unchanged c.in_ok-word.ensures.value

pub returns-clause-value : goal.returns-clause-value
returns-clause-value g c =
    let m = g.M.Memory.seen c.args.ground.now.mem in
    let same = part_told m c.args.ground.now.table c.args.key c.requires.object (g.M.Memory.seen c.part_at.new.mem) c.args.index c.in_ok-word.word.content
    c.requires.in_range c.in_ok-word.ensures.unchanged c.in_ok-word.ensures.value in
    IfOk-weaker c.value_of_word.result (λ (seen : Seen). seen ≡ told (g.M.Memory.seen c.part_at.new.mem) c.args.ground.now.table c.in_ok-word.word.content)
    (λ (seen : Seen). seen ≡ field_in m c.args.ground.now.table c.args.key c.args.index) (λ seen is. is ∙ same) c.value_of_word.ensures.value
