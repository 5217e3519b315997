use Rattle.world_text.proofs.writing_laws.Walks.{is_block}
use Rattle.world_text.proofs.writing.dumped.dumped_block.Goals as goal

pub returns-clause-value : goal.returns-clause-value
returns-clause-value g c =
    is_block (g.W.Walk.graph c.form_of.new.self) (g.W.Walk.graph c.args.walk.now) c.args.key c.in_ok-form.form c.args.visits.now c.dumped_fields.new.visits c.in_ok-fields.fields
    c.form_of.ensures.unchanged c.requires.pair c.in_ok-form.ensures.value c.in_ok-fields.ensures.value
