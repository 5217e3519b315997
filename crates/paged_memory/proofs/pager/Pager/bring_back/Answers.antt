use Rattle.std.proofs.Common.{eqb, not, ap, ◌∙◌}
use Rattle.paged_memory.specs.Moves.{paging_of}
use Rattle.paged_memory.proofs.Places.{swapped_inside}
use Rattle.paged_memory.proofs.PageArrivals.{brings_back, in_keeps, in_comes}
use Rattle.paged_memory.proofs.pager.Pager.bring_back.Goals as goal

pub returns-clause-preserves : goal.returns-clause-preserves
returns-clause-preserves g c =
    rw c.in_ok-read_page.ensures.unchanged (in_keeps _ _ _ c.args.frame c.args.page _ c.requires.paged
    (brings_back (paging_of c.args.self.now) _ c.read_page.new.into c.take_filled.new.self c.set_tag.new.self c.set.new.self c.forget.new.self c.args.frame c.args.page _ c.requires.paged c.requires.free c.requires.page
    (swapped_inside c.args.self.now.places c.args.page c.requires.page) c.in_ok-read_page.ensures.words c.take_filled.ensures.taken c.set_tag.ensures.set c.set_tag.ensures.sound
    (ap not (c.is_empty-tag.ensures tt ∙ ap (λ n. eqb n 0) c.levels.ensures)) c.forget.ensures.sets c.set.ensures.placed))

pub returns-clause-placed : goal.returns-clause-placed
returns-clause-placed g c =
    in_comes _ _ _ c.args.frame c.args.page _ c.requires.paged
    (brings_back (paging_of c.args.self.now) _ c.read_page.new.into c.take_filled.new.self c.set_tag.new.self c.set.new.self c.forget.new.self c.args.frame c.args.page _ c.requires.paged c.requires.free c.requires.page
    (swapped_inside c.args.self.now.places c.args.page c.requires.page) c.in_ok-read_page.ensures.words c.take_filled.ensures.taken c.set_tag.ensures.set c.set_tag.ensures.sound
    (ap not (c.is_empty-tag.ensures tt ∙ ap (λ n. eqb n 0) c.levels.ensures)) c.forget.ensures.sets c.set.ensures.placed)
