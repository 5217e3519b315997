use Rattle.std.proofs.Common.{ap, sym, ◌∙◌}
use Rattle.page_map.specs.Map.{place_at}
use Rattle.paged_memory.specs.Moves.{paging_of}
use Rattle.paged_memory.proofs.FrameChanges.{touch_uses}
use Rattle.paged_memory.proofs.pager.Pager.use_page.Goals as goal

pub returns-in-Some-clause-uses : goal.returns-in-Some-clause-uses
returns-in-Some-clause-uses g c =
    let taken = c.requires.paged.taken c.in-Some.frame c.in-Some.ensures.used in
    touch_uses (paging_of c.args.self.now) _ c.args.self.now.pool c.in-Some.frame c.args.page c.requires.paged (ap (place_at c.args.self.now.places) (sym c.in-Some.ensures.page) ∙ taken.1) (sym c.in-Some.ensures.unchanged)
