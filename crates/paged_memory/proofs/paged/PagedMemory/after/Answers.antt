use Rattle.std.proofs.Common.{sym, ◌∙◌}
use Rattle.paged_memory.specs.Moves.{paging_of}
use Rattle.paged_memory.proofs.NextPages.{next_resident, resident_inside}
use Rattle.paged_memory.proofs.FrameChanges.{resident_place}
use Rattle.paged_memory.proofs.paged.PagedMemory.after.Goals as goal

pub place_of-requires : goal.place_of-requires
place_of-requires g c = resident_inside (paging_of c.self.inside.pager) _ c.args.page c.self.invariant.0 (rw (← c.self.view_is) at c.requires)

pub returns-in-InFrame : goal.returns-in-InFrame
returns-in-InFrame g c =
    rw (← c.self.view_is) ((rw (← c.self.view_is) at c.page_after.ensures) ∙ next_resident (paging_of c.self.inside.pager) _ c.args.page _ c.self.invariant.0 (sym c.in-InFrame.ensures.place))

pub returns-in_default : goal.returns-in_default
returns-in_default g c =
    let at = resident_place (paging_of c.self.inside.pager) _ c.args.page c.self.invariant.0 (rw (← c.self.view_is) at c.requires) in
    absurd (c.in_default.not-InFrame at.0 (c.place_of.ensures.place ∙ at.1))
