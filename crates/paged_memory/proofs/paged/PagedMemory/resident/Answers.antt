use Rattle.std.proofs.Common.{refl, sym, ◌∙◌}
use Rattle.paged_memory.specs.Moves.{paging_of}
use Rattle.paged_memory.proofs.FrameChanges.{resident_place, resident_framed}
use Rattle.paged_memory.proofs.paged.PagedMemory.resident.Goals as goal

pub returns-in-InFrame : goal.returns-in-InFrame
returns-in-InFrame g c =
    rw (← c.self.view_is) ((λ _. resident_framed (paging_of c.self.inside.pager) _ c.args.page _ c.self.invariant.0 (sym c.in-InFrame.ensures.place)), (λ _. refl))

pub returns-in_default : goal.returns-in_default
returns-in_default g c =
    rw (← c.self.view_is) ((λ e. absurd (cc)), (λ m. let at = resident_place (paging_of c.self.inside.pager) _ c.args.page c.self.invariant.0 m in absurd (c.in_default.not-InFrame at.0 (c.place_of.ensures.place ∙ at.1))))
