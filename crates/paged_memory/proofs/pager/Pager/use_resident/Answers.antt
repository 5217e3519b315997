use Rattle.std.proofs.Common.{sym, ◌∙◌}
use Rattle.paged_memory.specs.Moves.{paging_of}
use Rattle.paged_memory.proofs.Places.{framed_inside}
use Rattle.paged_memory.proofs.FrameChanges.{resident_place}
use Rattle.paged_memory.proofs.pager.Pager.use_resident.Goals as goal

pub place_of-requires : goal.place_of-requires
place_of-requires c =
    let at = resident_place (paging_of c.args.self.now) c.requires.paged.0 c.args.page c.requires.paged.1 c.requires.held in
    framed_inside c.args.self.now.places c.args.page at.0 at.1

pub unreachable-requires : goal.unreachable-requires
unreachable-requires c =
    let at = resident_place (paging_of c.args.self.now) c.requires.paged.0 c.args.page c.requires.paged.1 c.requires.held in
    c.in_default.not-InFrame at.0 (c.place_of.ensures.place ∙ at.1)

pub touch-requires : goal.touch-requires
touch-requires c = (c.requires.paged.1.framed c.args.page c.in-InFrame.frame (sym c.in-InFrame.ensures.place)).0
