use Rattle.std.proofs.Common.{arith}
use Rattle.paged_memory.proofs.NextPages.{resident_inside}
use Rattle.paged_memory.proofs.FrameChanges.{resident_place}
use Rattle.inside_text.proofs.Rows.{tag_is}
use Rattle.inside_text.proofs.pages.tell_frame.Goals as goal

pub marked-tag-requires : goal.marked-tag-requires
marked-tag-requires g c =
    let paged = c.pages-pages.ensures.paged in
    let sound = c.pages-pages.ensures.sound in
    let low = resident_inside c.args.mem.now.0 c.args.mem.now.1.stored c.args.page paged c.requires in
    let size = sound.size in
    let regions = sound.regions in
    let same = paged.regions in
    omega (arith, low, size, regions, same)

pub returns-clause-gathers : goal.returns-clause-gathers
returns-clause-gathers g c =
    let paged = c.pages-pages.ensures.paged in
    let at = resident_place c.args.mem.now.0 c.args.mem.now.1.stored c.args.page paged c.requires in
    rw (tag_is c.args.mem.now.0 c.args.page at.0 c.marked-tag.result c.up_to.result.0 paged.deep at.1 c.up_to.ensures c.marked-tag.ensures) c.tell_resident.ensures.gathers
