use Rattle.std.proofs.Common.{◌/◌, length, refl, ap, arith}
use Rattle.frame_pool.specs.Pool.{Pool}
use Rattle.paged_memory.specs.Moves.{paging_of}
use Rattle.paged_memory.specs.Paging.{Paging}
use Rattle.paged_memory.proofs.FrameAccess.{frame_in}
use Rattle.paged_memory.proofs.SpanStores.{used_by, copied_on}
use Rattle.paged_memory.proofs.pager.Pager.copy_span.Goals as goal

pub use_resident-to_frame-requires-clause-paged : goal.use_resident-to_frame-requires-clause-paged
use_resident-to_frame-requires-clause-paged c =
    let used = c.use_resident-from_frame.ensures in
    let a = used_by (paging_of c.args.self.now) (paging_of c.use_resident-from_frame.new.self) c.requires.paged.0 c.use_resident-from_frame.result (c.args.from / 256) c.requires.paged.1 used.frame used.after used.sound in
    (c.requires.paged.0, a.keeps.paged)

pub use_resident-to_frame-requires-clause-held : goal.use_resident-to_frame-requires-clause-held
use_resident-to_frame-requires-clause-held c =
    let used = c.use_resident-from_frame.ensures in
    let a = used_by (paging_of c.args.self.now) (paging_of c.use_resident-from_frame.new.self) c.requires.paged.0 c.use_resident-from_frame.result (c.args.from / 256) c.requires.paged.1 used.frame used.after used.sound in
    a.kept (c.args.to / 256) c.requires.to_held

pub copy_words-requires-clause-from_held : goal.copy_words-requires-clause-from_held
copy_words-requires-clause-from_held c =
    let used = c.use_resident-from_frame.ensures in
    let next = c.use_resident-to_frame.ensures in
    let low = frame_in (paging_of c.args.self.now) c.requires.paged.0 (c.args.from / 256) c.use_resident-from_frame.result c.requires.paged.1 used.frame in
    omega (arith, low, ap (λ (v : Paging). length v.pool.pages) used.after, ap (λ (v : Paging). length v.pool.pages) next.after)

pub copy_words-requires-clause-to_held : goal.copy_words-requires-clause-to_held
copy_words-requires-clause-to_held c =
    let used = c.use_resident-from_frame.ensures in
    let next = c.use_resident-to_frame.ensures in
    let a = used_by (paging_of c.args.self.now) (paging_of c.use_resident-from_frame.new.self) c.requires.paged.0 c.use_resident-from_frame.result (c.args.from / 256) c.requires.paged.1 used.frame used.after used.sound in
    let low = frame_in (paging_of c.use_resident-from_frame.new.self) c.requires.paged.0 (c.args.to / 256) c.use_resident-to_frame.result a.keeps.paged next.frame in
    omega (arith, low, ap (λ (v : Paging). length v.pool.pages) next.after)

pub tag_span-requires-clause-frame : goal.tag_span-requires-clause-frame
tag_span-requires-clause-frame c =
    let used = c.use_resident-from_frame.ensures in
    let next = c.use_resident-to_frame.ensures in
    let a = used_by (paging_of c.args.self.now) (paging_of c.use_resident-from_frame.new.self) c.requires.paged.0 c.use_resident-from_frame.result (c.args.from / 256) c.requires.paged.1 used.frame used.after used.sound in
    let low = frame_in (paging_of c.use_resident-from_frame.new.self) c.requires.paged.0 (c.args.to / 256) c.use_resident-to_frame.result a.keeps.paged next.frame in
    omega (arith, low, ap (λ (v : Paging). length v.pool.pages) next.after, ap (λ (v : Pool). length v.pages) c.copy_words.ensures.unchanged)

pub returns : goal.returns
returns c = λ stored h.
    let used = c.use_resident-from_frame.ensures in
    let next = c.use_resident-to_frame.ensures in
    copied_on (paging_of c.args.self.now) (paging_of c.use_resident-from_frame.new.self) (paging_of c.use_resident-to_frame.new.self) (paging_of c.tag_span.new.self) stored c.copy_words.new.self c.use_resident-to_frame.new.self.levels
    c.use_resident-from_frame.result c.use_resident-to_frame.result c.args.from c.args.to c.args.count c.tag_span.ensures.marks.0 h c.requires.from_page c.requires.to_page
    used.frame used.after used.sound next.frame next.after next.sound c.copy_words.ensures.words c.copy_words.ensures.unchanged refl c.tag_span.ensures.marks.1 c.tag_span.ensures.sound c.tag_span.ensures.unchanged
