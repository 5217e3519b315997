use Rattle.std.proofs.Common.{◌/◌, ℕ, Bool, ◌||◌, nat_lt, List, length, refl, ap, arith}
use Rattle.mem_port.specs.Store.{level_of_word}
use Rattle.frame_pool.specs.Pool.{Pool, tag_of}
use Rattle.paged_memory.specs.Moves.{paging_of}
use Rattle.paged_memory.specs.Paging.{Paging}
use Rattle.paged_memory.proofs.FrameAccess.{frame_in}
use Rattle.paged_memory.proofs.SpanStores.{filled_on}
use Rattle.paged_memory.proofs.pager.Pager.fill_span.Goals as goal

pub fill_words-requires-clause-frame : goal.fill_words-requires-clause-frame
fill_words-requires-clause-frame c =
    let used = c.use_resident-frame.ensures in
    let low = frame_in (paging_of c.args.self.now) c.requires.paged.0 (c.args.at / 256) c.use_resident-frame.result c.requires.paged.1 used.frame in
    omega (arith, low, ap (λ (v : Paging). length v.pool.pages) used.after)

pub tag_word-requires-clause-frame : goal.tag_word-requires-clause-frame
tag_word-requires-clause-frame c =
    let used = c.use_resident-frame.ensures in
    let low = frame_in (paging_of c.args.self.now) c.requires.paged.0 (c.args.at / 256) c.use_resident-frame.result c.requires.paged.1 used.frame in
    omega (arith, low, ap (λ (v : Paging). length v.pool.pages) used.after, ap (λ (v : Pool). length v.pages) c.fill_words.ensures.unchanged)

pub returns : goal.returns
returns c = λ stored h.
    let used = c.use_resident-frame.ensures in
    let mid : Pool = c.fill_words.new.self in
    let now : List ℕ = c.use_resident-frame.new.self.levels in
    let was : Bool = tag_of c.fill_words.new.self c.use_resident-frame.result in
    filled_on (paging_of c.args.self.now) (paging_of c.use_resident-frame.new.self) stored mid c.tag_word.new.pool now
    c.use_resident-frame.result c.args.at c.args.count c.args.word was (was || nat_lt 0 (level_of_word now c.args.word)) h c.requires.at_least c.requires.page
    used.frame used.after used.sound c.fill_words.ensures.words c.fill_words.ensures.unchanged refl refl refl c.tag_word.ensures.marks c.tag_word.ensures.stays_sound
