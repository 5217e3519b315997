use Rattle.std.proofs.Common.{true, false, Bool, ◌≡◌, ◌∙◌, ◌/◌, ◌*◌, ◌<◌, ◌||◌, nat_lt, length, sym, ap, arith}
use Rattle.std.proofs.lemmas.List.{with_items_is}
use Rattle.mem_port.specs.Store.{level_of_word}
use Rattle.frame_pool.specs.Pool.{Pool, frames_of, tag_of}
use Rattle.paged_memory.specs.Paging.{size_of}
use Rattle.paged_memory.specs.Moves.{paging_of}
use Rattle.paged_memory.proofs.RecentPages.{used_kept}
use Rattle.paged_memory.proofs.Residents.{uses_room}
use Rattle.paged_memory.proofs.FrameAccess.{PutsWord, frame_in, puts_word, put_paged, put_stores, put_uses, stores_after, paged_sound}
use Rattle.paged_memory.proofs.Words.{inside_of, page_inside}
use Rattle.paged_memory.proofs.memory.PagedMemoryMemory.write.Given.{Over}
use Rattle.paged_memory.proofs.memory.PagedMemoryMemory.write.Goals.{After-store_word}
use Rattle.paged_memory.proofs.memory.PagedMemoryMemory.write.Goals as goal

-- the tag, and what was stored
abbrev tag : (g : Over) → After-store_word g → Bool
tag g c = tag_of c.use_page.new.self.pool c.in_ok-frame.frame || nat_lt 0 (level_of_word c.use_page.new.self.levels c.args.word)

written : (g : Over) (c : After-store_word g) → c.args.at < 256 * size_of (paging_of c.use_page.new.self) → PutsWord (paging_of c.use_page.new.self) (g.D.Swap.stored c.use_page.new.swap) c.store_word.new.pool c.in_ok-frame.frame c.args.at c.args.word (tag g c)
written g c inside = puts_word (paging_of c.use_page.new.self) (g.D.Swap.stored c.use_page.new.swap) c.store_word.new.pool c.in_ok-frame.frame c.args.at c.args.word c.in_ok-frame.ensures.placed inside c.store_word.ensures.sound c.store_word.ensures.written

pub use_page-requires-clause-in_range : goal.use_page-requires-clause-in_range
use_page-requires-clause-in_range g c = page_inside (paging_of c.self.inside.pager) (g.D.Swap.stored c.self.inside.swap) c.args.at (rw (← c.self.view_is) at c.requires)

pub returns-in_err-frame-clause-succeeds : goal.returns-in_err-frame-clause-succeeds
returns-in_err-frame-clause-succeeds g c = rw (← c.self.view_is) (λ m. let bad : false ≡ true = c.in_err-frame.ensures.succeeds m in absurd (cc))

pub store_word-requires-clause-frame : goal.store_word-requires-clause-frame
store_word-requires-clause-frame g c = frame_in _ _ (c.args.at / 256) c.in_ok-frame.frame c.in_ok-frame.ensures.stays_held.paged c.in_ok-frame.ensures.placed

pub invariant_of-self-2 : goal.invariant_of-self-2
invariant_of-self-2 g c =
    let at = (goal.at.invariant_of-self-2 g c).After-store_word in
    let low = inside_of (paging_of c.self.inside.pager) (g.D.Swap.stored c.self.inside.swap) c.args.at (rw (← c.self.view_is) at c.requires) in
    let k = c.in_ok-frame.ensures.stays_held in
    let size = k.size in
    let puts = written g at (omega (arith, low, size)) in
    let same : length c.use_page.new.buffer ≡ c.self.inside.buffer.len = omega arith in
    let full : length c.use_page.new.buffer ≡ 256 = omega (arith, c.self.invariant.2, c.self.inside.buffer.ok.0) in
    let frames : c.self.inside.frames ≡ frames_of c.store_word.new.pool = c.self.invariant.1 ∙ sym (ap (λ (v : Pool). length v.pages) puts.stores ∙ k.frames) in
    (put_paged (paging_of c.use_page.new.self) _ c.store_word.new.pool c.in_ok-frame.frame c.args.at c.args.word (tag g at) k.paged puts, frames, rw (with_items_is c.self.inside.buffer c.use_page.new.buffer same) full)

pub returns-clause-ok : goal.returns-clause-ok
returns-clause-ok g c =
    let at = (goal.at.returns-clause-ok g c).After-store_word in
    let low = inside_of (paging_of c.self.inside.pager) (g.D.Swap.stored c.self.inside.swap) c.args.at (rw (← c.self.view_is) at c.requires) in
    let k = c.in_ok-frame.ensures.stays_held in
    let size = k.size in
    let puts = written g at (omega (arith, low, size)) in
    rw (← c.self.view_is) (stores_after _ _ _ c.args.at c.args.word k.stays (put_stores (paging_of c.use_page.new.self) _ c.store_word.new.pool c.in_ok-frame.frame c.args.at c.args.word (tag g at) k.paged puts))

pub returns-clause-uses : goal.returns-clause-uses
returns-clause-uses g c =
    let at = (goal.at.returns-clause-uses g c).After-store_word in
    let low = inside_of (paging_of c.self.inside.pager) (g.D.Swap.stored c.self.inside.swap) c.args.at (rw (← c.self.view_is) at c.requires) in
    let k = c.in_ok-frame.ensures.stays_held in
    let size = k.size in
    let puts = written g at (omega (arith, low, size)) in
    rw (← c.self.view_is) (put_uses (paging_of c.self.inside.pager) (paging_of c.use_page.new.self) _ c.store_word.new.pool c.in_ok-frame.frame c.args.at c.args.word (tag g at) false k.paged k.stays.levels k.stays.top puts c.in_ok-frame.ensures.uses)

pub returns-clause-stays_held : goal.returns-clause-stays_held
returns-clause-stays_held g c =
    let at = (goal.at.returns-clause-stays_held g c).After-store_word in
    let low = inside_of (paging_of c.self.inside.pager) (g.D.Swap.stored c.self.inside.swap) c.args.at (rw (← c.self.view_is) at c.requires) in
    let k = c.in_ok-frame.ensures.stays_held in
    let size = k.size in
    let puts = written g at (omega (arith, low, size)) in
    rw (← c.self.view_is) (used_kept _ _ _ _
    (put_uses (paging_of c.self.inside.pager) (paging_of c.use_page.new.self) _ c.store_word.new.pool c.in_ok-frame.frame c.args.at c.args.word (tag g at) false k.paged k.stays.levels k.stays.top puts c.in_ok-frame.ensures.uses).order)

pub returns-clause-room : goal.returns-clause-room
returns-clause-room g c =
    let at = (goal.at.returns-clause-room g c).After-store_word in
    let low = inside_of (paging_of c.self.inside.pager) (g.D.Swap.stored c.self.inside.swap) c.args.at (rw (← c.self.view_is) at c.requires) in
    let k = c.in_ok-frame.ensures.stays_held in
    let size = k.size in
    let puts = written g at (omega (arith, low, size)) in
    let uses = put_uses (paging_of c.self.inside.pager) (paging_of c.use_page.new.self) _ c.store_word.new.pool c.in_ok-frame.frame c.args.at c.args.word (tag g at) false k.paged k.stays.levels k.stays.top puts c.in_ok-frame.ensures.uses in
    record { answered = rw (← c.self.view_is) (uses_room (paging_of c.self.inside.pager) _ _ _ _ c.self.invariant.0 uses); failed = tt }

pub returns-in_err-frame-clause-sound : goal.returns-in_err-frame-clause-sound
returns-in_err-frame-clause-sound g c = paged_sound _ _ c.in_err-frame.ensures.stays_held.paged

pub returns-clause-sound : goal.returns-clause-sound
returns-clause-sound g c =
    let at = (goal.at.returns-clause-sound g c).After-store_word in
    let low = inside_of (paging_of c.self.inside.pager) (g.D.Swap.stored c.self.inside.swap) c.args.at (rw (← c.self.view_is) at c.requires) in
    let k = c.in_ok-frame.ensures.stays_held in
    let size = k.size in
    paged_sound _ _ (put_paged (paging_of c.use_page.new.self) _ c.store_word.new.pool c.in_ok-frame.frame c.args.at c.args.word (tag g at) k.paged (written g at (omega (arith, low, size))))
