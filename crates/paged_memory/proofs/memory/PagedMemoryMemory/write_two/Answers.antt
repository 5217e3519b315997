use Rattle.std.proofs.Common.{true, false, ◌≡◌, ◌∙◌, ◌+◌, ◌/◌, ◌||◌, nat_lt, length, sym, ap, arith}
use Rattle.std.proofs.lemmas.List.{with_items_is}
use Rattle.mem_port.specs.Store.{level_of_word}
use Rattle.frame_pool.specs.Pool.{Pool, frames_of}
use Rattle.paged_memory.specs.Order.{Uses}
use Rattle.paged_memory.specs.Moves.{paging_of}
use Rattle.paged_memory.proofs.RecentPages.{used_kept}
use Rattle.paged_memory.proofs.Residents.{uses_room}
use Rattle.paged_memory.proofs.FrameChanges.{with_pool}
use Rattle.paged_memory.proofs.FrameAccess.{PutsTwo, frame_in, puts_two, stores_two, two_paged, two_uses, paged_sound}
use Rattle.paged_memory.proofs.Words.{inside_of, page_inside}
use Rattle.paged_memory.proofs.memory.PagedMemoryMemory.write_two.Given.{Over}
use Rattle.paged_memory.proofs.memory.PagedMemoryMemory.write_two.Goals.{After-store_two}
use Rattle.paged_memory.proofs.memory.PagedMemoryMemory.write_two.Goals as goal

-- what was stored
written : (g : Over) (c : After-store_two g) → PutsTwo (paging_of c.use_page.new.self) (g.D.Swap.stored c.use_page.new.swap) c.store_two.ensures.written.between c.store_two.new.pool c.in_ok-frame.frame c.args.at c.args.first c.args.second
written g c =
    let low = inside_of (paging_of c.self.inside.pager) (g.D.Swap.stored c.self.inside.swap) (c.args.at + 1) (rw (← c.self.view_is) at c.requires.in_range) in
    let size = c.in_ok-frame.ensures.stays_held.size in
    puts_two (paging_of c.use_page.new.self) (g.D.Swap.stored c.use_page.new.swap) c.store_two.new.pool c.in_ok-frame.frame c.args.at c.args.first c.args.second
    c.in_ok-frame.ensures.placed c.requires.page (omega (arith, low, size)) c.store_two.ensures.sound c.store_two.ensures.written

pub use_page-requires-clause-in_range : goal.use_page-requires-clause-in_range
use_page-requires-clause-in_range g c = page_inside (paging_of c.self.inside.pager) (g.D.Swap.stored c.self.inside.swap) c.args.at (let low = rw (← c.self.view_is) at c.requires.in_range in omega (arith, low))

pub returns-in_err-frame-clause-succeeds : goal.returns-in_err-frame-clause-succeeds
returns-in_err-frame-clause-succeeds g c = rw (← c.self.view_is) (λ m. let bad : false ≡ true = c.in_err-frame.ensures.succeeds m in absurd (cc))

pub store_two-requires-clause-frame : goal.store_two-requires-clause-frame
store_two-requires-clause-frame g c = frame_in _ _ (c.args.at / 256) c.in_ok-frame.frame c.in_ok-frame.ensures.stays_held.paged c.in_ok-frame.ensures.placed

pub invariant_of-self-2 : goal.invariant_of-self-2
invariant_of-self-2 g c =
    let at = (goal.at.invariant_of-self-2 g c).After-store_two in
    let k = c.in_ok-frame.ensures.stays_held in
    let puts = written g at in
    let same : length c.use_page.new.buffer ≡ c.self.inside.buffer.len = omega arith in
    let full : length c.use_page.new.buffer ≡ 256 = omega (arith, c.self.invariant.2, c.self.inside.buffer.ok.0) in
    let frames : c.self.inside.frames ≡ frames_of c.store_two.new.pool = c.self.invariant.1 ∙ sym (ap (λ (v : Pool). length v.pages) puts.back.stores ∙ ap (λ (v : Pool). length v.pages) puts.front.stores ∙ k.frames) in
    (two_paged (paging_of c.use_page.new.self) _ c.store_two.ensures.written.between c.store_two.new.pool c.in_ok-frame.frame c.args.at c.args.first c.args.second k.paged puts, frames, rw (with_items_is c.self.inside.buffer c.use_page.new.buffer same) full)

pub returns-clause-ok : goal.returns-clause-ok
returns-clause-ok g c =
    let at = (goal.at.returns-clause-ok g c).After-store_two in
    let k = c.in_ok-frame.ensures.stays_held in
    rw (← c.self.view_is) (stores_two (paging_of c.self.inside.pager) (paging_of c.use_page.new.self) _ _ c.store_two.ensures.written.between c.store_two.new.pool c.in_ok-frame.frame c.args.at c.args.first c.args.second k.stays k.paged (written g at))

used : (g : Over) (c : After-store_two g) → Uses (paging_of c.self.inside.pager) (with_pool (paging_of c.use_page.new.self) c.store_two.new.pool) (c.args.at / 256) (nat_lt 0 (level_of_word c.self.inside.pager.levels c.args.first) || nat_lt 0 (level_of_word c.self.inside.pager.levels c.args.second))
used g c =
    let k = c.in_ok-frame.ensures.stays_held in
    two_uses (paging_of c.self.inside.pager) (paging_of c.use_page.new.self) _ c.store_two.ensures.written.between c.store_two.new.pool c.in_ok-frame.frame c.args.at c.args.first c.args.second c.requires.page k.paged k.stays.levels k.stays.top (written g c) c.in_ok-frame.ensures.uses

pub returns-clause-uses : goal.returns-clause-uses
returns-clause-uses g c = rw (← c.self.view_is) (used g (goal.at.returns-clause-uses g c).After-store_two)

pub returns-clause-stays_held : goal.returns-clause-stays_held
returns-clause-stays_held g c = rw (← c.self.view_is) (used_kept _ _ _ _ (used g (goal.at.returns-clause-stays_held g c).After-store_two).order)

pub returns-clause-room : goal.returns-clause-room
returns-clause-room g c =
    record { answered = rw (← c.self.view_is) (uses_room (paging_of c.self.inside.pager) _ _ _ _ c.self.invariant.0 (used g (goal.at.returns-clause-room g c).After-store_two)); failed = tt }

pub returns-in_err-frame-clause-sound : goal.returns-in_err-frame-clause-sound
returns-in_err-frame-clause-sound g c = paged_sound _ _ c.in_err-frame.ensures.stays_held.paged

pub returns-clause-sound : goal.returns-clause-sound
returns-clause-sound g c =
    let at = (goal.at.returns-clause-sound g c).After-store_two in
    paged_sound _ _ (two_paged (paging_of c.use_page.new.self) _ c.store_two.ensures.written.between c.store_two.new.pool c.in_ok-frame.frame c.args.at c.args.first c.args.second c.in_ok-frame.ensures.stays_held.paged (written g at))
