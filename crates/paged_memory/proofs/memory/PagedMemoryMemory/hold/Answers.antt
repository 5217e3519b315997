use Rattle.std.proofs.Common.{◌≡◌, ◌∙◌, ◌+◌, false, true, [], ◌∷◌, ◌++◌, length, take, get_or, refl, sym, subst, arith}
use Rattle.std.specs.Prelude.{Contains}
use Rattle.std.proofs.lemmas.List.{with_items_is, get_or_default, take_more}
use Rattle.paged_memory.specs.Paging.{resident_of}
use Rattle.paged_memory.specs.Order.{UsesEach}
use Rattle.paged_memory.specs.Moves.{paging_of}
use Rattle.paged_memory.proofs.Chains.{stops_among, uses_each_push}
use Rattle.paged_memory.proofs.RecentPages.{held_more, recent_in}
use Rattle.paged_memory.proofs.Residents.{uses_room}
use Rattle.paged_memory.proofs.Words.{page_in}
use Rattle.paged_memory.proofs.FrameAccess.{paged_sound}
use Rattle.paged_memory.proofs.memory.PagedMemoryMemory.hold.Goals as goal

pub use_page-requires-clause-in_range : goal.use_page-requires-clause-in_range
use_page-requires-clause-in_range g c =
    let low = c.requires.in_range c.loop-page.page-index 0 (omega arith) in
    let inside = page_in c.args.self.now.0 (g.D.Swap.stored c.args.self.now.1) _ low in
    omega (arith, inside, c.loop-page.invariant.size)

pub loop-page-preserved : goal.loop-page-preserved
loop-page-preserved g c =
    let k = c.in_ok-use_page.ensures.stays_held in
    let same : length c.use_page.new.buffer ≡ c.loop-page.self-inside.buffer.len = omega arith in
    let full : length c.use_page.new.buffer ≡ 256 = omega (arith, c.loop-page.invariant.buffer, c.loop-page.self-inside.buffer.ok.0) in
    let s = c.loop-page.invariant.stays in
    let more : take (c.loop-page.page-index + 1) c.args.pages.now ≡ take c.loop-page.page-index c.args.pages.now ++ get_or c.args.pages.now c.loop-page.page-index 0 ∷ [] = take_more c.args.pages.now c.loop-page.page-index 0 (omega arith) in
    record {
      paged = k.paged;
      frames = c.loop-page.invariant.frames ∙ sym k.frames;
      buffer = rw (with_items_is c.loop-page.self-inside.buffer c.use_page.new.buffer same) full;
      size = k.size ∙ c.loop-page.invariant.size;
      stays = record { words = k.stays.words ∙ s.words; levels = k.stays.levels ∙ s.levels; top = k.stays.top ∙ s.top; unmarked = λ q m. k.stays.unmarked q (s.unmarked q m) };
      faults = c.in_ok-use_page.ensures.cause.quiet ∙ c.loop-page.invariant.faults;
      taken = c.loop-page.invariant.taken;
      room = omega (arith, c.loop-page.invariant.room, uses_room (paging_of c.loop-page.self-inside.pager) (paging_of c.use_page.new.self) _ _ _ c.loop-page.invariant.paged c.in_ok-use_page.ensures.uses);
      uses = subst (UsesEach c.args.self.now.0 (g.D.Swap.calls c.args.self.now.1) (paging_of c.use_page.new.self) (g.D.Swap.calls c.use_page.new.swap)) (sym more)
          (uses_each_push c.args.self.now.0 (paging_of c.loop-page.self-inside.pager) (paging_of c.use_page.new.self) _ _ _ _ _ c.loop-page.invariant.uses c.in_ok-use_page.ensures.uses c.in_ok-use_page.ensures.calls);
      recent = held_more _ _ _ c.args.pages.now c.loop-page.page-index _ (omega (arith, c.loop-page.invariant.paged.frames)) refl c.in_ok-use_page.ensures.uses.order c.loop-page.invariant.recent;
    }

pub returns-clause-ok : goal.returns-clause-ok
returns-clause-ok g c = λ k d low.
    subst (Contains (resident_of (paging_of c.loop-page.self-inside.pager))) (get_or_default c.args.pages.now k 0 d low) (recent_in _ _ _ (c.loop-page.invariant.recent k (omega arith)))

pub returns-in_err-use_page-clause-stops : goal.returns-in_err-use_page-clause-stops
returns-in_err-use_page-clause-stops g c =
    stops_among c.from_residual.result c.args.self.now.0 (paging_of c.loop-page.self-inside.pager) (paging_of c.use_page.new.self) _ _ _ c.args.pages.now c.loop-page.page-index (omega arith) c.loop-page.invariant.uses
    (λ m. let bad : false ≡ true = c.in_err-use_page.ensures.succeeds m in absurd (cc)) c.in_err-use_page.ensures.stops c.in_err-use_page.ensures.stopped

pub returns-in_err-use_page-clause-sound : goal.returns-in_err-use_page-clause-sound
returns-in_err-use_page-clause-sound g c = paged_sound _ _ c.in_err-use_page.ensures.stays_held.paged

pub returns-clause-sound : goal.returns-clause-sound
returns-clause-sound g c = paged_sound _ _ c.loop-page.invariant.paged
