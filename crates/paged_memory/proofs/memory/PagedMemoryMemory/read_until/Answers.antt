use Rattle.std.proofs.Common.{true, false, ◌≡◌, ◌+◌, ◌-◌, ◌/◌, List, subst, arith}
use Rattle.store_word.specs.Words.{Parts}
use Rattle.mem_port.specs.Reading.{Passes}
use Rattle.paged_memory.specs.Paging.{Paging}
use Rattle.paged_memory.specs.Moves.{paging_of}
use Rattle.paged_memory.proofs.RecentPages.{used_kept}
use Rattle.paged_memory.proofs.Residents.{uses_room}
use Rattle.paged_memory.proofs.FrameAccess.{frame_in, passes_framed, paged_sound}
use Rattle.paged_memory.proofs.Words.{inside_of, page_inside}
use Rattle.paged_memory.proofs.memory.PagedMemoryMemory.read_until.Goals as goal

pub use_page-requires-clause-in_range : goal.use_page-requires-clause-in_range
use_page-requires-clause-in_range g c =
    let last = page_inside (paging_of c.self.inside.pager) (g.D.Swap.stored c.self.inside.swap) (c.args.at + c.args.count - 1) (let r = rw (← c.self.view_is) at c.requires.in_range in let some = c.requires.at_least in omega arith) in
    let some = c.requires.at_least in
    omega (arith, last)

pub returns-in_err-frame-clause-succeeds : goal.returns-in_err-frame-clause-succeeds
returns-in_err-frame-clause-succeeds g c = rw (← c.self.view_is) (λ m. let bad : false ≡ true = c.in_err-frame.ensures.succeeds m in absurd (cc))

pub returns-in_err-frame-clause-sound : goal.returns-in_err-frame-clause-sound
returns-in_err-frame-clause-sound g c = paged_sound _ _ c.in_err-frame.ensures.stays_held.paged

pub words-words-requires : goal.words-words-requires
words-words-requires g c = frame_in _ _ (c.args.at / 256) c.in_ok-frame.frame c.in_ok-frame.ensures.stays_held.paged c.in_ok-frame.ensures.placed

pub returns-clause-value : goal.returns-clause-value
returns-clause-value g c =
    let p : Paging = paging_of c.use_page.new.self in
    let low = inside_of (paging_of c.self.inside.pager) (g.D.Swap.stored c.self.inside.swap) (c.args.at + c.args.count - 1) (let r = rw (← c.self.view_is) at c.requires.in_range in let some = c.requires.at_least in omega arith) in
    let k = c.in_ok-frame.ensures.stays_held in
    let size = k.size in
    let page = c.requires.page in
    let some = c.requires.at_least in
    rw (← c.self.view_is) (subst (λ (ws : List Parts). Passes ws (g.T.WordTest.wanted c.args.test.now) c.args.at c.args.count c.words_before-passed.result) k.stays.words
    (passes_framed p (g.D.Swap.stored c.use_page.new.swap) c.words-words.result.now (g.T.WordTest.wanted c.args.test.now) c.args.at c.in_ok-frame.frame c.args.count c.words_before-passed.result page (omega (arith, low, size, some)) c.in_ok-frame.ensures.placed c.words-words.ensures.size c.words-words.ensures.words c.words_before-passed.ensures))

pub returns-clause-sound : goal.returns-clause-sound
returns-clause-sound g c = paged_sound _ _ c.in_ok-frame.ensures.stays_held.paged

pub returns-clause-stays_held : goal.returns-clause-stays_held
returns-clause-stays_held g c = rw (← c.self.view_is) (used_kept _ _ _ _ c.in_ok-frame.ensures.uses.order)

pub returns-clause-room : goal.returns-clause-room
returns-clause-room g c =
    let more = uses_room (paging_of c.self.inside.pager) (paging_of c.use_page.new.self) _ _ _ c.self.invariant.0 c.in_ok-frame.ensures.uses in
    record { answered = rw (← c.self.view_is) more; failed = tt }
