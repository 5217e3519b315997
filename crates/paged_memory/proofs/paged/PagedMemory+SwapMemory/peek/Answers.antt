use Rattle.std.proofs.Common.{◌∙◌, ◌/◌, Some, sym, ap}
use Rattle.store_word.specs.Words.{Parts}
use Rattle.page_map.specs.declared.place.PagePlace.{PagePlace}
use Rattle.paged_memory.specs.Paging.{word_in}
use Rattle.paged_memory.specs.Moves.{paging_of}
use Rattle.paged_memory.proofs.FrameAccess.{frame_in, read_framed}
use Rattle.paged_memory.proofs.Words.{inside_of, page_inside, swapped_read, words_get}
use Rattle.paged_memory.proofs.paged.PagedMemory+SwapMemory.peek.Goals as goal

pub place_of-requires : goal.place_of-requires
place_of-requires c = page_inside (paging_of c.self.inside.pager) c.self.inside.swap.stored c.args.at (rw (← c.self.view_is) at c.requires)

pub word-requires-clause-frame : goal.word-requires-clause-frame
word-requires-clause-frame c = frame_in _ _ (c.args.at / 256) c.in-InFrame.frame c.self.invariant.0 (sym c.in-InFrame.ensures.place)

pub returns-in-Empty : goal.returns-in-Empty
returns-in-Empty c =
    let p = paging_of c.self.inside.pager in
    let low = inside_of p c.self.inside.swap.stored c.args.at (rw (← c.self.view_is) at c.requires) in
    rw (← c.self.view_is) (words_get p c.self.inside.swap.stored c.args.at low
    ∙ ap (λ (place : PagePlace). Some (word_in p.pool c.self.inside.swap.stored c.args.at place)) (sym c.in-Empty.ensures.place)
    ∙ ap (λ (w : Parts). Some w) (sym c.null.ensures))

pub returns-in-InFrame : goal.returns-in-InFrame
returns-in-InFrame c =
    let p = paging_of c.self.inside.pager in
    let low = inside_of p c.self.inside.swap.stored c.args.at (rw (← c.self.view_is) at c.requires) in
    rw (← c.self.view_is) (read_framed p _ c.args.at c.in-InFrame.frame c.word.result low (sym c.in-InFrame.ensures.place) c.word.ensures.value)

pub returns-in-Swapped : goal.returns-in-Swapped
returns-in-Swapped c =
    let p = paging_of c.self.inside.pager in
    let low = inside_of p c.self.inside.swap.stored c.args.at (rw (← c.self.view_is) at c.requires) in
    rw (← c.self.view_is) (swapped_read p _ c.args.at c.self.invariant.0 low (sym c.in-Swapped.ensures.place) ∙ c.peek.ensures)
