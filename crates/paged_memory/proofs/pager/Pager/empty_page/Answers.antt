use Rattle.std.proofs.Common.{sym}
use Rattle.paged_memory.specs.Moves.{paging_of}
use Rattle.paged_memory.proofs.EmptyPages.{frame_empties, swapped_empties, stays_empty}
use Rattle.paged_memory.proofs.pager.Pager.empty_page.Goals as goal

pub returns-in-InFrame : goal.returns-in-InFrame
returns-in-InFrame c = λ stored h.
    frame_empties (paging_of c.args.self.now) stored c.give_back.new.self c.set.new.self c.in-InFrame.frame c.args.page h (sym c.in-InFrame.ensures.place) c.requires.in_range c.give_back.ensures.given c.give_back.ensures.sound c.set.ensures.placed

pub returns-in-Swapped : goal.returns-in-Swapped
returns-in-Swapped c = λ stored h.
    swapped_empties (paging_of c.args.self.now) stored c.set-in-Swapped.new.self c.forget.new.self c.args.page h (sym c.in-Swapped.ensures.place) c.requires.in_range c.forget.ensures.sets c.set-in-Swapped.ensures.placed

pub returns-in-Empty : goal.returns-in-Empty
returns-in-Empty c = λ stored h. stays_empty (paging_of c.args.self.now) stored c.args.page h (sym c.in-Empty.ensures.place)
