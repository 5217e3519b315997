use Rattle.std.proofs.Common.{sym}
use Rattle.paged_memory.specs.Moves.{paging_of}
use Rattle.paged_memory.proofs.FrameChanges.{touch_keeps, touch_uses}
use Rattle.paged_memory.proofs.pager.Pager.use_other.Goals as goal

pub touch_page-requires-clause-listed : goal.touch_page-requires-clause-listed
touch_page-requires-clause-listed g c = (c.requires.paged.framed c.args.page c.in-InFrame.frame (sym c.in-InFrame.ensures.place)).0

pub touch_page-requires-clause-page : goal.touch_page-requires-clause-page
touch_page-requires-clause-page g c = (c.requires.paged.framed c.args.page c.in-InFrame.frame (sym c.in-InFrame.ensures.place)).1

pub returns-in-InFrame-clause-stays_held : goal.returns-in-InFrame-clause-stays_held
returns-in-InFrame-clause-stays_held g c =
    touch_keeps (paging_of c.args.self.now) _ c.touch_page.new.self c.in-InFrame.frame c.requires.paged (c.requires.paged.framed c.args.page c.in-InFrame.frame (sym c.in-InFrame.ensures.place)).0 c.touch_page.ensures.after c.touch_page.ensures.sound

pub returns-in-InFrame-clause-uses : goal.returns-in-InFrame-clause-uses
returns-in-InFrame-clause-uses g c = touch_uses (paging_of c.args.self.now) _ c.touch_page.new.self c.in-InFrame.frame c.args.page c.requires.paged (sym c.in-InFrame.ensures.place) c.touch_page.ensures.after
