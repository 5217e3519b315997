use Rattle.frame_pool.proofs.pool.latest_in.Goals as goal

pub bounds-pages-frame : goal.bounds-pages-frame
bounds-pages-frame c = c.requires.in_range c.in-Some.frame c.in-Some.ensures.listed
