use Rattle.std.proofs.Common.{false}
use Rattle.paged_memory.specs.Moves.{paging_of}
use Rattle.paged_memory.proofs.PageArrivals.{brings_new, in_keeps, in_comes}
use Rattle.paged_memory.proofs.pager.Pager.bring_new.Goals as goal

pub returns-clause-stays_held : goal.returns-clause-stays_held
returns-clause-stays_held c = λ stored h.
    in_keeps _ _ _ c.args.frame c.args.page false h (brings_new (paging_of c.args.self.now) stored c.take.new.self c.set.new.self c.args.frame c.args.page h c.requires.free c.requires.in_range c.requires.page c.take.ensures.taken c.take.ensures.sound c.set.ensures.placed)

pub returns-clause-placed : goal.returns-clause-placed
returns-clause-placed c = λ stored h.
    in_comes _ _ _ c.args.frame c.args.page false h (brings_new (paging_of c.args.self.now) stored c.take.new.self c.set.new.self c.args.frame c.args.page h c.requires.free c.requires.in_range c.requires.page c.take.ensures.taken c.take.ensures.sound c.set.ensures.placed)
