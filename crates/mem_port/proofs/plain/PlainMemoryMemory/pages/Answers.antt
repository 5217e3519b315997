use Rattle.std.proofs.Common.{◌∙◌}
use Rattle.mem_port.proofs.PlainLaws.{plain_sound}
use Rattle.mem_port.proofs.plain.PlainMemoryMemory.pages.Goals as goal

pub returns : goal.returns
returns c = rw (← c.self.view_is) (plain_sound _ _ c.self.invariant (c.len.ensures ∙ c.self.inside.tags.ok.0))
