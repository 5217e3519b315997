use Rattle.std.proofs.Common.{subst}
use Rattle.band_disk.specs.Logs.{LiesWithin}
use Rattle.band_disk.proofs.Invariant.{lies_within}
use Rattle.band_disk.proofs.memory.BandMemory.begin.Goals as goal

pub returns-clause-in_range : goal.returns-clause-in_range
returns-clause-in_range c = subst LiesWithin c.self.view_is (lies_within _ _ _ _ _ _ c.self.invariant.0)

pub returns-then-self-2-clause-in_range : goal.returns-then-self-2-clause-in_range
returns-then-self-2-clause-in_range c = subst LiesWithin c.self.view_is (lies_within _ _ _ _ _ _ c.self.invariant.0)
