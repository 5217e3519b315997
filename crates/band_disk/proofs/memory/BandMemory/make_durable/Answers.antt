use Rattle.std.proofs.Common.{arith}
use Rattle.band_disk.proofs.Invariant.{kept_sync}
use Rattle.band_disk.proofs.WriteSequences.{within_more}
use Rattle.band_disk.proofs.memory.BandMemory.make_durable.Goals as goal

pub lay-requires-clause-in_range : goal.lay-requires-clause-in_range
lay-requires-clause-in_range c = within_more c.self.inside.room _ _ _ c.self.invariant.2 c.self.invariant.0.within

-- now what is read is durable
pub invariant_of-self : goal.invariant_of-self
invariant_of-self c =
    (kept_sync _ _ _ _ _ _ c.self.invariant.0 _ _ c.note_sync.ensures c.lay.ensures.items, c.self.invariant.1, omega (arith, c.self.invariant.2, c.lay.ensures.capacity))
