use Rattle.std.proofs.Common.{◌∙◌, sym}
use Rattle.paged_memory.proofs.FrameAccess.{paged_sound}
use Rattle.paged_memory.proofs.memory.PagedMemoryMemory.copy_on.Goals as goal

pub copy_span-requires-clause-paged : goal.copy_span-requires-clause-paged
copy_span-requires-clause-paged g c = (g.D.Swap.stored c.self.inside.swap, c.self.invariant.0)

pub invariant_of-self : goal.invariant_of-self
invariant_of-self g c =
    let lays = c.copy_span.ensures (g.D.Swap.stored c.self.inside.swap) c.self.invariant.0 in
    (lays.paged, c.self.invariant.1 ∙ sym lays.uses.frames, c.self.invariant.2)

pub returns-clause-written : goal.returns-clause-written
returns-clause-written g c = rw (← c.self.view_is) (c.copy_span.ensures (g.D.Swap.stored c.self.inside.swap) c.self.invariant.0).covers

pub returns-clause-uses : goal.returns-clause-uses
returns-clause-uses g c = rw (← c.self.view_is) (c.copy_span.ensures (g.D.Swap.stored c.self.inside.swap) c.self.invariant.0).uses

pub returns-clause-stays_held : goal.returns-clause-stays_held
returns-clause-stays_held g c = rw (← c.self.view_is) (c.copy_span.ensures (g.D.Swap.stored c.self.inside.swap) c.self.invariant.0).kept

pub returns-clause-resident : goal.returns-clause-resident
returns-clause-resident g c = rw (← c.self.view_is) (c.copy_span.ensures (g.D.Swap.stored c.self.inside.swap) c.self.invariant.0).many

pub returns-clause-sound : goal.returns-clause-sound
returns-clause-sound g c = paged_sound _ _ (c.copy_span.ensures (g.D.Swap.stored c.self.inside.swap) c.self.invariant.0).paged
