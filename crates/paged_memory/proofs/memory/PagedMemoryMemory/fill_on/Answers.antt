use Rattle.std.proofs.Common.{◌∙◌, sym}
use Rattle.paged_memory.proofs.FrameAccess.{paged_sound}
use Rattle.paged_memory.proofs.memory.PagedMemoryMemory.fill_on.Goals as goal

pub fill_span-requires-clause-paged : goal.fill_span-requires-clause-paged
fill_span-requires-clause-paged g c = (g.D.Swap.stored c.self.inside.swap, c.self.invariant.0)

pub invariant_of-self : goal.invariant_of-self
invariant_of-self g c =
    let lays = c.fill_span.ensures (g.D.Swap.stored c.self.inside.swap) c.self.invariant.0 in
    (lays.paged, c.self.invariant.1 ∙ sym lays.uses.frames, c.self.invariant.2)

pub returns-clause-filled : goal.returns-clause-filled
returns-clause-filled g c = rw (← c.self.view_is) (c.fill_span.ensures (g.D.Swap.stored c.self.inside.swap) c.self.invariant.0).covers

pub returns-clause-uses : goal.returns-clause-uses
returns-clause-uses g c = rw (← c.self.view_is) (c.fill_span.ensures (g.D.Swap.stored c.self.inside.swap) c.self.invariant.0).uses

pub returns-clause-stays_held : goal.returns-clause-stays_held
returns-clause-stays_held g c = rw (← c.self.view_is) (c.fill_span.ensures (g.D.Swap.stored c.self.inside.swap) c.self.invariant.0).kept

pub returns-clause-resident : goal.returns-clause-resident
returns-clause-resident g c = rw (← c.self.view_is) (c.fill_span.ensures (g.D.Swap.stored c.self.inside.swap) c.self.invariant.0).many

pub returns-clause-sound : goal.returns-clause-sound
returns-clause-sound g c = paged_sound _ _ (c.fill_span.ensures (g.D.Swap.stored c.self.inside.swap) c.self.invariant.0).paged
