use Rattle.ref_table.proofs.Invariant.{kept_indexed}
use Rattle.ref_table.proofs.table.RefTable.root.Goals as goal

pub returns-clause-sound : goal.returns-clause-sound
returns-clause-sound c = rw (← c.self.view_is) (kept_indexed _ _ _ _ c.self.invariant)
