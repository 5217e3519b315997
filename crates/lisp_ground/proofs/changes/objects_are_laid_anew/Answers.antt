use Rattle.lisp_ground.proofs.invariant.Relocations.{cell_relaid_on, block_grown_on}
use Rattle.lisp_ground.proofs.changes.objects_are_laid_anew.Goals as goal

pub returns : goal.returns
returns c = record { cell = cell_relaid_on; block = block_grown_on }
