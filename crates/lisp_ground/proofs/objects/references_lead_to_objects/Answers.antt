use Rattle.lisp_ground.proofs.objects.references_lead_to_objects.Goals as goal
use Rattle.lisp_ground.proofs.words.References.{references_lead}

pub returns : goal.returns
returns c = references_lead
