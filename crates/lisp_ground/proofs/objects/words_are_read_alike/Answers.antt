use Rattle.lisp_ground.proofs.invariant.Agreements.{words_agree}
use Rattle.lisp_ground.proofs.objects.words_are_read_alike.Goals as goal

pub returns : goal.returns
returns c = record { words = words_agree }
