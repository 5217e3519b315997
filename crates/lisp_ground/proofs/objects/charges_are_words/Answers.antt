use Rattle.lisp_ground.proofs.words.Shapes.{charge_is, whole}
use Rattle.lisp_ground.proofs.objects.charges_are_words.Goals as goal

pub returns : goal.returns
returns c = record { charge_is = charge_is; whole = whole }
