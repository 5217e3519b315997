use Rattle.lisp_ground.proofs.invariant.OfImage.{kept_image}
use Rattle.lisp_ground.proofs.invariant.Marks.{image_marks}
use Rattle.lisp_ground.proofs.image.grounds_are_machines.Goals as goal

pub returns-clause-ground : goal.returns-clause-ground
returns-clause-ground c = kept_image

pub returns-clause-marks : goal.returns-clause-marks
returns-clause-marks c = image_marks
