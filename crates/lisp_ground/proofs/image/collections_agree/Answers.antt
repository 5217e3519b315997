use Rattle.lisp_ground.proofs.regions.LatestTransport.{latest_page, survivors_agree}
use Rattle.lisp_ground.proofs.invariant.Agreements.{levels_agree, condemned_agree}
use Rattle.lisp_ground.proofs.image.collections_agree.Goals as goal

pub returns : goal.returns
returns c = record { latest = latest_page; survivors = survivors_agree; levels = levels_agree; condemned = condemned_agree }
