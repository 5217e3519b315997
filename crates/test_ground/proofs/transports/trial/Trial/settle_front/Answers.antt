use Rattle.test_ground.proofs.MachineFlip.{front-settles, front-settleable, front-settled, running-stays}
use Rattle.test_ground.proofs.transports.trial.Trial.settle_front.Goals as goal

pub settle-requires : goal.settle-requires
settle-requires g c = front-settleable c.requires

pub returns-in_err-front : goal.returns-in_err-front
returns-in_err-front g c = running-stays c.requires c.in_err-front.ensures.fault c.in_err-front.ensures.live

pub returns : goal.returns
returns g c =
    let x = c.requires in
    front-settled c.requires (c.in_ok-front.ensures.settles x.it _ x.first (front-settles c.requires)) c.in_ok-front.ensures.live
