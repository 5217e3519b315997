use Rattle.test_ground.proofs.MachineFlip.{middle-settles, middle-settleable, middle-settled, running-stays}
use Rattle.test_ground.proofs.transports.trial.Trial.settle_middle.Goals as goal

pub settle-requires : goal.settle-requires
settle-requires g c = middle-settleable c.requires

pub returns-in_err-middle : goal.returns-in_err-middle
returns-in_err-middle g c = running-stays c.requires c.in_err-middle.ensures.fault c.in_err-middle.ensures.live

pub returns : goal.returns
returns g c =
    let x = c.requires in
    middle-settled c.requires (c.in_ok-middle.ensures.settles x.it _ x.second (middle-settles c.requires)) c.in_ok-middle.ensures.live
