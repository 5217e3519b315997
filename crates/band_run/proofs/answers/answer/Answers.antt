use Rattle.band_run.proofs.LoadTransitions.{asks_nothing, calm_tells, did_list, stays_on_err}
use Rattle.band_run.proofs.answers.answer.Goals as goal

pub returns-in-List-clause-did : goal.returns-in-List-clause-did
returns-in-List-clause-did g c =
    let D = g.D.BandDisk in
    rw c.in-List.is (did_list D.bytes D.space D.images D.clock D.images_since g.met.D.BandDisk.only_now c.args.store.now c.args.disk.now c.list.result c.list.ensures.refused c.list.ensures.listed)

pub returns-in-List-clause-accounted : goal.returns-in-List-clause-accounted
returns-in-List-clause-accounted g c = calm_tells c.list.result _ c.list.ensures.no_fault

pub returns-in-List-clause-no_fault : goal.returns-in-List-clause-no_fault
returns-in-List-clause-no_fault g c = stays_on_err c.list.result _

pub returns-in-List-clause-changes : goal.returns-in-List-clause-changes
returns-in-List-clause-changes g c = asks_nothing c.list.result _

pub returns-in-List-clause-unchanged : goal.returns-in-List-clause-unchanged
returns-in-List-clause-unchanged g c = stays_on_err c.list.result _
