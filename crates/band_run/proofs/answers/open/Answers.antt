use Rattle.std.proofs.Common.{Err, subst}
use Rattle.band_run.proofs.RestartedDisk.{Answers, open_damaged, open_done, open_fault, open_none}
use Rattle.band_run.proofs.answers.open.Goals as goal

pub returns-in-Ok-clause-did : goal.returns-in-Ok-clause-did
returns-in-Ok-clause-did g c = λ given first s stands.
    let D = g.D.BandDisk in
    let r = c.restart.ensures in
    let e = c.in-Ok.ensures in
    open_done D.bytes D.space D.images D.clock D.images_since g.met.D.BandDisk.only_now c.args.disk.now c.restart.new.self c.open.new.disk r.images r.durable r.space r.time e.reads given first s c.args.store.now stands c.in-Ok.count c.open.new.self e.ok
    (record { holds = e.value; not_a_store = e.refused; damaged = e.damaged })

pub returns-in-Err-NotAStore-clause-did : goal.returns-in-Err-NotAStore-clause-did
returns-in-Err-NotAStore-clause-did g c = λ given first s stands.
    let D = g.D.BandDisk in
    let r = c.restart.ensures in
    let e = c.in-Err-NotAStore.ensures in
    open_none D.bytes D.space D.images D.clock D.images_since g.met.D.BandDisk.only_now c.args.disk.now c.restart.new.self c.open.new.disk r.images r.durable r.space r.time e.reads given first s c.args.store.now stands c.open.new.self e.failed
    (subst (λ fault. Answers (D.bytes c.restart.new.self) (Err fault)) c.in-Err-NotAStore.field-0-is (record { holds = e.value; not_a_store = e.refused; damaged = e.damaged }))

pub returns-in-Err-Damaged-clause-did : goal.returns-in-Err-Damaged-clause-did
returns-in-Err-Damaged-clause-did g c = λ given first s stands.
    let D = g.D.BandDisk in
    let r = c.restart.ensures in
    let e = c.in-Err-Damaged.ensures in
    open_damaged D.bytes D.space D.images D.clock D.images_since g.met.D.BandDisk.only_now c.args.disk.now c.restart.new.self c.open.new.disk r.images r.durable r.space r.time e.reads given first s c.args.store.now stands c.in-Err-Damaged.at c.open.new.self e.failed
    (subst (λ fault. Answers (D.bytes c.restart.new.self) (Err fault)) c.in-Err-Damaged.field-0-is (record { holds = e.value; not_a_store = e.refused; damaged = e.damaged }))

pub returns-in-Err-Disk-clause-did : goal.returns-in-Err-Disk-clause-did
returns-in-Err-Disk-clause-did g c = λ given first s stands.
    let D = g.D.BandDisk in
    let r = c.restart.ensures in
    let e = c.in-Err-Disk.ensures in
    open_fault D.bytes D.space D.images D.clock D.images_since g.met.D.BandDisk.only_now c.args.disk.now c.restart.new.self c.open.new.disk r.images r.durable r.space r.time e.reads given first s c.args.store.now stands c.open.new.self e.failed
