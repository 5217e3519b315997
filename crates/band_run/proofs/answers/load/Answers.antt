use Rattle.std.proofs.Common.{Err, List, ℕ, ap, subst}
use Rattle.band_store.specs.Store.{IsLoadAnswer}
use Rattle.band_run.proofs.LoadTransitions.{load_fault}
use Rattle.band_run.proofs.answers.load.Goals as goal

pub returns-in-Err-Disk-clause-did : goal.returns-in-Err-Disk-clause-did
returns-in-Err-Disk-clause-did g c = λ given first s stands.
    let D = g.D.BandDisk in
    let e = c.in-Err-Disk.ensures in
    load_fault D.bytes D.space D.images D.clock D.images_since g.met.D.BandDisk.only_now given first s c.args.store.now c.load.new.self c.args.disk.now c.load.new.disk stands c.args.name.now e.reads (e.failed (ap (λ fault. Err fault) c.in-Err-Disk.field-0-is)) (subst (λ fault. IsLoadAnswer {T = List ℕ} c.args.store.now (Err fault)) c.in-Err-Disk.field-0-is e.value)
