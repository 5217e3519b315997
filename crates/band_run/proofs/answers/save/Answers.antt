use Rattle.std.proofs.Common.{◌≡◌, List, ℕ, Err, sym, ap, subst}
use Rattle.band_store.specs.Format.{Save}
use Rattle.band_store.specs.Store.{IsSaveAnswer, checked}
use Rattle.band_run.specs.declared.reading.command.BandCommand.TheVariants as C
use Rattle.band_run.specs.declared.reply.Reply.TheVariants as R
use Rattle.band_run.specs.Steps.{Done}
use Rattle.band_run.proofs.SaveTransitions.{save_done, save_fault}
use Rattle.band_run.proofs.answers.save.Goals as goal

pub returns-in-Ok-clause-did : goal.returns-in-Ok-clause-did
returns-in-Ok-clause-did g c = λ given first s stands.
    let D = g.D.BandDisk in
    let e = c.in-Ok.ensures in
    let save : Save = record { name = c.args.name.now; text = c.args.text.now } in
    let named : c.copy.result ≡ c.args.name.now = c.copy.ensures in
    subst (λ (n : List ℕ). Done D.bytes D.space D.images D.clock D.images_since given first s (C.Save c.args.name.now c.args.text.now) (R.Saved n) c.save.new.self c.args.disk.now c.save.new.disk) (sym named)
    (save_done D.bytes D.space D.images D.clock D.images_since g.met.D.BandDisk.only_now given first s c.args.store.now c.save.new.self c.args.disk.now c.save.new.disk save stands e.space e.value e.ok e.any_moment)

pub returns-in-Err-Disk-clause-did : goal.returns-in-Err-Disk-clause-did
returns-in-Err-Disk-clause-did g c = λ given first s stands.
    let D = g.D.BandDisk in
    let e = c.in-Err-Disk.ensures in
    let save : Save = record { name = c.args.name.now; text = c.args.text.now } in
    save_fault D.bytes D.space D.images D.clock D.images_since g.met.D.BandDisk.only_now given first s c.args.store.now c.save.new.self c.args.disk.now c.save.new.disk save stands g.met.D.BandDisk.counts_now e.space
    (subst (λ fault. IsSaveAnswer (checked c.args.store.now (D.space c.args.disk.now) save) (Err fault)) c.in-Err-Disk.field-0-is e.value) (e.failed (ap (λ fault. Err fault) c.in-Err-Disk.field-0-is)) e.any_moment
