use Rattle.std.proofs.Common.{List, ℕ, subst}
use Rattle.band_disk.specs.Disks.{Torn}
use Rattle.band_store.proofs.TornRecords.{record_moments, torn_gate}
use Rattle.band_store.proofs.writing.write_record.Goals as goal

-- the first write, and then the second
pub returns-in_err-write_through-2-clause-any_moment : goal.returns-in_err-write_through-2-clause-any_moment
returns-in_err-write_through-2-clause-any_moment g c =
    record_moments g.D.BandDisk.clock g.D.BandDisk.images_since c.args.disk.now c.write_through.new.disk c.write_through-2.new.disk c.args.gate c.args.bytes.now (g.D.BandDisk.bytes c.args.disk.now) (g.D.BandDisk.bytes c.write_through.new.disk)
    c.requires.place c.in_ok-write_through.ensures.written c.in_ok-write_through.ensures.any_moment c.write_through-2.ensures.any_moment

pub returns-in_err-write_through-2-clause-images : goal.returns-in_err-write_through-2-clause-images
returns-in_err-write_through-2-clause-images g c image now =
    let old = g.D.BandDisk.bytes c.args.disk.now in
    torn_gate c.args.gate c.args.bytes.now old c.requires.place image (subst (λ (b : List ℕ). Torn c.args.gate 1 b image) c.in_ok-write_through.ensures.written (c.write_through-2.ensures.images image now))

pub returns-clause-any_moment : goal.returns-clause-any_moment
returns-clause-any_moment g c =
    record_moments g.D.BandDisk.clock g.D.BandDisk.images_since c.args.disk.now c.write_through.new.disk c.write_through-2.new.disk c.args.gate c.args.bytes.now (g.D.BandDisk.bytes c.args.disk.now) (g.D.BandDisk.bytes c.write_through.new.disk)
    c.requires.place c.in_ok-write_through.ensures.written c.in_ok-write_through.ensures.any_moment c.write_through-2.ensures.any_moment
