use Rattle.std.proofs.Common.{◌≡◌, ◌-◌, length}
use Rattle.band_disk.specs.Disks.{ReadsOnly}
use Rattle.band_store.proofs.Records.{IsWalked}
use Rattle.band_store.proofs.reading.read_directory.Given as goal

abbrev pub invariant-records : goal.invariant-records
invariant-records g l =
    let bytes = g.D.BandDisk.bytes l.fn.disk in
    record {
      walked : IsWalked bytes l.bands.items l.gate;
      reads : ReadsOnly g.D.BandDisk.bytes g.D.BandDisk.space g.D.BandDisk.images g.D.BandDisk.clock g.D.BandDisk.images_since l.fn.disk l.disk;
      quiet : g.D.BandDisk.faults l.disk ≡ g.D.BandDisk.faults l.fn.disk;
      changes : g.D.BandDisk.changes l.disk ≡ g.D.BandDisk.changes l.fn.disk;
    }

abbrev pub decreases-records : goal.decreases-records
decreases-records g l = length (g.D.BandDisk.bytes l.fn.disk) - l.gate
