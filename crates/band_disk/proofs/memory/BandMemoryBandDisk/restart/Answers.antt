use Rattle.std.proofs.Common.{refl}
use Rattle.band_disk.proofs.DiskCalls.{restart_durable, restart_image, restart_went}
use Rattle.band_disk.proofs.memory.BandMemoryBandDisk.restart.Goals as goal

pub returns-clause-images : goal.returns-clause-images
returns-clause-images c =
    restart_image c.args.self.now c.start_again.new.self _ refl c.start_again.ensures.in_range (restart_went _ _ c.start_again.ensures.after)

pub returns-clause-durable : goal.returns-clause-durable
returns-clause-durable c =
    restart_durable c.args.self.now c.start_again.new.self _ refl (restart_went _ _ c.start_again.ensures.after)
