use Rattle.band_disk.specs.Logs.{Synced, accepts}
use Rattle.band_disk.proofs.DiskCalls.{call_went, sync_images}
use Rattle.band_disk.proofs.memory.BandMemoryBandDisk.sync.Goals as goal

pub returns-clause-images : goal.returns-clause-images
returns-clause-images c =
    sync_images c.args.self.now c.make_durable.new.self (accepts c.args.self.now Synced) c.make_durable.ensures.in_range (call_went _ _ Synced c.make_durable.ensures.after)
