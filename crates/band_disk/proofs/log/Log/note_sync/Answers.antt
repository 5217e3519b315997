use Rattle.std.proofs.Common.{refl, arith}
use Rattle.band_disk.specs.declared.log.Entry.TheVariants.{Sync}
use Rattle.band_disk.specs.Logs.{Synced}
use Rattle.band_disk.proofs.Calls.{noted_settled}
use Rattle.band_disk.proofs.log.Log.note_sync.Goals as goal

pub returns : goal.returns
returns c =
    noted_settled c.args.self.now _ Sync Synced (λ _. refl) refl (λ _. refl) c.requires.sound (omega (arith, c.requires.sound.noted)) (omega (arith, c.requires.places, c.requires.sound.taken)) refl
    c.put.ensures.items c.put.ensures.capacity refl (omega arith) (omega arith) refl refl
