use Rattle.std.proofs.Common.{refl, arith}
use Rattle.band_disk.specs.declared.log.Entry.TheVariants.{Restart}
use Rattle.band_disk.specs.Logs.{Restarted}
use Rattle.band_disk.proofs.Calls.{noted_settled}
use Rattle.band_disk.proofs.log.Log.note_restart.Goals as goal

pub returns : goal.returns
returns c =
    noted_settled c.args.self.now _ Restart Restarted (λ _. refl) refl (λ _. refl) c.requires.sound (omega (arith, c.requires.sound.kept (omega (arith, c.requires.in_range, c.args.self.now.entries.ok.0)))) (omega (arith, c.requires.sound.few)) (omega arith)
    c.put.ensures.items c.put.ensures.capacity refl (omega arith) (omega arith) refl refl
