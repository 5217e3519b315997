use Rattle.std.proofs.Common.{refl, arith}
use Rattle.band_disk.proofs.Calls.{noted_write}
use Rattle.band_disk.proofs.Invariant.{written_is}
use Rattle.band_disk.proofs.log.Log.note_write.Goals as goal

pub returns : goal.returns
returns c =
    noted_write c.args.self.now _ c.args.at c.args.piece.now c.requires.sound (omega (arith, c.requires.places, c.requires.sound.taken)) (omega (arith, c.requires.space, written_is c.args.self.now c.requires.sound))
    c.put.ensures.items c.put.ensures.capacity c.append.ensures.items c.append.ensures.capacity refl refl refl refl refl

pub append-requires : goal.append-requires
append-requires c =
    omega (arith, c.requires.space, written_is c.args.self.now c.requires.sound, c.args.self.now.written.ok.0, c.requires.sound.space)
