use Rattle.std.proofs.Common.{length, sym, ◌∙◌, ap, subst, arith}
use Rattle.band_disk.specs.Logs.{disk_bytes}
use Rattle.band_disk.specs.Memory.{LogInvariant}
use Rattle.band_disk.proofs.Invariant.{kept_write}
use Rattle.band_disk.proofs.memory.BandMemory.write.Goals as goal

-- there is one more write in the log, and in the bytes as read
pub invariant_of-self : goal.invariant_of-self
invariant_of-self c =
    let inside = c.self.inside in
    let kept = c.self.invariant.0 in
    let counted = c.self.view_is ∙ c.if-not-begin.ensures.after in
    let same = kept.read ∙ ap disk_bytes counted in
    let room = ap (λ d. d.room) counted in (
      subst (λ b. LogInvariant c.note_write.new.self inside.start.items b inside.synced.items inside.room inside.tear) (sym c.overwrite.ensures.items)
          (kept_write _ _ _ _ _ _ kept _ c.args.at c.args.piece.now c.note_write.ensures (omega (arith, c.requires.at_most, ap length same)) (omega (arith, c.requires.room, room))),
      omega (arith, c.self.invariant.1, c.overwrite.ensures.capacity),
      c.self.invariant.2,
    )
