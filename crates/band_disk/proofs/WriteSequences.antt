-- Applying writes to bytes, one after another.
use Rattle.std.proofs.Common.{◌≡◌, ℕ, ◌+◌, ◌≤◌, max, List, [], ◌∷◌, ◌++◌, length, take, drop, replicate, refl, ◌∙◌, arith, length-append}
use Rattle.std.proofs.lemmas.List.{length-take, length-drop, length-replicate}
use Rattle.band_disk.specs.Disks.{overwritten}
use Rattle.band_disk.specs.Logs.{AreWithin, Writes, spoiled, with_writes}

pub length-overwritten : (at : ℕ) (piece bytes : List ℕ) → at ≤ length bytes → length (overwritten at piece bytes) ≡ max (length bytes) (at + length piece)
length-overwritten at piece bytes fits =
    omega (arith, length-append (take at bytes) (piece ++ drop (at + length piece) bytes), length-append piece (drop (at + length piece) bytes), length-take at bytes, length-drop (at + length piece) bytes)

-- spoiled writes have the same positions and lengths
pub spoiled_within : (room : ℕ) (bytes same : List ℕ) (writes : Writes) → length same ≡ length bytes → AreWithin room bytes writes → AreWithin room same (spoiled writes)
spoiled_within room bytes same [] long within = tt
spoiled_within room bytes same (write ∷ writes) long within =
    let size = length-replicate {A = ℕ} (length write.1) 255 in (
      omega (arith, within.0),
      omega (arith, within.1, size),
      spoiled_within room (overwritten write.0 write.1 bytes) (overwritten write.0 (replicate (length write.1) 255) same) writes
          (length-overwritten write.0 (replicate (length write.1) 255) same (omega (arith, within.0)) ∙ omega (arith, size, length-overwritten write.0 write.1 bytes within.0)) within.2,
    )

pub with_writes-append : (bytes : List ℕ) (writes more : Writes) → with_writes bytes (writes ++ more) ≡ with_writes (with_writes bytes writes) more
with_writes-append bytes [] more = refl
with_writes-append bytes (write ∷ writes) more = with_writes-append (overwritten write.0 write.1 bytes) writes more

-- one more write
pub within_push : (room : ℕ) (bytes : List ℕ) (writes : Writes) (at : ℕ) (piece : List ℕ) → AreWithin room bytes writes → at ≤ length (with_writes bytes writes) → at + length piece ≤ room → AreWithin room bytes (writes ++ (at, piece) ∷ [])
within_push room bytes [] at piece within place fits = (place, fits, tt)
within_push room bytes (write ∷ writes) at piece within place fits = (within.0, within.1, within_push room (overwritten write.0 write.1 bytes) writes at piece within.2 place fits)

-- a larger room has room for them, too
pub within_more : (room more : ℕ) (bytes : List ℕ) (writes : Writes) → room ≤ more → AreWithin room bytes writes → AreWithin more bytes writes
within_more room more bytes [] le within = tt
within_more room more bytes (write ∷ writes) le within = (within.0, omega (arith, le, within.1), within_more room more (overwritten write.0 write.1 bytes) writes le within.2)

-- the bytes with all writes applied are within the room
pub length-with_writes : (room : ℕ) (bytes : List ℕ) (writes : Writes) → length bytes ≤ room → AreWithin room bytes writes → length (with_writes bytes writes) ≤ room
length-with_writes room bytes [] short within = short
length-with_writes room bytes (write ∷ writes) short within =
    length-with_writes room (overwritten write.0 write.1 bytes) writes (omega (arith, short, within.1, length-overwritten write.0 write.1 bytes within.0)) within.2
