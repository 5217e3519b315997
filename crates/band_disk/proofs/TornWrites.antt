-- Possible results of a torn write.
use Rattle.std.proofs.Common.{◌≡◌, ℕ, ◌+◌, ◌≤◌, List, ◌++◌, length, take, drop, refl, sym, ◌∙◌, ap, arith, append_assoc, length-append}
use Rattle.std.proofs.lemmas.List.{take_at, drop_at, length-take-le}
use Rattle.band_disk.specs.Disks.{Torn, overwritten}
use Rattle.band_disk.proofs.WriteSequences.{length-overwritten}

-- a torn write may be lost
pub torn_lost : (at n : ℕ) (bytes : List ℕ) → Torn at n bytes bytes
torn_lost at n bytes = record { before = refl; after = refl; no_shorter = omega arith; no_longer = omega arith }

-- and it may write any bytes in its range
pub torn_laid : (at n : ℕ) (piece bytes : List ℕ) → at ≤ length bytes → length piece ≡ n → Torn at n bytes (overwritten at piece bytes)
torn_laid at n piece bytes place long =
    let size = length-overwritten at piece bytes place in
    record {
      before = take_at (take at bytes) (piece ++ drop (at + length piece) bytes) at (length-take-le at bytes place);
      after = ap (drop (at + n)) (sym (append_assoc (take at bytes) piece (drop (at + length piece) bytes)))
          ∙ drop_at (take at bytes ++ piece) (drop (at + length piece) bytes) (at + n) (omega (arith, length-append (take at bytes) piece, length-take-le at bytes place, long))
          ∙ ap (λ (k : ℕ). drop (at + k) bytes) long;
      no_shorter = omega arith;
      no_longer = omega (arith, long);
    }
