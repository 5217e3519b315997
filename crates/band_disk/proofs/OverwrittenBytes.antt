-- Overwriting bytes with a piece, partly within them and partly past their end.
use Rattle.std.proofs.Common.{◌≡◌, inl, inr, ℕ, ◌+◌, ◌-◌, ◌≤◌, min, max, List, ◌++◌, length, take, drop, replicate, sym, ◌∙◌, ap, arith, append_assoc, take-append-drop}
use Rattle.std.proofs.lemmas.Bool.{cases_lt}
use Rattle.std.proofs.lemmas.List.{append-nil, length-replicate, length-take-le, take_all, drop_all, replicate-append-replicate}
use Rattle.band_disk.specs.Disks.{overwritten}

-- the part past the end follows the rest
pub overwritten_parts : (at w : ℕ) (piece bytes : List ℕ) → at ≤ length bytes → w ≡ min (length piece) (length bytes - at) → overwritten at (take w piece) bytes ++ drop w piece ≡ overwritten at piece bytes
overwritten_parts at w piece bytes fits is = elim (cases_lt w (length piece)) [
  | inl some ↦
      let past : w ≡ length bytes - at = omega arith in
      let short : length (take w piece) ≡ w = length-take-le w piece (omega arith) in
      ap (λ (r : List ℕ). (take at bytes ++ (take w piece ++ r)) ++ drop w piece) (drop_all (at + length (take w piece)) bytes (omega (arith, short)))
      ∙ ap (λ (r : List ℕ). (take at bytes ++ r) ++ drop w piece) (append-nil (take w piece))
      ∙ append_assoc (take at bytes) (take w piece) (drop w piece)
      ∙ ap (λ (r : List ℕ). take at bytes ++ r) (take-append-drop w piece ∙ sym (append-nil piece))
      ∙ ap (λ (r : List ℕ). take at bytes ++ (piece ++ r)) (sym (drop_all (at + length piece) bytes (omega arith)))
  | inr all ↦
      ap (λ (p : List ℕ). overwritten at p bytes ++ drop w piece) (take_all w piece all)
      ∙ ap (λ (r : List ℕ). overwritten at piece bytes ++ r) (drop_all w piece all)
      ∙ append-nil (overwritten at piece bytes)
]

-- the same for one byte repeated
pub spoiled_parts : (at n w end byte : ℕ) (bytes laid : List ℕ) → at ≤ length bytes → w ≡ min n (length bytes - at) → end ≡ max (length bytes) (at + n) → laid ≡ overwritten at (replicate w byte) bytes → length laid ≡ length bytes
    → take end laid ++ replicate (end - length laid) byte ≡ overwritten at (replicate n byte) bytes
spoiled_parts at n w end byte bytes laid fits is last is_laid long = elim (cases_lt w n) [
  | inl some ↦
      let past : w ≡ length bytes - at = omega arith in
      let more : w + (end - length laid) ≡ n = omega arith in
      let short = length-replicate w byte in
      let whole = length-replicate n byte in
      ap (λ (l : List ℕ). l ++ replicate (end - length laid) byte) (take_all end laid (omega arith) ∙ is_laid)
      ∙ ap (λ (r : List ℕ). (take at bytes ++ (replicate w byte ++ r)) ++ replicate (end - length laid) byte) (drop_all (at + length (replicate w byte)) bytes (omega (arith, short)))
      ∙ ap (λ (r : List ℕ). (take at bytes ++ r) ++ replicate (end - length laid) byte) (append-nil (replicate w byte))
      ∙ append_assoc (take at bytes) (replicate w byte) (replicate (end - length laid) byte)
      ∙ ap (λ (r : List ℕ). take at bytes ++ r) (replicate-append-replicate w (end - length laid) byte ∙ ap (λ (k : ℕ). replicate k byte) more ∙ sym (append-nil (replicate n byte)))
      ∙ ap (λ (r : List ℕ). take at bytes ++ (replicate n byte ++ r)) (sym (drop_all (at + length (replicate n byte)) bytes (omega (arith, whole))))
  | inr all ↦
      let same : w ≡ n = omega arith in
      let none : end - length laid ≡ 0 = omega arith in
      ap (λ (k : ℕ). take end laid ++ replicate k byte) none
      ∙ append-nil (take end laid)
      ∙ take_all end laid (omega arith)
      ∙ is_laid
      ∙ ap (λ (k : ℕ). overwritten at (replicate k byte) bytes) same
]
