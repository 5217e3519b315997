-- The possible post-crash states while a record is written.
use Rattle.std.proofs.Common.{◌≡◌, inl, inr, ℕ, ◌+◌, ◌<◌, ◌≤◌, List, [], ◌∷◌, ◌++◌, length, get_or, take, drop, sym, ◌∙◌, ap, subst, arith, length-append, take-append-drop}
use Rattle.std.proofs.lemmas.List.{drop_at, drop_more, take-append-le, length-take-le, take-take}
use Rattle.band_disk.specs.Disks.{LeavesOnly, Torn, overwritten}
use Rattle.band_disk.proofs.Moments.{joined, weakened}
use Rattle.band_store.specs.Store.{IsTornRecord}

module _ (gate : ℕ) (bytes old : List ℕ) (within : gate < length old) where
  -- the bytes with the record after the gate
  abbrev pub staged : List ℕ
  staged = overwritten (gate + 1) bytes old

  front_long : length (take (gate + 1) old) ≡ gate + 1
  front_long = length-take-le (gate + 1) old (omega arith)

  staged_long : gate + 1 ≤ length staged
  staged_long = omega (arith, length-append (take (gate + 1) old) (bytes ++ drop (gate + 1 + length bytes) old), front_long)

  -- before the gate nothing changed
  pub front_same : take gate staged ≡ take gate old
  front_same = take-append-le gate (take (gate + 1) old) (bytes ++ drop (gate + 1 + length bytes) old) (omega (arith, front_long)) ∙ take-take gate (gate + 1) old (omega arith)

  pub behind_gate : drop (gate + 1) staged ≡ bytes ++ drop (gate + 1 + length bytes) old
  behind_gate = drop_at (take (gate + 1) old) (bytes ++ drop (gate + 1 + length bytes) old) (gate + 1) front_long

  pub torn_stage : (image : List ℕ) → Torn (gate + 1) (length bytes) old image → IsTornRecord gate bytes old image
  torn_stage image torn = inl torn.before

  -- in each image of the second write, the record is whole
  pub torn_gate : (image : List ℕ) → Torn gate 1 staged image → IsTornRecord gate bytes old image
  torn_gate image torn =
      let byte = get_or image gate 0 in
      let rest : drop gate image ≡ byte ∷ (bytes ++ drop (gate + 1 + length bytes) old) = drop_more image gate 0 (omega (arith, torn.no_shorter, staged_long)) ∙ ap (λ (l : List ℕ). byte ∷ l) (torn.after ∙ behind_gate) in
      inr (byte, sym (take-append-drop gate image) ∙ ap (λ (l : List ℕ). l ++ drop gate image) (torn.before ∙ front_same) ∙ ap (λ (l : List ℕ). take gate old ++ l) rest)

  -- both writes
  pub opened : overwritten gate (1 ∷ []) staged ≡ overwritten gate (1 ∷ bytes) old
  opened =
      let same : gate + 1 + length bytes ≡ gate + length (1 ∷ bytes) = omega arith in
      ap (λ (l : List ℕ). l ++ 1 ∷ drop (gate + 1) staged) front_same
      ∙ ap (λ (l : List ℕ). take gate old ++ 1 ∷ l) behind_gate
      ∙ ap (λ (k : ℕ). take gate old ++ 1 ∷ (bytes ++ drop k old)) same

-- at each moment while the record is written, and then the gate
pub record_moments : {D : Type 0} (clock : D → ℕ) (images_since : D → ℕ → List ℕ → Type 0) (disk mid new : D) (gate : ℕ) (bytes old now : List ℕ) → gate < length old → now ≡ overwritten (gate + 1) bytes old
    → LeavesOnly clock images_since disk mid (Torn (gate + 1) (length bytes) old) → LeavesOnly clock images_since mid new (Torn gate 1 now) → LeavesOnly clock images_since disk new (IsTornRecord gate bytes old)
record_moments clock images_since disk mid new gate bytes old now within is first second =
    joined clock images_since disk mid new (IsTornRecord gate bytes old)
    (weakened clock images_since disk mid (Torn (gate + 1) (length bytes) old) (IsTornRecord gate bytes old) (torn_stage gate bytes old within) first)
    (weakened clock images_since mid new (Torn gate 1 now) (IsTornRecord gate bytes old) (λ image torn. torn_gate gate bytes old within image (subst (λ (b : List ℕ). Torn gate 1 b image) is torn)) second)
