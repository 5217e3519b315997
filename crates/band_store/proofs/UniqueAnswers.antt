-- Bytes contain at most one list of saves, and determine one answer.
use Rattle.std.proofs.Common.{◌≡◌, ◌⊎◌, inl, inr, ⊎_elim, ℕ, List, [], ◌∷◌, ◌++◌, length, take, Result, Ok, Err, IfOk, IfErr, refl, sym, ◌∙◌, ap, arith, append_assoc, length-append}
use Rattle.std.proofs.lemmas.List.{take_at}
use Rattle.std.specs.List.{AllByRecursion}
use Rattle.band_store.specs.declared.faults.OpenFault.{OpenFault}
use Rattle.band_store.specs.declared.faults.OpenFault.TheVariants as O
use Rattle.band_store.specs.declared.format.HeaderState.TheVariants.{Shut, Broken}
use Rattle.band_store.specs.Directory.{directory}
use Rattle.band_store.specs.Format.{Holds, IsDamaged, IsNoStore, IsSave, Save, gate_behind, header, record_of, records}
use Rattle.band_store.specs.Gates.{IsGate}
use Rattle.band_store.specs.Store.{IsOpenAnswer, IsRefused}
use Rattle.band_store.proofs.RecordBytes.{head_of_record, one_head, same_first, same_parts}
use Rattle.band_store.proofs.Texts.{head_of, length-head_of, split_record}

-- the end of the records: a gate that isn't open, or an open gate that no record follows
abbrev IsEnd : List ℕ → Type 0
IsEnd tail = IsGate tail Shut ⊎ IsGate tail Broken

-- there is at least one byte
some_left : (saves : List Save) (tail : List ℕ) → IsEnd tail → (x : ℕ) × (rest : List ℕ) × (records saves ++ tail ≡ x ∷ rest)
some_left [] tail end = ⊎_elim (λ shut. (shut.0, shut.1, shut.3)) (λ broken. (1, broken.0, broken.1)) end
some_left (save ∷ saves) tail end = (1, (record_of save ++ records saves) ++ tail, refl)

-- the end isn't the beginning of a record
clash : (save : Save) (tail : List ℕ) (x : ℕ) (rest : List ℕ) → IsSave save → IsEnd tail → tail ≡ 1 ∷ (record_of save ++ x ∷ rest) → ⊥
clash save tail x rest good end is =
    ⊎_elim (λ shut. shut.2 (same_first shut.0 1 shut.1 (record_of save ++ x ∷ rest) (sym shut.3 ∙ is)).0)
    (λ broken. broken.2 save x rest good (same_first 1 1 broken.0 (record_of save ++ x ∷ rest) (sym broken.1 ∙ is)).1) end

-- bytes begin with at most one record
same_record : (a b : Save) (xs ys : List ℕ) → IsSave a → IsSave b → record_of a ++ xs ≡ record_of b ++ ys → (a ≡ b) × (xs ≡ ys)
same_record a b xs ys good_a good_b e =
    let same = one_head a.name b.name (length a.text) (length b.text) (record_of a ++ xs) (head_of_record a xs (record_of a ++ xs) good_a refl) (head_of_record b ys (record_of a ++ xs) good_b e) in
    let whole : head_of a ++ (a.text ++ xs) ≡ head_of b ++ (b.text ++ ys) =
    sym (append_assoc (head_of a) a.text xs) ∙ ap (λ (l : List ℕ). l ++ xs) (sym (split_record a)) ∙ ap (λ (l : List ℕ). 1 ∷ l) e ∙ ap (λ (l : List ℕ). l ++ ys) (split_record b) ∙ append_assoc (head_of b) b.text ys in
    let behind = same_parts (head_of a) (head_of b) (a.text ++ xs) (b.text ++ ys) (omega (arith, length-head_of a, length-head_of b, ap length same.0)) whole in
    let texts = same_parts a.text b.text xs ys same.1 behind.1 in
    (λ i. record { name = same.0 i; text = texts.0 i }, texts.1)

-- bytes are at most one list of records, with one end
once : (saves others : List Save) (tail rest : List ℕ) → AllByRecursion IsSave saves → AllByRecursion IsSave others → IsEnd tail → IsEnd rest → records saves ++ tail ≡ records others ++ rest → (saves ≡ others) × (tail ≡ rest)
once [] [] tail rest good goods end ends e = (refl, e)
once [] (other ∷ others) tail rest good goods end ends e =
    let left = some_left others rest ends in
    absurd (clash other tail left.0 left.1 goods.0 end (e ∙ append_assoc (1 ∷ record_of other) (records others) rest ∙ ap (λ (l : List ℕ). (1 ∷ record_of other) ++ l) left.2))
once (save ∷ saves) [] tail rest good goods end ends e =
    let left = some_left saves tail end in
    absurd (clash save rest left.0 left.1 good.0 ends (sym e ∙ append_assoc (1 ∷ record_of save) (records saves) tail ∙ ap (λ (l : List ℕ). (1 ∷ record_of save) ++ l) left.2))
once (save ∷ saves) (other ∷ others) tail rest good goods end ends e =
    let split : 1 ∷ (record_of save ++ (records saves ++ tail)) ≡ 1 ∷ (record_of other ++ (records others ++ rest)) =
    sym (append_assoc (1 ∷ record_of save) (records saves) tail) ∙ e ∙ append_assoc (1 ∷ record_of other) (records others) rest in
    let first = same_record save other (records saves ++ tail) (records others ++ rest) good.0 goods.0 (same_first 1 1 _ _ split).1 in
    let later = once saves others tail rest good.1 goods.1 end ends first.1 in
    (λ i. first.0 i ∷ later.0 i, later.1)

-- what follows the header
behind_header : (bytes xs ys : List ℕ) → bytes ≡ header ++ xs → bytes ≡ header ++ ys → xs ≡ ys
behind_header bytes xs ys a b = (same_parts header header xs ys refl (sym a ∙ b)).1

pub holds_once : (bytes : List ℕ) (saves others : List Save) → Holds saves bytes → Holds others bytes → saves ≡ others
holds_once bytes saves others a b =
    (once saves others (a.gate ∷ a.behind) (b.gate ∷ b.behind) a.good b.good (inl (a.gate, a.behind, a.shut, refl)) (inl (b.gate, b.behind, b.shut, refl)) (behind_header bytes _ _ a.is b.is)).0

pub damaged_once : (bytes : List ℕ) (at other : ℕ) → IsDamaged at bytes → IsDamaged other bytes → at ≡ other
damaged_once bytes at other a b =
    let same = once a.saves b.saves (1 ∷ a.behind) (1 ∷ b.behind) a.good b.good (inr (a.behind, refl, a.none)) (inr (b.behind, refl, b.none)) (behind_header bytes _ _ a.is b.is) in
    a.gate ∙ ap gate_behind same.0 ∙ sym b.gate

pub not_both : (bytes : List ℕ) (saves : List Save) (at : ℕ) → Holds saves bytes → IsDamaged at bytes → ⊥
not_both bytes saves at a b =
    let same = once saves b.saves (a.gate ∷ a.behind) (1 ∷ b.behind) a.good b.good (inl (a.gate, a.behind, a.shut, refl)) (inr (b.behind, refl, b.none)) (behind_header bytes _ _ a.is b.is) in
    a.shut (same_first a.gate 1 a.behind b.behind same.1).0

-- bytes with the header and records are those of a store
is_store : (bytes : List ℕ) (saves : List Save) (x : ℕ) (tail : List ℕ) → bytes ≡ header ++ (records saves ++ x ∷ tail) → IsNoStore bytes → ⊥
is_store bytes saves x tail is none =
    ⊎_elim (λ short. omega (arith, ap length is, length-append header (records saves ++ x ∷ tail), length-append (records saves) (x ∷ tail)))
    (λ other. other (ap (take 8) is ∙ take_at header (records saves ++ x ∷ tail) 8 refl)) none

pub held_is_store : (bytes : List ℕ) (saves : List Save) → Holds saves bytes → IsNoStore bytes → ⊥
held_is_store bytes saves holds = is_store bytes saves holds.gate holds.behind holds.is

pub damaged_is_store : (bytes : List ℕ) (at : ℕ) → IsDamaged at bytes → IsNoStore bytes → ⊥
damaged_is_store bytes at damaged = is_store bytes damaged.saves 1 damaged.behind damaged.is

-- The answer that the bytes determine

module _ (bytes : List ℕ) where
  held_refused : (saves : List Save) (fault : OpenFault) → Holds saves bytes → IsRefused bytes fault → IsOpenAnswer (Ok (length (directory saves))) (Err fault)
  held_refused saves O.NotAStore holds none = absurd (held_is_store bytes saves holds none)
  held_refused saves (O.Damaged at) holds damaged = absurd (not_both bytes saves at holds damaged)
  held_refused saves O.Disk holds _ = inr (inl refl)
  held_refused saves O.NoMemory holds _ = inr (inr refl)

  damaged_refused : (at : ℕ) (fault : OpenFault) → IsDamaged at bytes → IsRefused bytes fault → IsOpenAnswer (Err (O.Damaged at)) (Err fault)
  damaged_refused at O.NotAStore damaged none = absurd (damaged_is_store bytes at damaged none)
  damaged_refused at (O.Damaged other) damaged is = inl (ap (λ (n : ℕ). Err (O.Damaged n)) (damaged_once bytes other at is damaged))
  damaged_refused at O.Disk damaged _ = inr (inl refl)
  damaged_refused at O.NoMemory damaged _ = inr (inr refl)

  -- the bytes contain saves, and the answer is how many names they have
  abbrev pub Opens : ℕ → Type 0
  Opens count = (saves : List Save) × Holds saves bytes × (count ≡ length (directory saves))

  -- an answer and the bytes agree
  pub held_answer : (saves : List Save) (result : Result ℕ OpenFault) → IfOk result Opens → IfErr result (IsRefused bytes) → Holds saves bytes → IsOpenAnswer (Ok (length (directory saves))) result
  held_answer saves (Ok count) opens refused holds =
      inl (ap (λ (n : ℕ). Ok n) (opens.2 ∙ ap (λ (l : List Save). length (directory l)) (holds_once bytes opens.0 saves opens.1 holds)))
  held_answer saves (Err fault) opens refused holds = held_refused saves fault holds refused

  pub damaged_answer : (at : ℕ) (result : Result ℕ OpenFault) → IfOk result Opens → IfErr result (IsRefused bytes) → IsDamaged at bytes → IsOpenAnswer (Err (O.Damaged at)) result
  damaged_answer at (Ok count) opens refused damaged = absurd (not_both bytes opens.0 at opens.1 damaged)
  damaged_answer at (Err fault) opens refused damaged = damaged_refused at fault damaged refused
