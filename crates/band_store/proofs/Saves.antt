-- The contents of the bytes while a save is written, and afterwards.
use Rattle.std.proofs.Common.{◌≡◌, inl, inr, ⊎_elim, ℕ, ◌+◌, ◌<◌, ◌≤◌, Bool, true, false, if◌then◌else◌, List, [], ◌∷◌, ◌++◌, length, take, drop, Ok, Err, nat_lt, refl, sym, ◌∙◌, ap, subst, arith, append_assoc, length-append, take-append-drop}
use Rattle.std.proofs.lemmas.Bool.{cases_eq}
use Rattle.std.proofs.lemmas.Bool.Decides.{nat_tests}
use Rattle.std.proofs.lemmas.List.{take_at}
use Rattle.band_disk.specs.Disks.{LeavesOnly, overwritten}
use Rattle.band_disk.proofs.Moments.{weakened}
use Rattle.band_store.specs.declared.faults.SaveFault.TheVariants as S
use Rattle.band_store.specs.Format.{Holds, IsSave, Save, gate_behind, header, record_of, records}
use Rattle.band_store.specs.Directory.{put_name}
use Rattle.lisp_graph.specs.Name.{is_name}
use Rattle.band_store.specs.Store.{IsOpenOn, IsTornRecord, IsWithOrWithout, Store, checked}
use Rattle.band_store.proofs.Records.{front_long, gate_push, good_push, index_push, records_push, size_with, take_to_gate}

-- a prefix that ends in a byte
take_past : (n x : ℕ) (xs ys : List ℕ) → length xs ≡ n → take (n + 1) (xs ++ x ∷ ys) ≡ xs ++ x ∷ []
take_past n x xs ys long =
    ap (take (n + 1)) (sym (append_assoc xs (x ∷ []) ys)) ∙ take_at (xs ++ x ∷ []) ys (n + 1) (omega (arith, length-append xs (x ∷ [])))

-- the gate is within the bytes
pub gate_within : (saves : List Save) (bytes : List ℕ) → Holds saves bytes → gate_behind saves < length bytes
gate_within saves bytes holds = omega (arith, size_with saves (holds.gate ∷ holds.behind) bytes holds.is)

module _ (saves : List Save) (save : Save) (bytes : List ℕ) (holds : Holds saves bytes) (good : IsSave save) where
  -- a record, followed by a closed gate
  abbrev pub written : List ℕ
  written = record_of save ++ 0 ∷ []

  same_front : (image : List ℕ) → take (gate_behind saves + 1) image ≡ take (gate_behind saves + 1) bytes → Holds saves image
  same_front image same = record {
    good = holds.good;
    gate = holds.gate;
    shut = holds.shut;
    behind = drop (gate_behind saves + 1) image;
    is = sym (take-append-drop (gate_behind saves + 1) image)
        ∙ ap (λ (l : List ℕ). l ++ drop (gate_behind saves + 1) image) (same ∙ ap (take (gate_behind saves + 1)) (holds.is ∙ sym (append_assoc header (records saves) (holds.gate ∷ holds.behind)))
        ∙ take_past (gate_behind saves) holds.gate (header ++ records saves) holds.behind (front_long saves))
        ∙ append_assoc (header ++ records saves) (holds.gate ∷ []) (drop (gate_behind saves + 1) image)
        ∙ append_assoc header (records saves) (holds.gate ∷ drop (gate_behind saves + 1) image);
  }

  -- the bytes with this byte at the gate, followed by the record
  with_gate : (byte : ℕ) (image rest : List ℕ) → image ≡ take (gate_behind saves) bytes ++ byte ∷ (written ++ rest) → image ≡ header ++ (records saves ++ byte ∷ (record_of save ++ 0 ∷ rest))
  with_gate byte image rest is =
      is
      ∙ ap (λ (l : List ℕ). l ++ byte ∷ (written ++ rest)) (take_to_gate saves (holds.gate ∷ holds.behind) bytes holds.is)
      ∙ append_assoc header (records saves) (byte ∷ (written ++ rest))
      ∙ ap (λ (l : List ℕ). header ++ (records saves ++ byte ∷ l)) (append_assoc (record_of save) (0 ∷ []) rest)

  open_gate : (image rest : List ℕ) → image ≡ take (gate_behind saves) bytes ++ 1 ∷ (written ++ rest) → Holds (saves ++ save ∷ []) image
  open_gate image rest is = record {
    good = good_push saves save holds.good good;
    gate = 0;
    shut = λ e. absurd cc;
    behind = rest;
    is = with_gate 1 image rest is ∙ ap (λ (l : List ℕ). header ++ l) (sym (records_push saves save (0 ∷ rest)));
  }

  -- a crash while the record is written leaves the saves, with or without this one
  pub torn_with : (image : List ℕ) → IsTornRecord (gate_behind saves) written bytes image → IsWithOrWithout saves save image
  torn_with image torn = ⊎_elim (λ same. inl (same_front image same)) (λ whole. by_gate whole.0 whole.1) torn
    where
      rest : List ℕ
      rest = drop (gate_behind saves + 1 + length written) bytes

      by_gate : (byte : ℕ) → image ≡ take (gate_behind saves) bytes ++ byte ∷ (written ++ drop (gate_behind saves + 1 + length written) bytes) → IsWithOrWithout saves save image
      by_gate byte is = elim (cases_eq byte 1) [
        | inl opened ↦ inr (open_gate image (drop (gate_behind saves + 1 + length written) bytes) (is ∙ ap (λ (b : ℕ). take (gate_behind saves) bytes ++ b ∷ (written ++ drop (gate_behind saves + 1 + length written) bytes)) opened))
        | inr shut ↦ inl (record { good = holds.good; gate = byte; shut = shut; behind = record_of save ++ 0 ∷ drop (gate_behind saves + 1 + length written) bytes; is = with_gate byte image (drop (gate_behind saves + 1 + length written) bytes) is })
      ]

  -- afterwards the bytes contain this save, too
  pub holds_with : (new : List ℕ) → new ≡ overwritten (gate_behind saves) (1 ∷ written) bytes → Holds (saves ++ save ∷ []) new
  holds_with new is = open_gate new (drop (gate_behind saves + length (1 ∷ written)) bytes) is

-- a save that may be written
pub record IsWritable (store : Store) (room : ℕ) (save : Save) (gate : ℕ) : Type 0 where
  pub opened : store.opened ≡ true
  pub short : length save.text ≤ 1048576
  pub fits : store.gate + 7 + length save.name + length save.text ≤ room
  pub next : gate ≡ store.gate + 6 + length save.name + length save.text

pub writable : (store : Store) (room : ℕ) (save : Save) (gate : ℕ) → checked store room save ≡ Ok gate → IsWritable store room save gate
writable store room save gate is = by store.opened (nat_lt 1048576 (length save.text)) (nat_lt room (store.gate + 7 + length save.name + length save.text)) refl refl refl is
  where
    by : (opened large full : Bool) → store.opened ≡ opened → nat_lt 1048576 (length save.text) ≡ large → nat_lt room (store.gate + 7 + length save.name + length save.text) ≡ full
        → (if opened then (if large then Err (S.TooLarge (length save.text)) else if full then Err (S.Full (store.gate + 7 + length save.name + length save.text)) else Ok (store.gate + 6 + length save.name + length save.text)) else Err S.Closed) ≡ Ok gate → IsWritable store room save gate
    by false large full o l f e = absurd cc
    by true true full o l f e = absurd cc
    by true false true o l f e = absurd cc
    by true false false o l f e = record {
      opened = o;
      short = grind (arith, nat_tests);
      fits = grind (arith, nat_tests);
      next = let same : store.gate + 6 + length save.name + length save.text ≡ gate = cc in sym same;
    }

-- a save in progress: the store found that it may be written, and these are the bytes of its record, followed by a closed gate
pub record IsUnderWay (old : Store) (room gate : ℕ) (save : Save) (piece : List ℕ) : Type 0 where
  pub named : is_name save.name ≡ true
  pub may : checked old room save ≡ Ok gate
  pub piece_is : piece ≡ record_of save ++ 0 ∷ []

-- a save in progress, of a name and a text that were read
pub under_way : (old : Store) (room gate : ℕ) (name text read_name read_text piece : List ℕ) → read_name ≡ name → read_text ≡ text → is_name name ≡ true
    → Ok gate ≡ checked old room (record { name = read_name; text = read_text }) → piece ≡ record_of (record { name = read_name; text = read_text }) ++ 0 ∷ [] → IsUnderWay old room gate (record { name = name; text = text }) piece
under_way old room gate name text read_name read_text piece same_name same_text named may made = record {
  named = named;
  may = sym (may ∙ (λ i. checked old room (record { name = same_name i; text = same_text i })));
  piece_is = made ∙ (λ i. record_of (record { name = same_name i; text = same_text i }) ++ 0 ∷ []);
}

module _ (old : Store) (room gate : ℕ) (bytes : List ℕ) (saves : List Save) (save : Save) (piece : List ℕ) (at : ℕ) (way : IsUnderWay old room gate save piece) (here : at ≡ old.gate) (is : IsOpenOn old bytes saves) where
  can : IsWritable old room save gate
  can = writable old room save gate way.may

  -- the possible post-crash states at each moment while its record is written
  pub save_moments : {D : Type 0} (clock : D → ℕ) (images_since : D → ℕ → List ℕ → Type 0) (disk new : D) → LeavesOnly clock images_since disk new (IsTornRecord at piece bytes) → LeavesOnly clock images_since disk new (IsWithOrWithout saves save)
  save_moments clock images_since disk new =
      weakened clock images_since disk new (IsTornRecord at piece bytes) (IsWithOrWithout saves save)
      (λ image torn. torn_with saves save bytes is.holds (record { name = way.named; text = can.short }) image (subst (λ (X : Type 0). X) (λ i. IsTornRecord ((here ∙ is.next) i) (way.piece_is i) bytes image) torn))

  -- the store and the bytes after the save
  pub saved_open : (new : Store) (after : List ℕ) → new.opened ≡ old.opened → new.bands ≡ put_name save.name (record { at = old.gate + 6 + length save.name; size = length save.text }) old.bands → new.gate ≡ gate
      → after ≡ overwritten at (1 ∷ piece) bytes → IsOpenOn new after (saves ++ save ∷ [])
  saved_open new after opened bands next written = record {
    opened = opened ∙ is.opened;
    holds = holds_with saves save bytes is.holds (record { name = way.named; text = can.short }) after (written ∙ (λ i. overwritten ((here ∙ is.next) i) (1 ∷ way.piece_is i) bytes));
    names = bands ∙ (λ i. put_name save.name (record { at = is.next i + 6 + length save.name; size = length save.text }) (is.names i)) ∙ sym (index_push saves save);
    next = omega (arith, next, can.next, is.next, gate_push saves save);
  }
