-- The records of saves, one after another, and the index of their names.
use Rattle.std.proofs.Common.{◌≡◌, ℕ, ◌+◌, ◌<◌, ◌≤◌, Bool, true, false, T, List, [], ◌∷◌, ◌++◌, length, take, drop, fold, sum_by, refl, sym, ◌∙◌, ap, subst, arith, append_assoc, length-append, take-append-drop}
use Rattle.std.specs.List.{AllByRecursion}
use Rattle.std.specs.declared.cmp.Ordering.{Ordering}
use Rattle.std.specs.declared.cmp.Ordering.TheVariants.{Less, Equal, Greater}
use Rattle.std.specs.FinMap.Entries.{by_order, is_sorted-put}
use Rattle.std.specs.Cmp.Lexicographic.{nat_list_cmp_total}
use Rattle.std.proofs.lemmas.List.{append-nil, drop_at, take_at, length-drop}
use Rattle.std.proofs.lemmas.List.Sums.{fold_push, sum_by-append}
use Rattle.band_store.specs.declared.directory.Extent.{Extent}
use Rattle.band_store.specs.Directory.{index, is_ordered, last_of, name_order, placed, put_name}
use Rattle.band_store.specs.Format.{HasHeader, Holds, IsDamaged, IsSave, Save, first_gate, gate_behind, header, record_of, record_size, records}
use Rattle.band_store.specs.declared.format.HeaderState.{HeaderState}
use Rattle.band_store.specs.declared.format.HeaderState.TheVariants.{Shut, Broken}
use Rattle.band_store.specs.Gates.{IsGate, IsRecordAt}
use Rattle.band_store.proofs.RecordBytes.{length-record_of}
use Rattle.band_store.proofs.Names.{Bands}

-- one more save

pub good_push : (saves : List Save) (save : Save) → AllByRecursion IsSave saves → IsSave save → AllByRecursion IsSave (saves ++ save ∷ [])
good_push [] save good is = (is, tt)
good_push (first ∷ saves) save good is = (good.0, good_push saves save good.1 is)

pub records_push : (saves : List Save) (save : Save) (rest : List ℕ) → records (saves ++ save ∷ []) ++ rest ≡ records saves ++ 1 ∷ (record_of save ++ rest)
records_push [] save rest = ap (λ (l : List ℕ). l ++ rest) (append-nil (1 ∷ record_of save))
records_push (first ∷ saves) save rest =
    append_assoc (1 ∷ record_of first) (records (saves ++ save ∷ [])) rest
    ∙ ap (λ (l : List ℕ). (1 ∷ record_of first) ++ l) (records_push saves save rest)
    ∙ sym (append_assoc (1 ∷ record_of first) (records saves) (1 ∷ (record_of save ++ rest)))

pub gate_push : (saves : List Save) (save : Save) → gate_behind (saves ++ save ∷ []) ≡ gate_behind saves + record_size save
gate_push saves save = omega (arith, sum_by-append record_size saves (save ∷ []))

placed_push : (gate : ℕ) (saves : List Save) (save : Save) → placed gate (saves ++ save ∷ [])
    ≡ placed gate saves ++ (save.name, record { at = gate + sum_by record_size saves + 6 + length save.name; size = length save.text }) ∷ []
placed_push gate [] save = let same : gate ≡ gate + 0 = omega arith in ap (λ n. (save.name, record { at = n + 6 + length save.name; size = length save.text }) ∷ []) same
placed_push gate (first ∷ saves) save =
    let place : gate + record_size first + sum_by record_size saves ≡ gate + sum_by record_size (first ∷ saves) = omega (arith, sum_by-append record_size (first ∷ []) saves) in
    ap (λ (l : Bands). (first.name, record { at = gate + 6 + length first.name; size = length first.text }) ∷ l)
    (placed_push (gate + record_size first) saves save
    ∙ ap (λ n. placed (gate + record_size first) saves ++ (save.name, record { at = n + 6 + length save.name; size = length save.text }) ∷ []) place)

pub index_push : (saves : List Save) (save : Save) → index (saves ++ save ∷ []) ≡ put_name save.name (record { at = gate_behind saves + 6 + length save.name; size = length save.text }) (index saves)
index_push saves save =
    ap last_of (placed_push first_gate saves save)
    ∙ fold_push (λ bands entry. put_name entry.0 entry.1 bands) [] (placed first_gate saves) (save.name, record { at = gate_behind saves + 6 + length save.name; size = length save.text })

-- names in order remain in order after `put_name`
pub ordered_put : {X : Type 0} (name : List ℕ) (value : X) (bands : List (List ℕ × X)) → is_ordered bands ≡ true → is_ordered (put_name name value bands) ≡ true
ordered_put name value bands ordered = is_true (is_ordered (put_name name value bands)) (is_sorted-put name_order nat_list_cmp_total name value bands (subst T (sym ordered) tt))
  where
    is_true : (b : Bool) → T b → b ≡ true
    is_true true t = refl
    is_true false t = absurd t

-- at most one more name
longer_by : (o : Ordering) (a b c : Bands) (n : ℕ) → length a ≤ n → length b ≤ n → length c ≤ n → length (by_order o a b c) ≤ n
longer_by Less a b c n p q r = p
longer_by Equal a b c n p q r = q
longer_by Greater a b c n p q r = r

pub length-put : (name : List ℕ) (value : Extent) (bands : Bands) → length (put_name name value bands) ≤ length bands + 1
length-put name value [] = omega arith
length-put name value (band ∷ bands) =
    longer_by (name_order name band.0) ((name, value) ∷ band ∷ bands) ((band.0, value) ∷ bands) (band ∷ put_name name value bands) (length (band ∷ bands) + 1) (omega arith) (omega arith) (omega (arith, length-put name value bands))

ordered_from : {X : Type 0} (entries bands : List (List ℕ × X)) → is_ordered bands ≡ true → is_ordered (fold (λ all (entry : List ℕ × X). put_name entry.0 entry.1 all) bands entries) ≡ true
ordered_from [] bands ordered = ordered
ordered_from (entry ∷ entries) bands ordered = ordered_from entries (put_name entry.0 entry.1 bands) (ordered_put entry.0 entry.1 bands ordered)

-- names with their last values are in order
pub ordered_last : {X : Type 0} (entries : List (List ℕ × X)) → is_ordered (last_of entries) ≡ true
ordered_last entries = ordered_from entries [] refl

pub ordered_index : (saves : List Save) → is_ordered (index saves) ≡ true
ordered_index saves = ordered_last (placed first_gate saves)

-- Positions

length-records : (saves : List Save) → length (records saves) ≡ sum_by record_size saves
length-records [] = refl
length-records (save ∷ saves) =
    omega (arith, length-append (1 ∷ record_of save) (records saves), length-record_of save, length-records saves, sum_by-append record_size (save ∷ []) saves)

pub front_long : (saves : List Save) → length (header ++ records saves) ≡ gate_behind saves
front_long saves = omega (arith, length-append header (records saves), length-records saves)

-- what lies from the gate after the records on
pub drop_to_gate : (saves : List Save) (tail bytes : List ℕ) → bytes ≡ header ++ (records saves ++ tail) → drop (gate_behind saves) bytes ≡ tail
drop_to_gate saves tail bytes is = ap (drop (gate_behind saves)) (is ∙ sym (append_assoc header (records saves) tail)) ∙ drop_at (header ++ records saves) tail (gate_behind saves) (front_long saves)

-- what lies before that gate
pub take_to_gate : (saves : List Save) (tail bytes : List ℕ) → bytes ≡ header ++ (records saves ++ tail) → take (gate_behind saves) bytes ≡ header ++ records saves
take_to_gate saves tail bytes is = ap (take (gate_behind saves)) (is ∙ sym (append_assoc header (records saves) tail)) ∙ take_at (header ++ records saves) tail (gate_behind saves) (front_long saves)

pub size_with : (saves : List Save) (tail bytes : List ℕ) → bytes ≡ header ++ (records saves ++ tail) → length bytes ≡ gate_behind saves + length tail
size_with saves tail bytes is = ap length is ∙ omega (arith, length-append header (records saves ++ tail), length-append (records saves) tail, length-records saves)

-- How far the records were read

-- the records of these saves precede the gate, the names so far are theirs, and at least one byte follows
pub record IsWalked (bytes : List ℕ) (bands : Bands) (gate : ℕ) : Type 0 where
  pub saves : List Save
  pub good : AllByRecursion IsSave saves
  pub tail : List ℕ
  pub some : 0 < length tail
  pub is : bytes ≡ header ++ (records saves ++ tail)
  pub at : gate ≡ gate_behind saves
  pub names : bands ≡ index saves

pub walk_first : (bytes : List ℕ) (bands : Bands) → HasHeader bytes → bands ≡ [] → IsWalked bytes bands 8
walk_first bytes bands has none = record {
  saves = [];
  good = tt;
  tail = drop 8 bytes;
  some = omega (arith, length-drop 8 bytes, has.0);
  is = sym (take-append-drop 8 bytes) ∙ ap (λ (l : List ℕ). l ++ drop 8 bytes) has.1;
  at = refl;
  names = none;
}

module _ (bytes : List ℕ) (bands : Bands) (gate : ℕ) (walked : IsWalked bytes bands gate) where
  pub walk_within : gate < length bytes
  walk_within = omega (arith, walked.some, walked.at, size_with walked.saves walked.tail bytes walked.is)

  pub walk_ordered : is_ordered bands ≡ true
  walk_ordered = ap is_ordered walked.names ∙ ordered_index walked.saves

  behind : drop gate bytes ≡ walked.tail
  behind = ap (λ n. drop n bytes) walked.at ∙ drop_to_gate walked.saves walked.tail bytes walked.is

  -- one more record
  pub walk_more : (next : Bands) (name : List ℕ) (size at : ℕ) → IsRecordAt name size (drop gate bytes) → at ≡ gate + 6 + length name → next ≡ put_name name (record { at = at; size = size }) bands → IsWalked bytes next (at + size)
  walk_more next name size at is_record is_at puts = record {
    saves = walked.saves ++ save ∷ [];
    good = good_push walked.saves save walked.good is_record.good;
    tail = is_record.gate ∷ is_record.behind;
    some = omega arith;
    is = walked.is ∙ ap (λ (l : List ℕ). header ++ (records walked.saves ++ l)) (sym behind ∙ is_record.is) ∙ ap (λ (l : List ℕ). header ++ l) (sym (records_push walked.saves save (is_record.gate ∷ is_record.behind)));
    at = place ∙ sym (gate_push walked.saves save);
    names = puts ∙ ap (λ (b : Bands). put_name name (record { at = at; size = size }) b) walked.names ∙ same_put ∙ sym (index_push walked.saves save);
  }
    where
      save : Save
      save = is_record.save

      place : at + size ≡ gate_behind walked.saves + record_size is_record.save
      place = omega (arith, walked.at, is_at, ap length is_record.named, is_record.sized)

      where_at : at ≡ gate_behind walked.saves + 6 + length is_record.save.name
      where_at = omega (arith, walked.at, is_at, ap length is_record.named)

      same_put : put_name name (record { at = at; size = size }) (index walked.saves) ≡ put_name is_record.save.name (record { at = gate_behind walked.saves + 6 + length is_record.save.name; size = length is_record.save.text }) (index walked.saves)
      same_put i = put_name (sym is_record.named i) (record { at = where_at i; size = sym is_record.sized i }) (index walked.saves)

  -- a record ends within the bytes
  pub walk_fits : (name : List ℕ) (size : ℕ) → IsRecordAt name size (drop gate bytes) → gate + 6 + length name + size < length bytes
  walk_fits name size is_record =
      omega (
        arith,
        size_with walked.saves walked.tail bytes walked.is,
        walked.at,
        ap length (sym behind ∙ is_record.is),
        length-append (record_of is_record.save) (is_record.gate ∷ is_record.behind),
        length-record_of is_record.save,
        ap length is_record.named,
        is_record.sized,
      )

  -- a gate that is shut ends the records
  pub walk_shut : IsGate (drop gate bytes) Shut → (saves : List Save) × Holds saves bytes × (bands ≡ index saves) × (gate ≡ gate_behind saves)
  walk_shut shut = (
    walked.saves,
    record {
      good = walked.good;
      gate = shut.0;
      shut = shut.2;
      behind = shut.1;
      is = walked.is ∙ ap (λ (l : List ℕ). header ++ (records walked.saves ++ l)) (sym behind ∙ shut.3);
    },
    walked.names,
    walked.at,
  )

  -- an open gate that no record follows is damage
  pub walk_broken : IsGate (drop gate bytes) Broken → IsDamaged gate bytes
  walk_broken broken = record {
    saves = walked.saves;
    good = walked.good;
    gate = walked.at;
    behind = broken.0;
    is = walked.is ∙ ap (λ (l : List ℕ). header ++ (records walked.saves ++ l)) (sym behind ∙ broken.1);
    none = broken.2;
  }

-- what was found at the gate is there on the unchanged bytes
pub found_at : (gate : ℕ) (bytes now : List ℕ) (found is : HeaderState) → now ≡ bytes → IsGate (drop gate now) found → found ≡ is → IsGate (drop gate bytes) is
found_at gate bytes now found is same here e = subst (IsGate (drop gate bytes)) e (subst (λ (b : List ℕ). IsGate (drop gate b) found) same here)
