-- The bytes of one record.
use Rattle.std.proofs.Common.{◌≡◌, inl, inr, Bool, Some, None, if◌then◌else◌, ℕ, ◌+◌, ◌-◌, ◌^◌, ◌<◌, ◌≤◌, min, true, false, List, [], ◌∷◌, ◌++◌, length, get_or, take, drop, refl, sym, ◌∙◌, ap, subst, arith, append_assoc, length-append, take-append-drop}
use Rattle.std.proofs.lemmas.List.{take_at, drop_at, drop_more, take_rest, get_or-take, get_or-drop, get_or_past, length-take, length-take-le, length-drop}
use Rattle.std.proofs.lemmas.Bool.{cases_lt}
use Rattle.std.proofs.lemmas.Bool.Decides.{nat_tests}
use Rattle.std.proofs.lemmas.Nat.{be_bytes_4}
use Rattle.byteorder.specs.Endian.{big_bytes, big_number}
use Rattle.byteorder.specs.Numbers.{big_number-reads_back}
use Rattle.lisp_graph.specs.Name.{is_name}
use Rattle.band_store.specs.Format.{HasNoRecord, IsSave, Save, record_of}
use Rattle.band_store.specs.declared.format.HeaderState.TheVariants.{Shut, Broken}
use Rattle.band_store.specs.Gates.{HasNoHead, IsGate, IsHead, IsRecordAt}

-- a name has at most 16 bytes
pub name_le : (name : List ℕ) → is_name name ≡ true → length name ≤ 16
name_le name named = grind (arith, nat_tests)

-- four bytes of a number
pub length-big_bytes : (x : ℕ) → length (big_bytes 4 x) ≡ 4
length-big_bytes x = refl

pub length-record_of : (save : Save) → length (record_of save) ≡ 5 + length save.name + length save.text
length-record_of save =
    omega (arith, length-append save.name (big_bytes 4 (length save.text) ++ save.text), length-append (big_bytes 4 (length save.text)) save.text, length-big_bytes (length save.text))

-- reading them returns the number
pub read_back : (x : ℕ) (rest : List ℕ) → x < 2 ^ 32 → big_number 4 (big_bytes 4 x ++ rest) ≡ x
read_back x rest fits = big_number-reads_back 4 x rest fits

-- all elements are bytes
abbrev pub AreBytes : List ℕ → Type 0
AreBytes xs = (i : ℕ) → get_or xs i 0 < 256

bytes_take : (xs : List ℕ) (n : ℕ) → AreBytes xs → AreBytes (take n xs)
bytes_take xs n small i = elim (cases_lt i n) [
  | inl within ↦ rw (get_or-take n xs i 0 within) (small i)
  | inr past ↦ let none : get_or (take n xs) i 0 ≡ 0 = get_or_past (take n xs) i 0 (omega (arith, length-take n xs)) in omega (arith, none)
]

bytes_drop : (xs : List ℕ) (n : ℕ) → AreBytes xs → AreBytes (drop n xs)
bytes_drop xs n small i = rw (get_or-drop n xs i 0) (small (n + i))

-- four bytes are those of the number that they read as
pub bytes_back : (bytes : List ℕ) → length bytes ≡ 4 → ((i : ℕ) → get_or bytes i 0 < 256) → big_bytes 4 (big_number 4 bytes) ≡ bytes
bytes_back bytes long small = be_bytes_4 bytes (big_number 4 bytes) long small (omega arith)

-- equal lists, split after fronts of equal length, have equal fronts and equal rests
pub same_parts : (xs xs' ys ys' : List ℕ) → length xs ≡ length xs' → xs ++ ys ≡ xs' ++ ys' → (xs ≡ xs') × (ys ≡ ys')
same_parts xs xs' ys ys' long e = (
  sym (take_at xs ys (length xs) refl) ∙ ap (take (length xs)) e ∙ take_at xs' ys' (length xs) (sym long),
  sym (drop_at xs ys (length xs) refl) ∙ ap (drop (length xs)) e ∙ drop_at xs' ys' (length xs) (sym long),
)

-- if two lists are equal, so are their first bytes and their rests
pub same_first : (x y : ℕ) (xs ys : List ℕ) → x ∷ xs ≡ y ∷ ys → (x ≡ y) × (xs ≡ ys)
same_first x y xs ys e = (cc, cc)

-- bytes have at most one head
pub one_head : (name name' : List ℕ) (size size' : ℕ) (bytes : List ℕ) → IsHead name size bytes → IsHead name' size' bytes → (name ≡ name') × (size ≡ size')
one_head name name' size size' bytes a b =
    let first = same_first _ _ _ _ (sym a.is ∙ b.is) in
    let second = same_parts name name' _ _ first.0 first.1 in
    let third = same_parts (big_bytes 4 size) (big_bytes 4 size') a.behind b.behind refl second.1 in
    (second.0, sym (read_back size a.behind (omega (arith, a.short))) ∙ ap (big_number 4) (ap (λ (l : List ℕ). l ++ a.behind) third.0) ∙ read_back' size' a.behind b.short)
  where
    read_back' : (x : ℕ) (rest : List ℕ) → x ≤ 1048576 → big_number 4 (big_bytes 4 x ++ rest) ≡ x
    read_back' x rest short = read_back x rest (omega arith)

-- what was read as a head is one
pub head_is : (bytes behind_len word behind : List ℕ) (len size : ℕ) → bytes ≡ len ∷ behind_len → word ≡ take len behind_len → behind ≡ drop len behind_len → len + 4 ≤ length behind_len → is_name word ≡ true
    → size ≡ big_number 4 behind → size ≤ 1048576 → AreBytes behind_len → IsHead word size bytes
head_is bytes behind_len word behind len size is is_word is_behind fits named reads short small =
    let long : length word ≡ len = ap length is_word ∙ length-take-le len behind_len (omega arith) in
    let left : length behind ≡ length behind_len - len = ap length is_behind ∙ length-drop len behind_len in
    let number : big_number 4 (take 4 behind) ≡ size = first_four behind (omega arith) ∙ sym reads in
    let four : big_bytes 4 size ≡ take 4 behind = ap (big_bytes 4) (sym number) ∙ bytes_back (take 4 behind) (length-take-le 4 behind (omega arith)) (bytes_take behind 4 (subst AreBytes (sym is_behind) (bytes_drop behind_len len small))) in
    record {
      named = named;
      short = short;
      behind = drop 4 behind;
      is = is ∙ ap (λ (l : List ℕ). len ∷ l) (sym (take-append-drop len behind_len) ∙ ap (λ (l : List ℕ). l ++ drop len behind_len) (sym is_word) ∙ ap (λ (l : List ℕ). word ++ l) (sym is_behind ∙ sym (take-append-drop 4 behind) ∙ ap (λ (l : List ℕ). l ++ drop 4 behind) (sym four)))
          ∙ ap (λ (n : ℕ). n ∷ (word ++ (big_bytes 4 size ++ drop 4 behind))) (sym long);
    }
  where
    first_four : (xs : List ℕ) → 4 ≤ length xs → big_number 4 (take 4 xs) ≡ big_number 4 xs
    first_four (a ∷ b ∷ c ∷ d ∷ xs) le = refl
    first_four [] le = absurd (omega arith)
    first_four (a ∷ []) le = absurd (omega arith)
    first_four (a ∷ b ∷ []) le = absurd (omega arith)
    first_four (a ∷ b ∷ c ∷ []) le = absurd (omega arith)

-- the first byte, and the others
first_and_rest : (bytes : List ℕ) → 0 < length bytes → bytes ≡ get_or bytes 0 0 ∷ take (length bytes - 1) (drop 1 bytes)
first_and_rest bytes some = drop_more bytes 0 0 some ∙ ap (λ (l : List ℕ). get_or bytes 0 0 ∷ l) (sym (take_rest bytes 1))

-- what `Name::read` returned
pub name_read : (b : Bool) (name word : List ℕ) → Some name ≡ (if b then Some word else None) → (b ≡ true) × (name ≡ word)
name_read true name word e = (refl, cc)
name_read false name word e = absurd cc

-- the same for the parts of a slice
pub head_read : (bytes word behind name : List ℕ) (size : ℕ) → 0 < length bytes → word ≡ take (get_or bytes 0 0) (take (length bytes - 1) (drop 1 bytes)) → behind ≡ drop (get_or bytes 0 0) (take (length bytes - 1) (drop 1 bytes))
    → get_or bytes 0 0 + 4 ≤ length (take (length bytes - 1) (drop 1 bytes)) → Some name ≡ (if is_name word then Some word else None) → size ≡ big_number 4 behind → size ≤ 1048576 → AreBytes bytes → IsHead name size bytes
head_read bytes word behind name size some is_word is_behind fits named reads short small =
    let read = name_read (is_name word) name word named in
    subst (λ (n : List ℕ). IsHead n size bytes) (sym read.1)
    (head_is bytes (take (length bytes - 1) (drop 1 bytes)) word behind (get_or bytes 0 0) size (first_and_rest bytes some) is_word is_behind fits read.0 reads short (bytes_take (drop 1 bytes) (length bytes - 1) (bytes_drop bytes 1 small)))

-- a record's head
pub head_of_record : (save : Save) (behind bytes : List ℕ) → IsSave save → bytes ≡ record_of save ++ behind → IsHead save.name (length save.text) bytes
head_of_record save behind bytes good is = record {
  named = good.name;
  short = good.text;
  behind = save.text ++ behind;
  is = is ∙ ap (λ (l : List ℕ). length save.name ∷ l) (append_assoc save.name (big_bytes 4 (length save.text) ++ save.text) behind ∙ ap (λ (l : List ℕ). save.name ++ l) (append_assoc (big_bytes 4 (length save.text)) save.text behind));
}

-- a prefix of the bytes that is long enough has the head
pub head_of_front : (name : List ℕ) (size : ℕ) (front rest : List ℕ) → IsHead name size (front ++ rest) → 5 + length name ≤ length front → IsHead name size front
head_of_front name size front rest head long =
    let head_bytes = length name ∷ (name ++ big_bytes 4 size) in
    let head_long : length head_bytes ≡ 5 + length name = omega (arith, length-append name (big_bytes 4 size), length-big_bytes size) in
    let whole : front ++ rest ≡ head_bytes ++ head.behind = head.is ∙ ap (λ (l : List ℕ). length name ∷ l) (sym (append_assoc name (big_bytes 4 size) head.behind)) in
    let n = length head_bytes in
    let split : take n front ++ (drop n front ++ rest) ≡ head_bytes ++ head.behind = sym (append_assoc (take n front) (drop n front) rest) ∙ ap (λ (l : List ℕ). l ++ rest) (take-append-drop n front) ∙ whole in
    let parts = same_parts (take n front) head_bytes (drop n front ++ rest) head.behind (length-take-le n front (omega (arith, head_long))) split in
    record {
      named = head.named;
      short = head.short;
      behind = drop n front;
      is = sym (take-append-drop n front) ∙ ap (λ (l : List ℕ). l ++ drop n front) parts.0 ∙ ap (λ (l : List ℕ). length name ∷ l) (append_assoc name (big_bytes 4 size) (drop n front));
    }

-- a head that is followed by enough bytes is that of a record with a gate
pub record_of_head : (name : List ℕ) (size : ℕ) (bytes : List ℕ) → IsHead name size bytes → 6 + length name + size ≤ length bytes → IsRecordAt name size (1 ∷ bytes)
record_of_head name size bytes head long =
    let after = head.behind in
    let enough : size + 1 ≤ length after = omega (arith, ap length head.is, length-append name (big_bytes 4 size ++ after), length-append (big_bytes 4 size) after, length-big_bytes size) in
    let text = take size after in
    let text_long : length text ≡ size = length-take-le size after (omega arith) in
    let gate = first_of (drop size after) (omega (arith, length-drop size after)) in
    record {
      save = record { name = name; text = text };
      good = record { name = head.named; text = omega (arith, head.short) };
      named = refl;
      sized = text_long;
      gate = gate.0;
      behind = gate.1;
      is = ap (λ (l : List ℕ). 1 ∷ l) (head.is ∙ ap (λ (l : List ℕ). length name ∷ l) (ap (λ (n : ℕ). name ++ (big_bytes 4 n ++ after)) (sym text_long)
          ∙ ap (λ (l : List ℕ). name ++ (big_bytes 4 (length text) ++ l)) (sym (take-append-drop size after) ∙ ap (λ (l : List ℕ). text ++ l) gate.2)
          ∙ ap (λ (l : List ℕ). name ++ l) (sym (append_assoc (big_bytes 4 (length text)) text (gate.0 ∷ gate.1)))
          ∙ sym (append_assoc name (big_bytes 4 (length text) ++ text) (gate.0 ∷ gate.1))));
    }
  where
    first_of : (xs : List ℕ) → 0 < length xs → (x : ℕ) × (rest : List ℕ) × (xs ≡ x ∷ rest)
    first_of [] some = absurd (omega arith)
    first_of (x ∷ xs) some = (x, xs, refl)

-- bytes that are too few, or don't begin with a head, don't begin with a record
pub no_record : (front rest : List ℕ) → length front ≡ min 21 (length front + length rest) → HasNoHead front → HasNoRecord (front ++ rest)
no_record front rest enough none save gate behind good is =
    let head = head_of_record save (gate ∷ behind) (front ++ rest) good is in
    let size = ap length is in
    let name_short : length save.name ≤ 16 = name_le save.name good.name in
    none save.name (length save.text) (head_of_front save.name (length save.text) front rest head (omega (arith, size, length-append front rest, length-append (record_of save) (gate ∷ behind), length-record_of save, name_short)))

-- more bytes after a head
pub longer_head : (name : List ℕ) (size : ℕ) (front rest : List ℕ) → IsHead name size front → IsHead name size (front ++ rest)
longer_head name size front rest head = record {
  named = head.named;
  short = head.short;
  behind = head.behind ++ rest;
  is = ap (λ (l : List ℕ). l ++ rest) head.is ∙ ap (λ (l : List ℕ). length name ∷ l) (append_assoc name (big_bytes 4 size ++ head.behind) rest ∙ ap (λ (l : List ℕ). name ++ l) (append_assoc (big_bytes 4 size) head.behind rest));
}

-- nor do bytes that are too few for the record of their head
pub too_long : (name : List ℕ) (size : ℕ) (front rest : List ℕ) → IsHead name size front → length front + length rest < 6 + length name + size → HasNoRecord (front ++ rest)
too_long name size front rest head short save gate behind good is =
    let same = one_head save.name name (length save.text) size (front ++ rest) (head_of_record save (gate ∷ behind) (front ++ rest) good is) (longer_head name size front rest head) in
    omega (arith, ap length is, length-append front rest, length-append (record_of save) (gate ∷ behind), length-record_of save, ap length same.0, same.1)

-- Gates

module _ (bytes rest : List ℕ) (left : ℕ) (some : 0 < length bytes) (front : length bytes ≡ min 22 left) (all : length bytes + length rest ≡ left) where
  -- the bytes after the gate
  abbrev behind : List ℕ
  behind = take (length bytes - 1) (drop 1 bytes)

  behind_long : length behind ≡ length bytes - 1
  behind_long = omega (arith, ap length (first_and_rest bytes some))

  split : bytes ++ rest ≡ get_or bytes 0 0 ∷ (behind ++ rest)
  split = ap (λ (l : List ℕ). l ++ rest) (first_and_rest bytes some)

  pub shut_gate : (get_or bytes 0 0 ≡ 1 → ⊥) → IsGate (bytes ++ rest) Shut
  shut_gate shut = (get_or bytes 0 0, behind ++ rest, shut, split)

  module _ (is_open : get_or bytes 0 0 ≡ 1) where
    split_open : bytes ++ rest ≡ 1 ∷ (behind ++ rest)
    split_open = split ∙ ap (λ (g : ℕ). g ∷ (behind ++ rest)) is_open

    pub no_head_gate : HasNoHead behind → IsGate (bytes ++ rest) Broken
    no_head_gate none = (behind ++ rest, split_open, no_record behind rest (omega (arith, behind_long)) none)

    pub long_gate : (name : List ℕ) (size : ℕ) → IsHead name size behind → left < 7 + length name + size → IsGate (bytes ++ rest) Broken
    long_gate name size head long = (behind ++ rest, split_open, too_long name size behind rest head (omega (arith, behind_long)))

    pub record_gate : (name : List ℕ) (size : ℕ) → IsHead name size behind → 7 + length name + size ≤ left → IsRecordAt name size (bytes ++ rest)
    record_gate name size head fits =
        subst (IsRecordAt name size) (sym split_open) (record_of_head name size (behind ++ rest) (longer_head name size behind rest head) (omega (arith, length-append behind rest, behind_long)))
