-- The spellings of values, registers, areas, names and kinds.
use Rattle.std.proofs.Common.{◌≡◌, ℕ, suc, ◌-◌, ◌<◌, ◌≤◌, ◌^◌, ◌⊎◌, ℤ, pos, negsuc, List, [], ◌∷◌, length, drop, get_or, Bool, true, false, Option, Some, None, Result, Ok, Err, inl, inr, refl, ap, sym, ◌∙◌, arith, subst, decimal, codes}
use Rattle.std.specs.Prelude.{◌==◌, ◌&&◌, ◌||◌, not, nat_lt, if◌then◌else◌, bytes_eq, slice_index, slice_get, is_some, ⊤}
use Rattle.std.specs.Fmt.{signed_decimal}
use Rattle.std.specs.List.{list_all}
use Rattle.std.specs.Option.{option_and_then, option_map_or}
use Rattle.std.proofs.lemmas.List.Quantifiers.{position-Some}
use Rattle.std.proofs.lemmas.Option.{slice_get-get_or}
use Rattle.std.proofs.lemmas.Bool.Decides.{nat_tests}
use Rattle.std.proofs.lemmas.Fmt.{decimal_nonempty}
use Rattle.std.proofs.lemmas.Slice.Eq.{bytes_eq-Decides}
use Rattle.lisp_graph.specs.Name.{is_letter, is_name, is_name_byte}
use Rattle.lisp_graph.specs.declared.object.Value.{Value}
use Rattle.lisp_graph.specs.declared.object.Value.TheVariants.{Fix, Nil, Ref}
use Rattle.lisp_graph.specs.declared.world.AreaRule.{AreaRule}
use Rattle.lisp_graph.specs.declared.world.AreaKind.{AreaKind}
use Rattle.lisp_graph.specs.declared.world.AreaKind.TheVariants.{Static, Dynamic, Ephemeral}
use Rattle.world_text.specs.declared.reading.reason.Reason.{Reason}
use Rattle.world_text.specs.declared.reading.reason.Reason.TheVariants.{AreaTwice, BadKind, BadName, BadValue, NoRegister, NoArea}
use Rattle.world_text.specs.reading.Words.{is_graphic, is_word}
use Rattle.world_text.specs.reading.Numbers.{area_of, integer_of, number_in, register_of, value_of}
use Rattle.world_text.specs.reading.Next.{a_register, a_value, an_area, found}
use Rattle.world_text.specs.reading.Header.{a_kind, new_name}
use Rattle.world_text.specs.writing.Spelling.{IsWritten, kind_text, name_of, value_text}
use Rattle.world_text.specs.reading.Limits.{AreNamed}
use Rattle.world_text.proofs.reading_laws.WordReaders.{Spells}
use Rattle.world_text.proofs.reading_laws.Rows.{both}
use Rattle.world_text.proofs.reading_laws.NumberLaws.{decimal_digits, decimal_first, decimal_word, found_is, number_only, number_reads}

-- Tests of bytes

pub same_bytes : (xs ys : List ℕ) → bytes_eq xs ys ≡ true → xs ≡ ys
same_bytes xs ys is = (bytes_eq-Decides xs ys).0 is

pub eq_bytes : (xs : List ℕ) → bytes_eq xs xs ≡ true
eq_bytes xs = (bytes_eq-Decides xs xs).1 refl

pub other_bytes : (xs ys : List ℕ) → (xs ≡ ys → ⊥) → bytes_eq xs ys ≡ false
other_bytes xs ys other = other_at (bytes_eq xs ys) refl
  where
    other_at : (b : Bool) → bytes_eq xs ys ≡ b → bytes_eq xs ys ≡ false
    other_at true is = absurd (other (same_bytes xs ys is))
    other_at false is = is

-- Registers

below_some : (registers n : ℕ) → n < registers → (if nat_lt n registers then Some n else None) ≡ Some n
below_some registers n within = let e : nat_lt n registers ≡ true = grind (arith, nat_tests) in rw e refl

below_parts : (registers m n : ℕ) → (if nat_lt m registers then Some m else None) ≡ Some n → (m < registers) × (m ≡ n)
below_parts registers m n is = parts_at (nat_lt m registers) refl is
  where
    parts_at : (b : Bool) → nat_lt m registers ≡ b → (if b then Some m else None) ≡ Some n → (m < registers) × (m ≡ n)
    parts_at true below so = (grind (arith, nat_tests, below), cc)
    parts_at false below so = absurd (cc (so))

then_parts : {A B : Type 0} (option : Option A) (f : A → Option B) (y : B) → option_and_then f option ≡ Some y → (x : A) × (option ≡ Some x) × (f x ≡ Some y)
then_parts None f y is = absurd (cc (is))
then_parts (Some x) f y is = (x, refl, is)

register_reads : (registers n : ℕ) → registers ≤ 2 ^ 32 → n < registers → register_of registers (decimal n) ≡ Some n
register_reads registers n small within = rw (number_reads 0 (2 ^ 32 - 1) n (omega arith) (omega arith) (omega arith)) (below_some registers n within)

pub registers_spell : (registers : ℕ) → registers ≤ 2 ^ 32 → Spells (a_register registers) (λ n. n < registers) decimal
registers_spell registers small = record {
  accepts = λ n within. ap (found NoRegister) (register_reads registers n small within);
  only = λ word n is.
      let parts = then_parts (number_in 0 (2 ^ 32 - 1) word) (λ number. if nat_lt number registers then Some number else None) n (found_is NoRegister (register_of registers word) n is) in
      let below = below_parts registers parts.0 n parts.2 in
      let o = number_only 0 (2 ^ 32 - 1) parts.0 word (omega arith) parts.1 in
      (o.0 ∙ ap decimal below.1, omega (arith, below.0, below.1));
  words = λ n within. decimal_word n (omega arith);
}

-- Kinds

kind_reads : (kind : AreaKind) → a_kind (kind_text kind) ≡ Ok kind
kind_reads Static = refl
kind_reads Dynamic = refl
kind_reads Ephemeral = refl

kind_word : (kind : AreaKind) → is_word (kind_text kind) ≡ true
kind_word Static = refl
kind_word Dynamic = refl
kind_word Ephemeral = refl

kind_only : (word : List ℕ) (kind : AreaKind) → a_kind word ≡ Ok kind → word ≡ kind_text kind
kind_only word kind is = only_at (bytes_eq word (codes "static")) (bytes_eq word (codes "dynamic")) (bytes_eq word (codes "ephemeral")) refl refl refl is
  where
    only_at : (a b c : Bool) → bytes_eq word (codes "static") ≡ a → bytes_eq word (codes "dynamic") ≡ b → bytes_eq word (codes "ephemeral") ≡ c
        → ◌≡◌ {A = Result AreaKind Reason} (if a then Ok Static else if b then Ok Dynamic else if c then Ok Ephemeral else Err BadKind) (Ok kind) → word ≡ kind_text kind
    only_at true b c x y z so = let e : Static ≡ kind = cc in same_bytes word (codes "static") x ∙ ap kind_text e
    only_at false true c x y z so = let e : Dynamic ≡ kind = cc in same_bytes word (codes "dynamic") y ∙ ap kind_text e
    only_at false false true x y z so = let e : Ephemeral ≡ kind = cc in same_bytes word (codes "ephemeral") z ∙ ap kind_text e
    only_at false false false x y z so = absurd (cc (so))

pub kinds_spell : Spells a_kind (λ kind. ⊤) kind_text
kinds_spell = record {
  accepts = λ kind fits. kind_reads kind;
  only = λ word kind is. (kind_only word kind is, tt);
  words = λ kind fits. kind_word kind;
}

-- Integers

some_length : (byte : ℕ) (bytes : List ℕ) → (length (byte ∷ bytes) == 0) ≡ false
some_length byte bytes = grind (arith, nat_tests)

decimal_some : (n : ℕ) → n < 2 ^ 64 → (length (decimal n) == 0) ≡ false
decimal_some n fits = let some = decimal_nonempty n fits in grind (arith, nat_tests)

-- the first byte of a number isn't this one
first_other : (n byte : ℕ) → n < 2 ^ 64 → (byte < 48) ⊎ (57 < byte) → (slice_index (decimal n) 0 == byte) ≡ false
first_other n byte fits other = let d = decimal_first n fits in elim other [ inl low ↦ grind (arith, nat_tests, d.0) | inr high ↦ grind (arith, nat_tests, d.1) ]

-- what is read from a word that isn't empty, by its first byte
marked : {A : Type 0} (none mark : Bool) (with without : Option A) → none ≡ false → mark ≡ true → (if none then None else if mark then with else without) ≡ with
marked none mark with without some is = rw (some, is) refl

unmarked : {A : Type 0} (none mark : Bool) (with without : Option A) → none ≡ false → mark ≡ false → (if none then None else if mark then with else without) ≡ without
unmarked none mark with without some is = rw (some, is) refl

with_size : List ℕ → Option ℤ
with_size bytes = option_and_then (λ size. Some (negsuc (size - 1))) (number_in 1 (2 ^ 31) bytes)

integer_reads : (number : ℤ) → IsWritten (Fix number) → integer_of (signed_decimal number) ≡ Some number
unfolding with_size
integer_reads (pos n) fits =
    let word : List ℕ = decimal n in
    unmarked (length word == 0) (slice_index word 0 == 45) (with_size (drop 1 word)) (option_and_then (λ size. Some (pos size)) (number_in 0 (2 ^ 31 - 1) word))
    (decimal_some n (omega arith)) (first_other n 45 (omega arith) (inl (omega arith)))
    ∙ ap (option_and_then (λ size. Some (pos size))) (number_reads 0 (2 ^ 31 - 1) n (omega arith) (omega arith) (omega arith))
integer_reads (negsuc n) fits =
    let word : List ℕ = 45 ∷ decimal (suc n) in
    let e : suc n - 1 ≡ n = omega arith in
    marked (length word == 0) (slice_index word 0 == 45) (with_size (decimal (suc n))) (option_and_then (λ size. Some (pos size)) (number_in 0 (2 ^ 31 - 1) word))
    (some_length 45 (decimal (suc n))) refl
    ∙ ap (option_and_then (λ size. Some (negsuc (size - 1)))) (number_reads 1 (2 ^ 31) (suc n) (omega arith) (omega arith) (omega arith))
    ∙ ap (λ m. Some (negsuc m)) e

minus_only : (bytes : List ℕ) (number : ℤ) → option_and_then (λ size. Some (negsuc (size - 1))) (number_in 1 (2 ^ 31) bytes) ≡ Some number
    → (45 ∷ bytes ≡ signed_decimal number) × IsWritten (Fix number)
minus_only bytes number is =
    let parts = then_parts (number_in 1 (2 ^ 31) bytes) (λ size. Some (negsuc (size - 1))) number is in
    let size : ℕ = parts.0 in
    let o = number_only 1 (2 ^ 31) size bytes (omega arith) parts.1 in
    let e : negsuc (size - 1) ≡ number = let both = parts.2 in cc in
    let again : size ≡ suc (size - 1) = omega (arith, o.1) in
    let P : ℤ → Type 0 = λ z. (45 ∷ bytes ≡ signed_decimal z) × IsWritten (Fix z) in
    subst P e (ap (λ digits. 45 ∷ digits) (o.0 ∙ ap decimal again), omega (arith, o.2))

plain_only : (word : List ℕ) (number : ℤ) → option_and_then (λ size. Some (pos size)) (number_in 0 (2 ^ 31 - 1) word) ≡ Some number
    → (word ≡ signed_decimal number) × IsWritten (Fix number)
plain_only word number is =
    let parts = then_parts (number_in 0 (2 ^ 31 - 1) word) (λ size. Some (pos size)) number is in
    let o = number_only 0 (2 ^ 31 - 1) parts.0 word (omega arith) parts.1 in
    let e : pos parts.0 ≡ number = let both = parts.2 in cc in
    let P : ℤ → Type 0 = λ z. (word ≡ signed_decimal z) × IsWritten (Fix z) in
    subst P e (o.0, omega (arith, o.2))

-- the two ways in which a word reads
either_mark : {A : Type 0} (none mark : Bool) (with without : Option A) (x : A) → (if none then None else if mark then with else without) ≡ Some x
    → ((mark ≡ true) × (with ≡ Some x)) ⊎ ((mark ≡ false) × (without ≡ Some x))
either_mark true mark with without x is = absurd (cc (is))
either_mark false true with without x is = inl (refl, is)
either_mark false false with without x is = inr (refl, is)

integer_only : (word : List ℕ) (number : ℤ) → integer_of word ≡ Some number → (word ≡ signed_decimal number) × IsWritten (Fix number)
unfolding with_size
integer_only [] number is = absurd (cc (is))
integer_only (byte ∷ bytes) number is =
    let word : List ℕ = byte ∷ bytes in
    elim (either_mark (length word == 0) (byte == 45) (with_size bytes) (option_and_then (λ size. Some (pos size)) (number_in 0 (2 ^ 31 - 1) word)) number is) [
      | inl minus ↦
          let e : byte ≡ 45 = let m = minus.0 in grind (arith, nat_tests, m) in
          let o = minus_only bytes number minus.1 in
          (ap (λ x. x ∷ bytes) e ∙ o.0, o.1)
      | inr plain ↦ plain_only word number plain.1
    ]

-- Values

not_nil : (number : ℤ) → IsWritten (Fix number) → bytes_eq (signed_decimal number) (codes "nil") ≡ false
not_nil (pos n) fits =
    let d = decimal_first n (omega arith) in
    other_bytes (decimal n) (codes "nil") (λ same. let e : get_or (decimal n) 0 0 ≡ 110 = ap (λ bytes. get_or bytes 0 0) same in omega (arith, e, d.1))
not_nil (negsuc n) fits = refl

not_marked : (number : ℤ) → IsWritten (Fix number) → (not (length (signed_decimal number) == 0) && slice_index (signed_decimal number) 0 == 35) ≡ false
not_marked (pos n) fits = rw (first_other n 35 (omega arith) (inl (omega arith)), decimal_some n (omega arith)) refl
not_marked (negsuc n) fits = rw (some_length 45 (decimal (suc n))) refl

fix_of : List ℕ → Option Value
fix_of word = option_and_then (λ number. Some (Fix number)) (integer_of word)

ref_of : List ℕ → Option Value
ref_of bytes = option_and_then (λ number. Some (Ref number)) (number_in 0 (2 ^ 32 - 1) bytes)

third : (nil mark : Bool) (with without : Option Value) → nil ≡ false → mark ≡ false → (if nil then Some Nil else if mark then with else without) ≡ without
third nil mark with without a b = rw (a, b) refl

value_reads : (value : Value) → IsWritten value → value_of (value_text value) ≡ Some value
unfolding fix_of ref_of
value_reads (Fix number) fits =
    let word : List ℕ = signed_decimal number in
    third (bytes_eq word (codes "nil")) (not (length word == 0) && slice_index word 0 == 35) (ref_of (drop 1 word)) (fix_of word) (not_nil number fits) (not_marked number fits)
    ∙ ap (option_and_then (λ i. Some (Fix i))) (integer_reads number fits)
value_reads Nil fits = refl
value_reads (Ref n) fits =
    rw (some_length 35 (decimal n)) (ap (option_and_then (λ m. Some (Ref m))) (number_reads 0 (2 ^ 32 - 1) n (omega arith) (omega arith) (omega arith)))

-- the three ways in which a word reads as a value
three_ways : (nil mark : Bool) (with without : Option Value) (value : Value) → (if nil then Some Nil else if mark then with else without) ≡ Some value
    → ((nil ≡ true) × (Nil ≡ value)) ⊎ (((mark ≡ true) × (with ≡ Some value)) ⊎ (without ≡ Some value))
three_ways true mark with without value is = inl (refl, cc)
three_ways false true with without value is = inr (inl (refl, is))
three_ways false false with without value is = inr (inr is)

nil_only : (word : List ℕ) (value : Value) → bytes_eq word (codes "nil") ≡ true → Nil ≡ value → (word ≡ value_text value) × IsWritten value
nil_only word value nil is = let P : Value → Type 0 = λ v. (word ≡ value_text v) × IsWritten v in subst P is (same_bytes word (codes "nil") nil, tt)

ref_only : (byte : ℕ) (bytes : List ℕ) (value : Value) → (byte == 35) ≡ true → ref_of bytes ≡ Some value → (byte ∷ bytes ≡ value_text value) × IsWritten value
unfolding ref_of
ref_only byte bytes value mark is =
    let e : byte ≡ 35 = grind (arith, nat_tests, mark) in
    let parts = then_parts (number_in 0 (2 ^ 32 - 1) bytes) (λ number. Some (Ref number)) value is in
    let o = number_only 0 (2 ^ 32 - 1) parts.0 bytes (omega arith) parts.1 in
    let f : Ref parts.0 ≡ value = let both = parts.2 in cc in
    let P : Value → Type 0 = λ v. (byte ∷ bytes ≡ value_text v) × IsWritten v in
    subst P f (ap (λ x. x ∷ bytes) e ∙ ap (λ digits. 35 ∷ digits) o.0, omega (arith, o.2))

fix_only : (word : List ℕ) (value : Value) → fix_of word ≡ Some value → (word ≡ value_text value) × IsWritten value
unfolding fix_of
fix_only word value is =
    let parts = then_parts (integer_of word) (λ number. Some (Fix number)) value is in
    let f : Fix parts.0 ≡ value = let both = parts.2 in cc in
    let P : Value → Type 0 = λ v. (word ≡ value_text v) × IsWritten v in
    subst P f (integer_only word parts.0 parts.1)

value_only : (word : List ℕ) (value : Value) → value_of word ≡ Some value → (word ≡ value_text value) × IsWritten value
unfolding fix_of ref_of
value_only [] value is = absurd (cc (is))
value_only (byte ∷ bytes) value is =
    let word : List ℕ = byte ∷ bytes in
    elim (three_ways (bytes_eq word (codes "nil")) (not (length word == 0) && byte == 35) (ref_of bytes) (fix_of word) value is) [
      | inl nil ↦ nil_only word value nil.0 nil.1
      | inr other ↦ elim other [
        | inl mark ↦ ref_only byte bytes value (both (not (length word == 0)) (byte == 35) mark.0).1 mark.1
        | inr fix ↦ fix_only word value fix
      ]
    ]

signed_word : (number : ℤ) → IsWritten (Fix number) → is_word (signed_decimal number) ≡ true
signed_word (pos n) fits = decimal_word n (omega arith)
signed_word (negsuc n) fits = decimal_digits (suc n) (omega arith)

value_word : (value : Value) → IsWritten value → is_word (value_text value) ≡ true
value_word (Fix number) fits = signed_word number fits
value_word Nil fits = refl
value_word (Ref n) fits = decimal_digits n (omega arith)

pub values_spell : Spells a_value IsWritten value_text
values_spell = record {
  accepts = λ value fits. ap (found BadValue) (value_reads value fits);
  only = λ word value is. value_only word value (found_is BadValue (value_of word) value is);
  words = λ value fits. value_word value fits;
}

-- Areas and names

name_at : (areas : List AreaRule) (area : ℕ) (word : List ℕ) → area_of areas word ≡ Some area → (word ≡ name_of areas area) × (area < length areas)
name_at [] area word is = absurd (cc (is))
name_at (rule ∷ rules) area word is =
    let areas : List AreaRule = rule ∷ rules in
    let p = position-Some (λ (one : AreaRule). bytes_eq one.name word) areas area rule is in
    let named : slice_get areas area ≡ Some (get_or areas area rule) = slice_get-get_or areas area rule p.0 in
    let e : name_of areas area ≡ (get_or areas area rule).name = ap (λ (o : Option AreaRule). option_map_or (λ one. one.name) o []) named in
    (sym (e ∙ same_bytes (get_or areas area rule).name word p.1), p.0)

letters_graphic : (byte : ℕ) → is_name_byte byte ≡ true → is_graphic byte ≡ true
letters_graphic byte is = grind (arith, nat_tests)

all_letters : (bytes : List ℕ) → list_all is_name_byte bytes ≡ true → list_all is_graphic bytes ≡ true
all_letters [] is = refl
all_letters (byte ∷ bytes) is =
    let b = both (is_name_byte byte) (list_all is_name_byte bytes) is in
    rw (letters_graphic byte b.0, all_letters bytes b.1) refl

name_parts : (none long letter : Bool) (all : Bool) → (if none || long then false else if letter then all else false) ≡ true → (none ≡ false) × (all ≡ true)
name_parts true long letter all is = absurd (cc (is))
name_parts false true letter all is = absurd (cc (is))
name_parts false false true all is = (refl, is)
name_parts false false false all is = absurd (cc (is))

-- a name is a word
pub name_word : (name : List ℕ) → is_name name ≡ true → is_word name ≡ true
name_word [] is = absurd (cc (is))
name_word (byte ∷ bytes) is =
    let name : List ℕ = byte ∷ bytes in
    all_letters name (name_parts (length name == 0) (nat_lt 16 (length name)) (is_letter byte) (list_all is_name_byte name) is).1

pub areas_spell : (areas : List AreaRule) → AreNamed areas → Spells (an_area areas) (λ area. area < length areas) (name_of areas)
areas_spell areas named = record {
  accepts = λ area within. ap (found NoArea) (named.found area within);
  only = λ word area is. name_at areas area word (found_is NoArea (area_of areas word) area is);
  words = λ area within. name_word (name_of areas area) (named.names area within);
}

-- a name that no area has yet
pub record IsNew (areas : List AreaRule) (name : List ℕ) : Type 0 where
  pub formed : is_name name ≡ true
  pub fresh : area_of areas name ≡ None

new_parts : (b : Bool) (other : Option ℕ) (word name : List ℕ) → ◌≡◌ {A = Result (List ℕ) Reason} (if b then (if is_some other then Err AreaTwice else Ok word) else Err BadName) (Ok name)
    → (b ≡ true) × (other ≡ None) × (word ≡ name)
new_parts true None word name is = (refl, refl, cc)
new_parts true (Some area) word name is = absurd (cc (is))
new_parts false other word name is = absurd (cc (is))

pub names_spell : (areas : List AreaRule) → Spells (new_name areas) (IsNew areas) (λ name. name)
names_spell areas = record {
  accepts = λ name new. rw (new.formed, new.fresh) refl;
  only = λ word name is.
      let p = new_parts (is_name word) (area_of areas word) word name is in
      let P : List ℕ → Type 0 = λ bytes. IsNew areas bytes in
      (p.2, subst P p.2 (record { formed = p.0; fresh = p.1 }));
  words = λ name new. name_word name new.formed;
}
