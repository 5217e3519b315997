-- The place at which a text is cut, and its last byte.
use Rattle.std.proofs.Common.{◌≡◌, ℕ, ◌-◌, ◌<◌, List, [], ◌∷◌, ◌++◌, length, Bool, true, false, Some, refl, arith, length-append}
use Rattle.std.specs.Prelude.{nat_lt, not, position, slice_index}
use Rattle.std.specs.List.{list_all, position_or_len}
use Rattle.std.proofs.lemmas.Bool.Decides.{nat_tests}
use Rattle.std.proofs.lemmas.List.{get_or_at, get_or_append_left}
use Rattle.std.proofs.lemmas.List.Sums.{AllPass-from_list_all}
use Rattle.world_text.proofs.reading_laws.Rows.{both}

-- none of these bytes passes the test
abbrev pub NonePass : (ℕ → Bool) → List ℕ → Type 0
NonePass test bytes = list_all (λ byte. not (test byte)) bytes ≡ true

-- the first byte that passes
pub first_place : (test : ℕ → Bool) (front : List ℕ) (byte : ℕ) (rest : List ℕ) → NonePass test front → test byte ≡ true → position_or_len test (front ++ byte ∷ rest) ≡ length front
first_place test [] byte rest none is = rw is refl
first_place test (one ∷ front) byte rest none is =
    let b = both (not (test one)) (list_all (λ byte. not (test byte)) front) none in
    rw (b.0, first_place test front byte rest b.1 is) (omega arith)

pub first_found : (test : ℕ → Bool) (front : List ℕ) (byte : ℕ) (rest : List ℕ) → NonePass test front → test byte ≡ true → position test (front ++ byte ∷ rest) ≡ Some (length front)
first_found test front byte rest none is =
    let within : nat_lt (length front) (length (front ++ byte ∷ rest)) ≡ true = grind (arith, nat_tests, length-append front (byte ∷ rest)) in
    rw (first_place test front byte rest none is, within) refl

-- a byte more at the end
pub size_before : (front : List ℕ) (last : ℕ) → length (front ++ last ∷ []) - 1 ≡ length front
size_before front last = omega (arith, length-append front (last ∷ []))

pub byte_at : (front : List ℕ) (byte : ℕ) (rest : List ℕ) → slice_index (front ++ byte ∷ rest) (length front) ≡ byte
byte_at front byte rest = get_or_at front byte rest 0 (length front) refl

pub first_byte : (text rest : List ℕ) → 0 < length text → slice_index (text ++ rest) 0 ≡ slice_index text 0
first_byte text rest some = get_or_append_left text rest 0 0 some

-- the last byte passes if all do
pub last_passes : (test : ℕ → Bool) (text : List ℕ) → 0 < length text → list_all test text ≡ true → test (slice_index text (length text - 1)) ≡ true
last_passes test text some good = AllPass-from_list_all test text good (length text - 1) 0 (omega arith)

-- what each byte passes implies what it fails
pub none_from : (good test : ℕ → Bool) → ((byte : ℕ) → good byte ≡ true → test byte ≡ false) → (bytes : List ℕ) → list_all good bytes ≡ true → NonePass test bytes
none_from good test fails [] all = refl
none_from good test fails (byte ∷ bytes) all =
    let b = both (good byte) (list_all good bytes) all in
    rw (fails byte b.0, none_from good test fails bytes b.1) refl
