-- Keys that have numbers.
use Rattle.std.proofs.Common.{◌≡◌, ℕ, zero, suc, ◌+◌, ◌<◌, ◌⊎◌, List, [], ◌∷◌, ◌++◌, length, get_or, Bool, true, false, map, Some, inl, inr, refl, ap, sym, ◌∙◌, subst, arith, length-append}
use Rattle.std.specs.Prelude.{◌==◌, ◌||◌, if◌then◌else◌, slice_get, option_map}
use Rattle.std.proofs.lemmas.Bool.Decides.{nat_tests}
use Rattle.std.proofs.lemmas.Option.{slice_get_within}
use Rattle.trace_text.specs.world_text.Numbering.{is_numbered}
use Rattle.trace_text.proofs.world_text.reading_laws.AreaLaws.{before_or_last, get_front, get_last}
use Rattle.trace_text.proofs.world_text.writing_laws.Numbers.{number_cons, number_of}

-- Tests

same_key : (one two : ℕ) → (one == two) ≡ true → one ≡ two
same_key one two same = grind (arith, nat_tests)

pub key_same : (key : ℕ) → (key == key) ≡ true
key_same key = grind (arith, nat_tests)

or_true : (a b : Bool) → a ≡ true → (a || b) ≡ true
or_true true b is = refl
or_true false b is = absurd (cc (is))

or_more : (a b : Bool) → b ≡ true → (a || b) ≡ true
or_more true b is = refl
or_more false b is = is

or_either : (a b : Bool) → (a || b) ≡ true → (a ≡ true) ⊎ (b ≡ true)
or_either true b is = inl refl
or_either false b is = inr is

true_or_false : (b : Bool) → (b ≡ true) ⊎ (b ≡ false)
true_or_false true = inl refl
true_or_false false = inr refl

-- Longer lists

pub numbered_append : (keys more : List ℕ) (key : ℕ) → is_numbered (keys ++ more) key ≡ (is_numbered keys key || is_numbered more key)
numbered_append [] more key = refl
numbered_append (first ∷ keys) more key = ap (λ b. (key == first) || b) (numbered_append keys more key) ∙ regroup (key == first) (is_numbered keys key) (is_numbered more key)
  where
    regroup : (a b c : Bool) → (a || (b || c)) ≡ ((a || b) || c)
    regroup true b c = refl
    regroup false b c = refl

pub numbered_front : (keys more : List ℕ) (key : ℕ) → is_numbered keys key ≡ true → is_numbered (keys ++ more) key ≡ true
numbered_front keys more key is = numbered_append keys more key ∙ or_true (is_numbered keys key) (is_numbered more key) is

pub numbered_rest : (keys more : List ℕ) (key : ℕ) → is_numbered more key ≡ true → is_numbered (keys ++ more) key ≡ true
numbered_rest keys more key is = numbered_append keys more key ∙ or_more (is_numbered keys key) (is_numbered more key) is

pub numbered_first : (key : ℕ) (more : List ℕ) → is_numbered (key ∷ more) key ≡ true
numbered_first key more = or_true (key == key) (is_numbered more key) (key_same key)

pub numbered_last : (keys : List ℕ) (key : ℕ) → is_numbered (keys ++ key ∷ []) key ≡ true
numbered_last keys key = numbered_rest keys (key ∷ []) key (numbered_first key [])

-- the key with a number is one of them
pub numbered_at : (keys : List ℕ) (number key : ℕ) → slice_get keys number ≡ Some key → is_numbered keys key ≡ true
numbered_at [] number key is = absurd (cc (is))
numbered_at (first ∷ keys) zero key is = let e : first ≡ key = cc in or_true (key == first) (is_numbered keys key) (subst (λ (k : ℕ). (key == k) ≡ true) (sym e) (key_same key))
numbered_at (first ∷ keys) (suc number) key is = or_more (key == first) (is_numbered keys key) (numbered_at keys number key is)

pub numbered_tail : (first : ℕ) (keys : List ℕ) (key : ℕ) → is_numbered keys key ≡ true → is_numbered (first ∷ keys) key ≡ true
numbered_tail first keys key is = or_more (key == first) (is_numbered keys key) is

-- one of the keys has a number
pub numbered_place : (keys : List ℕ) (key : ℕ) → is_numbered keys key ≡ true → (place : ℕ) × (place < length keys) × (get_or keys place key ≡ key) × (slice_get keys place ≡ Some key)
numbered_place [] key is = absurd (cc (is))
numbered_place (first ∷ keys) key is = elim (or_either (key == first) (is_numbered keys key) is) [
  | inl same ↦ let e : first ≡ key = sym (same_key key first same) in (0, omega arith, e, ap Some e)
  | inr rest ↦ let place = numbered_place keys key rest in (suc place.0, omega (arith, place.1), place.2, place.3)
]

-- each of these keys is one of the others
abbrev pub Within : List ℕ → List ℕ → Type 0
Within keys all = (key : ℕ) → is_numbered keys key ≡ true → is_numbered all key ≡ true

pub within_front : (keys more all : List ℕ) → Within (keys ++ more) all → Within keys all
within_front keys more all within = λ key is. within key (numbered_front keys more key is)

-- Other names of keys

-- keys of the list with the same name are the same
abbrev pub AreApart : (ℕ → ℕ) → List ℕ → Type 0
AreApart name all = (one two : ℕ) → is_numbered all one ≡ true → is_numbered all two ≡ true → name one ≡ name two → one ≡ two

pub names_agree : (name : ℕ → ℕ) (all : List ℕ) (one two : ℕ) → AreApart name all → is_numbered all one ≡ true → is_numbered all two ≡ true → (name one == name two) ≡ (one == two)
names_agree name all one two apart first second = elim (true_or_false (name one == name two)) [
  | inl same ↦
      let e : one ≡ two = apart one two first second (same_key (name one) (name two) same) in
      let t : (one == two) ≡ true = grind (arith, nat_tests, e) in
      same ∙ sym t
  | inr differs ↦
      elim (true_or_false (one == two)) [
        | inl same ↦
            let e : name one ≡ name two = ap name (same_key one two same) in
            let t : (name one == name two) ≡ true = subst (λ (n : ℕ). (name one == n) ≡ true) e (key_same (name one)) in
            absurd (cc (t, differs))
        | inr others ↦ differs ∙ sym others
      ]
]

pub numbered_renamed : (name : ℕ → ℕ) (all keys : List ℕ) (key : ℕ) → AreApart name all → Within keys all → is_numbered all key ≡ true → is_numbered (map name keys) (name key) ≡ is_numbered keys key
numbered_renamed name all [] key apart within is = refl
numbered_renamed name all (first ∷ keys) key apart within is =
    let one = names_agree name all key first apart is (within first (numbered_first first keys)) in
    let rest = numbered_renamed name all keys key apart (λ other more. within other (or_more (other == first) (is_numbered keys other) more)) is in
    ap (λ b. b || is_numbered (map name keys) (name key)) one ∙ ap (λ b. (key == first) || b) rest

-- Places of keys

number_here : (first : ℕ) (keys : List ℕ) (key : ℕ) → (key == first) ≡ true → number_of (first ∷ keys) key ≡ Some 0
number_here first keys key same = number_cons first keys key ∙ ap (λ b. if b then Some 0 else option_map (λ k. 1 + k) (number_of keys key)) same

number_later : (first : ℕ) (keys : List ℕ) (key : ℕ) → (key == first) ≡ false → number_of (first ∷ keys) key ≡ option_map (λ k. 1 + k) (number_of keys key)
number_later first keys key differs = number_cons first keys key ∙ ap (λ b. if b then Some 0 else option_map (λ k. 1 + k) (number_of keys key)) differs

-- a key among the first ones is found there
pub number_front : (keys more : List ℕ) (key : ℕ) → is_numbered keys key ≡ true → number_of (keys ++ more) key ≡ number_of keys key
number_front [] more key is = absurd (cc (is))
number_front (first ∷ keys) more key is = elim (true_or_false (key == first)) [
  | inl same ↦ number_here first (keys ++ more) key same ∙ sym (number_here first keys key same)
  | inr differs ↦
      elim (or_either (key == first) (is_numbered keys key) is) [
        | inl same ↦ absurd (cc (same, differs))
        | inr rest ↦
            number_later first (keys ++ more) key differs ∙ ap (option_map (λ k. 1 + k)) (number_front keys more key rest) ∙ sym (number_later first keys key differs)
      ]
]

-- one that isn't among them is found after them
pub number_last : (keys : List ℕ) (key : ℕ) → is_numbered keys key ≡ false → number_of (keys ++ key ∷ []) key ≡ Some (length keys)
number_last [] key fresh = number_here key [] key (key_same key)
number_last (first ∷ keys) key fresh =
    let parts = or_false (key == first) (is_numbered keys key) fresh in
    number_later first (keys ++ key ∷ []) key parts.0 ∙ ap (option_map (λ k. 1 + k)) (number_last keys key parts.1) ∙ ap Some (omega arith)
  where
    or_false : (a b : Bool) → (a || b) ≡ false → (a ≡ false) × (b ≡ false)
    or_false true b is = absurd (cc (is))
    or_false false b is = (refl, is)

-- each key has one number: that of its place
abbrev pub OnceEach : List ℕ → Type 0
OnceEach keys = (number key : ℕ) → slice_get keys number ≡ Some key → number_of keys key ≡ Some number

pub once_push : (keys : List ℕ) (key : ℕ) → OnceEach keys → is_numbered keys key ≡ false → OnceEach (keys ++ key ∷ [])
once_push keys key once fresh = λ number other is.
    let within = slice_get_within (keys ++ key ∷ []) number other is in
    elim (before_or_last number (length keys) (omega (arith, within, length-append keys (key ∷ [])))) [
      | inl front ↦
          let at = sym (get_front keys (key ∷ []) number front) ∙ is in
          number_front keys (key ∷ []) other (numbered_at keys number other at) ∙ once number other at
      | inr last ↦
          let e : key ≡ other = let f = sym (get_last keys key) ∙ ap (slice_get (keys ++ key ∷ [])) (sym last) ∙ is in cc (f) in
          subst (λ (k : ℕ). number_of (keys ++ key ∷ []) k ≡ Some number) e (number_last keys key fresh ∙ ap Some (sym last))
    ]
