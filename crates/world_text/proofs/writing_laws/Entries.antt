-- Entries of keys in the table of their numbers.
use Rattle.std.proofs.Common.{◌≡◌, ℕ, ◌+◌, List, [], ◌∷◌, ◌++◌, length, Bool, true, false, not, Option, Some, None, refl, ap, sym, ◌∙◌, arith}
use Rattle.std.specs.Prelude.{◌==◌, ◌||◌, if◌then◌else◌, option_map}
use Rattle.std.proofs.lemmas.Bool.Decides.{nat_tests}
use Rattle.world_text.specs.writing.Numbering.{is_numbered}
use Rattle.world_text.specs.writing.NumberTable.{HasNumbers, entry_at, entry_of}
use Rattle.world_text.proofs.writing_laws.Numbers.{number_cons, number_last, number_of}

-- A key gets the next number

-- the other keys keep theirs
number_other : (keys : List ℕ) (key other : ℕ) → (other == key) ≡ false → number_of (keys ++ key ∷ []) other ≡ number_of keys other
number_other [] key other apart = number_cons key [] other ∙ ap (λ b. if b then Some 0 else option_map (λ k. 1 + k) (number_of [] other)) apart
number_other (first ∷ keys) key other apart =
    number_cons first (keys ++ key ∷ []) other
    ∙ ap (λ (n : Option ℕ). if other == first then Some 0 else option_map (λ k. 1 + k) n) (number_other keys key other apart)
    ∙ sym (number_cons first keys other)

key_added : (keys : List ℕ) (key other : ℕ) → is_numbered keys key ≡ false
    → entry_of (number_of (keys ++ key ∷ []) other) ≡ (if other == key then length keys + 1 else entry_of (number_of keys other))
key_added keys key other fresh = of_test (other == key) refl
  where
    of_test : (b : Bool) → (other == key) ≡ b → entry_of (number_of (keys ++ key ∷ []) other) ≡ (if b then length keys + 1 else entry_of (number_of keys other))
    of_test true is =
        let e : other ≡ key = grind (arith, nat_tests, is) in
        ap (λ (k : ℕ). entry_of (number_of (keys ++ key ∷ []) k)) e ∙ ap entry_of (number_last keys [] key fresh)
    of_test false is = ap entry_of (number_other keys key other is)

pub numbers_added : (pages new : List (List ℕ)) (keys : List ℕ) (key entry : ℕ) → HasNumbers pages keys → is_numbered keys key ≡ false → entry ≡ length keys + 1
    → ((other : ℕ) → entry_at new other ≡ (if other == key then entry else entry_at pages other)) → HasNumbers new (keys ++ key ∷ [])
numbers_added pages new keys key entry has fresh is changed other =
    changed other ∙ ap (λ (n : ℕ). if other == key then n else entry_at pages other) is
    ∙ ap (λ (n : ℕ). if other == key then length keys + 1 else n) (has other) ∙ sym (key_added keys key other fresh)

-- a table with the same entries
pub numbers_same : (pages new : List (List ℕ)) (keys : List ℕ) → HasNumbers pages keys → ((key : ℕ) → entry_at new key ≡ entry_at pages key) → HasNumbers new keys
numbers_same pages new keys has same key = same key ∙ has key

-- An entry that isn't 0 is that of a key with a number

numbered_by : (keys : List ℕ) (key : ℕ) → not (entry_of (number_of keys key) == 0) ≡ is_numbered keys key
numbered_by [] key = refl
numbered_by (first ∷ keys) key =
    ap (λ (n : Option ℕ). not (entry_of n == 0)) (number_cons first keys key) ∙ by_test (key == first) (number_of keys key) (is_numbered keys key) (numbered_by keys key)
  where
    by_test : (b : Bool) (place : Option ℕ) (rest : Bool) → not (entry_of place == 0) ≡ rest → not (entry_of (if b then Some 0 else option_map (λ k. 1 + k) place) == 0) ≡ (b || rest)
    by_test true place rest is = refl
    by_test false None rest is = is
    by_test false (Some n) rest is =
        let now : ((1 + n) + 1 == 0) ≡ false = grind (arith, nat_tests) in
        let before : (n + 1 == 0) ≡ false = grind (arith, nat_tests) in
        ap not now ∙ sym (ap not before) ∙ is

pub entry_shows : (pages : List (List ℕ)) (keys : List ℕ) (key : ℕ) → HasNumbers pages keys → not (entry_at pages key == 0) ≡ is_numbered keys key
entry_shows pages keys key has = ap (λ (n : ℕ). not (n == 0)) (has key) ∙ numbered_by keys key
