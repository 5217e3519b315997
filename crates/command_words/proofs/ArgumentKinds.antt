-- The shapes of an argument: `--`, an option, an argument that begins with one dash, and the others.
use Rattle.std.proofs.Common.{◌≡◌, ℕ, List, [], ◌∷◌, length, take, Bool, true, false, Some, None, refl, arith, tests, subst}
use Rattle.std.specs.Prelude.{◌==◌, bytes_eq, codes, nat_lt}
use Rattle.std.specs.List.{list_any, position_or_len}
use Rattle.std.proofs.lemmas.Bool.Decides.{nat_tests}
use Rattle.std.proofs.lemmas.List.{take_all}
use Rattle.clap.specs.Lexer.{long_of, short_of}
use Rattle.command_words.specs.Words.{is_option}

-- the argument isn't `--`, isn't an option, and doesn't begin with a dash that is followed by more
pub record IsPlain (word : List ℕ) : Type 0 where
  pub dashes : bytes_eq word (codes "--") ≡ false
  pub option : is_option word ≡ false
  pub long : long_of word ≡ None
  pub short : short_of word ≡ None

-- the argument begins with one dash, and not with two
pub record IsShort (y : ℕ) (ys : List ℕ) : Type 0 where
  pub dashes : bytes_eq (45 ∷ y ∷ ys) (codes "--") ≡ false
  pub option : is_option (45 ∷ y ∷ ys) ≡ false
  pub long : long_of (45 ∷ y ∷ ys) ≡ None
  pub short : short_of (45 ∷ y ∷ ys) ≡ Some (y ∷ ys)

pub data Kind : List ℕ → Type 0 where
  dashes : Kind (45 ∷ 45 ∷ [])
  option : (b : ℕ) (body : List ℕ) → Kind (45 ∷ 45 ∷ b ∷ body)
  short : (y : ℕ) (ys : List ℕ) → IsShort y ys → Kind (45 ∷ y ∷ ys)
  plain : (word : List ℕ) → IsPlain word → Kind word

other_second : (y : ℕ) (ys : List ℕ) → (y == 45) ≡ false → IsShort y ys
other_second y ys other =
    let back : (45 == y) ≡ false = grind (arith, nat_tests, other) in
    record { dashes = rw other refl; option = rw back refl; long = rw other refl; short = rw other refl }

other_first : (x : ℕ) (xs : List ℕ) → (x == 45) ≡ false → IsPlain (x ∷ xs)
other_first x xs other =
    let back : (45 == x) ≡ false = grind (arith, nat_tests, other) in
    record { dashes = rw other refl; option = rw back refl; long = rw other refl; short = rw other refl }

second : (y : ℕ) (ys : List ℕ) (b : Bool) → (y == 45) ≡ b → Kind (45 ∷ y ∷ ys)
second y ys false other = short y ys (other_second y ys other)
second y [] true is = let e : 45 ≡ y = grind (arith, nat_tests, is) in subst (λ (z : ℕ). Kind (45 ∷ z ∷ [])) e dashes
second y (b ∷ body) true is = let e : 45 ≡ y = grind (arith, nat_tests, is) in subst (λ (z : ℕ). Kind (45 ∷ z ∷ b ∷ body)) e (option b body)

first : (x : ℕ) (xs : List ℕ) (b : Bool) → (x == 45) ≡ b → Kind (x ∷ xs)
first x xs false other = plain (x ∷ xs) (other_first x xs other)
first x [] true is = let e : 45 ≡ x = grind (arith, nat_tests, is) in subst (λ (z : ℕ). Kind (z ∷ [])) e (plain (45 ∷ []) (record { dashes = refl; option = refl; long = refl; short = refl }))
first x (y ∷ ys) true is = let e : 45 ≡ x = grind (arith, nat_tests, is) in subst (λ (z : ℕ). Kind (z ∷ y ∷ ys)) e (second y ys (y == 45) refl)

pub kind : (word : List ℕ) → Kind word
kind [] = plain [] (record { dashes = refl; option = refl; long = refl; short = refl })
kind (x ∷ xs) = first x xs (x == 45) refl

-- The position of a byte

-- some byte passes the test if and only if the first position that passes is within the list
pub any_within : {X : Type 0} (p : X → Bool) (xs : List X) → list_any p xs ≡ nat_lt (position_or_len p xs) (length xs)
any_within p [] = refl
any_within p (x ∷ xs) = grind (arith, tests, nat_tests, any_within p xs)

pub take_whole : (xs : List ℕ) (n : ℕ) → nat_lt n (length xs) ≡ false → take n xs ≡ xs
take_whole xs n above = take_all n xs (grind (arith, nat_tests, above))
