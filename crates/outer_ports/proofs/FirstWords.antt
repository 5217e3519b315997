-- The first word of a line.
use Rattle.std.proofs.Common.{◌≡◌, ℕ, zero, suc, ◌<◌, List, [], ◌∷◌, length, take, Bool, true, false, refl, sym, ap, ◌∙◌, arith, Option, Some, None, not, cond, ltb, unwrap_or, tests}
use Rattle.std.proofs.lemmas.List.Sums.{prefix_len-le-length, take_while-cons}
use Rattle.std.specs.Prelude.{◌==◌, bytes_eq, codes, nat_eq, ◌&&◌, ◌||◌}
use Rattle.std.specs.List.{position_or_len}
use Rattle.outer_ports.specs.Lines.{first_word, begins_with}
use Rattle.outer_ports.specs.Counting.{may_be_counted}

-- the position that was found, or the length
pub position_or_len-found : {X : Type 0} (p : X → Bool) (xs : List X) (r : Option ℕ) → r ≡ cond (ltb (position_or_len p xs) (length xs)) (Some (position_or_len p xs)) None → unwrap_or r (length xs) ≡ position_or_len p xs
position_or_len-found p xs r is = rw is (grind (arith, tests, prefix_len-le-length (λ x. not (p x)) xs))

-- if two lines go on alike as far as shorter words can show, they go on alike for this word
same_word : (goes : Bool) (byte : ℕ) (xs ys word : List ℕ) → ((rest : List ℕ) → length rest < length word → bytes_eq xs rest ≡ bytes_eq ys rest) → bytes_eq (cond goes (byte ∷ xs) []) word ≡ bytes_eq (cond goes (byte ∷ ys) []) word
same_word true byte xs ys [] same = refl
same_word true byte xs ys (w ∷ word) same = ap (λ b. nat_eq byte w && b) (same word (omega arith))
same_word false byte xs ys [] same = refl
same_word false byte xs ys (w ∷ word) same = refl

-- whether a line begins with a word shorter than n shows in its first n bytes
pub begins_with-take : (n : ℕ) (line word : List ℕ) → length word < n → begins_with word (take n line) ≡ begins_with word line
begins_with-take zero line word below = absurd (omega (arith, below))
begins_with-take (suc n) [] word below = refl
begins_with-take (suc n) (byte ∷ line) word below =
    let goes : ℕ → Bool = λ b. not (b == 32) in
    ap (λ l. bytes_eq l word) (take_while-cons goes byte (take n line))
    ∙ same_word (goes byte) byte (first_word (take n line)) (first_word line) word (λ rest smaller. begins_with-take n line rest (omega (arith, smaller, below)))
    ∙ sym (ap (λ l. bytes_eq l word) (take_while-cons goes byte line))

-- a line doesn't begin with a word whose first byte is another one
begins_apart : (w byte : ℕ) (word line : List ℕ) → (byte == w) ≡ false → begins_with (w ∷ word) (byte ∷ line) ≡ false
begins_apart w byte word line apart = ap (λ l. bytes_eq l (w ∷ word)) (take_while-cons (λ b. not (b == 32)) byte line) ∙ at (not (byte == 32))
  where
    at : (goes : Bool) → bytes_eq (cond goes (byte ∷ first_word line) []) (w ∷ word) ≡ false
    at true = ap (λ b. b && bytes_eq (first_word line) word) apart
    at false = refl

-- none of four tests holds
none_of : (a b c d : Bool) → (a || b || c || d) ≡ false → (a ≡ false) × (b ≡ false) × (c ≡ false) × (d ≡ false)
none_of true b c d is = absurd (cc (is))
none_of false true c d is = absurd (cc (is))
none_of false false true d is = absurd (cc (is))
none_of false false false true is = absurd (cc (is))
none_of false false false false is = (refl, refl, refl, refl)

-- a line whose first byte is that of none of the four words begins with none of them
pub uncounted : (line : List ℕ) → may_be_counted line ≡ false
    → (begins_with (codes "exhausted") line ≡ false) × (begins_with (codes "wrong-type") line ≡ false) × (begins_with (codes "reclaimed") line ≡ false) × (begins_with (codes "fault") line ≡ false)
uncounted [] is = (refl, refl, refl, refl)
uncounted (byte ∷ line) is =
    let n = none_of (byte == 101) (byte == 119) (byte == 114) (byte == 102) is in (
      begins_apart 101 byte (codes "xhausted") line n.0,
      begins_apart 119 byte (codes "rong-type") line n.1,
      begins_apart 114 byte (codes "eclaimed") line n.2,
      begins_apart 102 byte (codes "ault") line n.3,
    )
