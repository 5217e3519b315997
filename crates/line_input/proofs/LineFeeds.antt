-- Line feeds in bytes, and parts of a buffer.
use Rattle.std.proofs.Common.{◌≡◌, ℕ, suc, ◌+◌, ◌-◌, ◌<◌, ◌≤◌, List, [], ◌∷◌, ◌++◌, length, take, drop, set, get_or, Bool, true, false, ◌&&◌, Some, None, inl, inr, refl, sym, ap, ◌∙◌, arith}
use Rattle.std.proofs.lemmas.List.{drop_all, take_more, take_more_set, drop-take, drop-drop, get_or-drop, drop-set-lt, length-drop, length-take-le, length-take, drop_at, take-append-le, take_at, drop-append-le, take-append-drop, get_or-take}
use Rattle.std.proofs.lemmas.Bool.{cases_lt, ne_eqb, eq-eqb, eqb-true}
use Rattle.memchr.specs.Find.{IsFirstByte, is_byte}
use Rattle.std.proofs.Math.Seq.{take-add}
use Rattle.std.proofs.lemmas.Grind.{common_steps}
use Rattle.line_input.specs.Reader.{no_feed, without_latest}

pub no_feed-append : (xs ys : List ℕ) → no_feed (xs ++ ys) ≡ no_feed xs && no_feed ys
no_feed-append [] ys = refl
no_feed-append (x ∷ xs) ys = grind (arith, common_steps, no_feed-append xs ys)

-- a part of bytes without a line feed
pub no_feed-take : (n : ℕ) (xs : List ℕ) → no_feed xs ≡ true → no_feed (take n xs) ≡ true
no_feed-take n xs none = let both = sym (no_feed-append (take n xs) (drop n xs)) ∙ ap no_feed (take-append-drop n xs) ∙ none in first (no_feed (take n xs)) (no_feed (drop n xs)) both
  where
    first : (a b : Bool) → a && b ≡ true → a ≡ true
    first true b is = refl
    first false b is = cc (is)

pub no_feed-drop : (n : ℕ) (xs : List ℕ) → no_feed xs ≡ true → no_feed (drop n xs) ≡ true
no_feed-drop n xs none = let both = sym (no_feed-append (take n xs) (drop n xs)) ∙ ap no_feed (take-append-drop n xs) ∙ none in second (no_feed (take n xs)) (no_feed (drop n xs)) both
  where
    second : (a b : Bool) → a && b ≡ true → b ≡ true
    second true b is = is
    second false b is = cc (is)

-- the first k elements without the first n
drop_of_take : (n k : ℕ) (xs : List ℕ) → drop n (take k xs) ≡ take (k - n) (drop n xs)
drop_of_take n k xs = elim (cases_lt k n) [
  | inl less ↦
      let few : k - n ≡ 0 = omega (arith, less) in
      drop_all n (take k xs) (omega (arith, less, length-take k xs)) ∙ ap (λ j. take j (drop n xs)) (sym few)
  | inr more ↦
      let whole : k ≡ n + (k - n) = omega (arith, more) in
      ap (λ j. drop n (take j xs)) whole ∙ drop-take n (k - n) xs
]

-- what follows the first n bytes, without the latest piece
pub drop_latest : (n last : ℕ) (all rest : List ℕ) → drop n all ≡ rest → drop n (without_latest last all) ≡ without_latest last rest
drop_latest n last all rest is =
    let long : length rest ≡ length all - n = ap length (sym is) ∙ length-drop n all in
    let size : (length all - last) - n ≡ length rest - last = omega (arith, long) in
    drop_of_take n (length all - last) all ∙ ap (take ((length all - last) - n)) is ∙ ap (λ k. take k rest) size

-- bytes without a line feed
feedless : (xs : List ℕ) → ((k : ℕ) → k < length xs → get_or xs k 0 ≡ 10 → ⊥) → no_feed xs ≡ true
feedless [] none = refl
feedless (x ∷ xs) none = rw (ne_eqb x 10 (none 0 (omega arith)), feedless xs (λ k low. none (suc k) (omega arith))) refl

-- no line feed follows bytes without one
pub no_feed_behind : (xs : List ℕ) (from : ℕ) → no_feed (take from xs) ≡ true → IsFirstByte (is_byte 10) (drop from xs) None → no_feed xs ≡ true
no_feed_behind xs from before none =
    let rest = feedless (drop from xs) (λ k low is. none k (omega arith) low (eq-eqb (get_or (drop from xs) k 0) 10 is)) in
    ap no_feed (sym (take-append-drop from xs)) ∙ no_feed-append (take from xs) (drop from xs) ∙ rw (before, rest) refl

-- the first line feed after bytes without one
pub feed_behind : (xs : List ℕ) (from at : ℕ) → from ≤ length xs → no_feed (take from xs) ≡ true → IsFirstByte (is_byte 10) (drop from xs) (Some at)
    → (from + at < length xs) × (no_feed (take (from + at) xs) ≡ true) × (get_or xs (from + at) 0 ≡ 10)
feed_behind xs from at within before found =
    let rest : List ℕ = drop from xs in
    let high : at < length (drop from xs) = found.0.high in
    let size : length (take at (drop from xs)) ≡ at = length-take-le at (drop from xs) (omega (arith, high)) in
    let none = feedless (take at rest) (λ k low is.
    let below : k < at = omega (arith, low, size) in
    found.0.before k (omega arith) below (eq-eqb (get_or (drop from xs) k 0) 10 (sym (get_or-take at (drop from xs) k 0 below) ∙ is))) in (
      omega (arith, high, length-drop from xs),
      ap no_feed (take-add from at xs) ∙ no_feed-append (take from xs) (take at rest) ∙ rw (before, none) refl,
      sym (get_or-drop from xs at 0) ∙ eqb-true (get_or (drop from xs) at 0) 10 found.1,
    )

-- a part, without its first elements
pub passed : (xs : List ℕ) (s e k : ℕ) → s ≤ e → k ≤ length (take (e - s) (drop s xs)) → take (e - (s + k)) (drop (s + k) xs) ≡ drop k (take (e - s) (drop s xs))
passed xs s e k order within =
    let l : length (take (e - s) (drop s xs)) ≤ e - s = omega (arith, length-take (e - s) (drop s xs)) in
    let eq : k + (e - (s + k)) ≡ e - s = omega arith in
    sym (ap (λ n. drop k (take n (drop s xs))) (sym eq) ∙ drop-take k (e - (s + k)) (drop s xs) ∙ ap (take (e - (s + k))) (drop-drop k s xs))

-- one more byte moved to the start
pub shifted : (buffer old : List ℕ) (s i : ℕ) → s + i < length buffer → length buffer ≡ length old → take i buffer ≡ take i (drop s old) → drop (s + i) buffer ≡ drop (s + i) old → take (i + 1) (set buffer i (get_or buffer (s + i) 0)) ≡ take (i + 1) (drop s old)
shifted buffer old s i below same front rest =
    let one : get_or (drop (s + i) buffer) 0 0 ≡ get_or (drop (s + i) old) 0 0 = ap (λ xs. get_or xs 0 0) rest in
    let byte : get_or buffer (s + i) 0 ≡ get_or (drop s old) i 0 = grind (arith, one, get_or-drop (s + i) buffer 0 0, get_or-drop (s + i) old 0 0, get_or-drop s old i 0) in
    let l : i < length (drop s old) = omega (arith, length-drop s old) in
    take_more_set buffer i (get_or buffer (s + i) 0) (omega arith) ∙ rw (front, byte) (sym (take_more (drop s old) i 0 l))

pub shifted_rest : (buffer old : List ℕ) (s i y : ℕ) → drop (s + i) buffer ≡ drop (s + i) old → drop (s + (i + 1)) (set buffer i y) ≡ drop (s + (i + 1)) old
shifted_rest buffer old s i y rest =
    let eq : s + (i + 1) ≡ (s + i) + 1 = omega arith in
    drop-set-lt (s + (i + 1)) buffer i y (omega arith) ∙ rw eq (sym (drop-drop 1 (s + i) buffer) ∙ ap (drop 1) rest ∙ drop-drop 1 (s + i) old)

-- bytes that were written after a part
module _ (old new : List ℕ) (s e : ℕ) (order : s ≤ e) (within : e ≤ length old) where
  part_then : drop s (take e old ++ new) ≡ take (e - s) (drop s old) ++ new
  part_then =
      let a : length (take e old) ≡ e = length-take-le e old within in
      drop-append-le s (take e old) new (omega arith) ∙ ap (λ xs. xs ++ new) (ap (λ k. drop s (take k old)) (omega arith) ∙ drop-take s (e - s) old)

  part_length : length (take (e - s) (drop s old)) ≡ e - s
  part_length = length-take-le (e - s) (drop s old) (omega (arith, length-drop s old))

  part_same : take (e - s) (drop s (take e old ++ new)) ≡ take (e - s) (drop s old)
  part_same = ap (take (e - s)) part_then ∙ take_at (take (e - s) (drop s old)) new (e - s) part_length

  part_more : (n : ℕ) → take (e + n - s) (drop s (take e old ++ new)) ≡ take (e - s) (drop s old) ++ take n new
  part_more n =
      let b : e + n - s ≡ (e - s) + n = omega arith in
      let p : List ℕ = take (e - s) (drop s old) in
      ap (λ k. take k (drop s (take e old ++ new))) b ∙ take-add (e - s) n (drop s (take e old ++ new)) ∙ rw (part_same, part_then) (ap (λ xs. p ++ take n xs) (drop_at p new (e - s) part_length))

-- after everything that follows the part was written
pub behind : (old new post : List ℕ) (s e n : ℕ) → s ≤ e → e ≤ length old → n ≤ length new → take (e + n - s) (drop s (take e old ++ (new ++ post))) ≡ take (e - s) (drop s old) ++ take n new
behind old new post s e n order within fits = part_more old (new ++ post) s e order within n ∙ ap (λ xs. take (e - s) (drop s old) ++ xs) (take-append-le n new post fits)

pub unchanged : (old new post : List ℕ) (s e : ℕ) → s ≤ e → e ≤ length old → take (e - s) (drop s (take e old ++ (new ++ post))) ≡ take (e - s) (drop s old)
unchanged old new post s e order within = part_same old (new ++ post) s e order within
