-- One page of a list of words.
use Rattle.std.proofs.Common.{◌≡◌, ℕ, zero, suc, ◌+◌, ◌-◌, ◌*◌, ◌<◌, ◌≤◌, List, [], ◌∷◌, ◌++◌, length, take, drop, refl, sym, subst, ap, ◌∙◌, arith}
use Rattle.std.proofs.lemmas.List.{length-append, length-drop, length-take-le, take-append-drop}
use Rattle.std.specs.List.{slice_get}
use Rattle.store_word.specs.Words.{Parts}
use Rattle.outer_ports.specs.Pages.{Fills}

-- an element of the first of two lists
at_first : {X : Type 0} (xs ys : List X) (i : ℕ) → i < length xs → slice_get (xs ++ ys) i ≡ slice_get xs i
at_first [] ys i below = absurd (omega (arith, below))
at_first (x ∷ xs) ys zero below = refl
at_first (x ∷ xs) ys (suc i) below = at_first xs ys i (omega (arith, below))

-- an element of the second list
at_second : {X : Type 0} (xs ys : List X) (n i k : ℕ) → length xs ≡ n → i ≡ n + k → slice_get (xs ++ ys) i ≡ slice_get ys k
at_second [] ys n i k size at = ap (slice_get ys) (omega (arith, size, at))
at_second (x ∷ xs) ys n zero k size at = absurd (omega (arith, size, at))
at_second (x ∷ xs) ys n (suc i) k size at = at_second xs ys (length xs) i k refl (omega (arith, size, at))

-- an element after both lists
above_page : {X : Type 0} (front page back : List X) (n i : ℕ) → length front ≡ n → length page ≡ 256 → n + 256 ≤ i → slice_get (front ++ (page ++ back)) i ≡ slice_get back (i - (n + 256))
above_page front page back n i before size above =
    at_second front (page ++ back) n i (i - n) before (omega (arith, above)) ∙ at_second page back 256 (i - n) (i - (n + 256)) size (omega (arith, above))

-- other contents in the place of a page
fills_at : (front page back words : List Parts) (n : ℕ) → length front ≡ 256 * n → length page ≡ 256 → length words ≡ 256 → Fills (front ++ (page ++ back)) (front ++ (words ++ back)) n words
fills_at front page back words n before size same = record {
  size = omega (arith, length-append front (page ++ back), length-append front (words ++ back), length-append page back, length-append words back);
  here = λ k below. at_second front (words ++ back) (256 * n) (256 * n + k) k before refl ∙ at_first words back k (omega (arith, below, same));
  below = λ i below. at_first front (words ++ back) i (omega (arith, below, before)) ∙ sym (at_first front (page ++ back) i (omega (arith, below, before)));
  above = λ i above. above_page front words back (256 * n) i before same above ∙ sym (above_page front page back (256 * n) i before size above);
}

-- a part of the words that was overwritten
pub fills_part : (old part words : List Parts) (n k : ℕ) → k ≡ 256 → part ≡ words → length words ≡ 256 → 256 * n + 256 ≤ length old → Fills old (take (256 * n) old ++ (part ++ drop k (drop (256 * n) old))) n words
fills_part old part words n k size same count inside =
    let front : List Parts = take (256 * n) old in
    let page : List Parts = take 256 (drop (256 * n) old) in
    let back : List Parts = drop 256 (drop (256 * n) old) in
    let whole : front ++ (page ++ back) ≡ old = ap (λ xs. front ++ xs) (take-append-drop 256 (drop (256 * n) old)) ∙ take-append-drop (256 * n) old in
    let new : front ++ (words ++ back) ≡ front ++ (part ++ drop k (drop (256 * n) old)) = rw (same, size) refl in
    subst (λ xs. Fills xs (front ++ (part ++ drop k (drop (256 * n) old))) n words) whole (subst (λ xs. Fills (front ++ (page ++ back)) xs n words) new (fills_at front page back words n (length-take-le (256 * n) old (omega (arith, inside))) (length-take-le 256 (drop (256 * n) old) (omega (arith, inside, length-drop (256 * n) old))) count))
