-- Reading each of some words, one after another.
use Rattle.std.proofs.Common.{◌≡◌, ℕ, ◌<◌, ◌≤◌, List, [], ◌∷◌, ◌++◌, length, Result, Ok, Err, refl, sym, ◌∙◌, ap, arith, append_assoc}
use Rattle.std.proofs.lemmas.List.{append-nil}
use Rattle.world_text.specs.declared.reading.reason.Reason.{Reason}
use Rattle.world_text.specs.reading.Next.{◌>>=◌, each, next}

-- what was read before, followed by what is read from the rest
abbrev pub with_read : {A : Type 0} → List A → Result (List A) Reason → Result (List A) Reason
with_read had (Ok others) = Ok (had ++ others)
with_read had (Err reason) = Err reason

one_more : {A : Type 0} (had : List A) (one : A) (others : Result (List A) Reason)
    → with_read had (others >>= λ xs. Ok (one ∷ xs)) ≡ with_read (had ++ one ∷ []) others
one_more had one (Ok others) = ap Ok (sym (append_assoc had (one ∷ []) others))
one_more had one (Err reason) = refl

-- the first word, and those after it
abbrev before : {A : Type 0} → List (List ℕ) → Result A Reason → Result (A × List (List ℕ)) Reason
before {A} words first = ◌>>=◌ {B = A × List (List ℕ)} first (λ x. Ok (x, words))

goes_at : {A : Type 0} (read : List ℕ → Result A Reason) (had : List A) (words : List (List ℕ)) (first : Result A Reason) (one : A) (after : List (List ℕ))
    → before words first ≡ Ok (one, after)
    → with_read had (first >>= λ x. each read words >>= λ others. Ok (x ∷ others)) ≡ with_read (had ++ one ∷ []) (each read after)
goes_at {A} read had words (Ok x) one after is =
    let pair : ◌≡◌ {A = A × List (List ℕ)} (x, words) (one, after) = cc in
    let e : x ≡ one = ap (λ (p : A × List (List ℕ)). p.0) pair in
    let f : words ≡ after = ap (λ (p : A × List (List ℕ)). p.1) pair in
    one_more had x (each read words) ∙ ap (λ y. with_read (had ++ y ∷ []) (each read words)) e ∙ ap (λ ws. with_read (had ++ one ∷ []) (each read ws)) f
goes_at read had words (Err reason) one after is = absurd (cc)

-- a word that is read
pub each_goes : {A : Type 0} (read : List ℕ → Result A Reason) (had : List A) (words : List (List ℕ)) (one : A) (after : List (List ℕ))
    → 0 < length words → next read words ≡ Ok (one, after) → with_read had (each read words) ≡ with_read (had ++ one ∷ []) (each read after)
unfolding each next
each_goes read had [] one after some is = absurd (omega arith)
each_goes read had (word ∷ words) one after some is = goes_at read had words (read word) one after is

fails_at : {A : Type 0} (had : List A) (words : List (List ℕ)) (first : Result A Reason) (others : Result (List A) Reason) (reason : Reason)
    → before words first ≡ Err reason → with_read had (first >>= λ x. others >>= λ xs. Ok (x ∷ xs)) ≡ Err reason
fails_at had words (Ok x) others reason is = absurd (cc)
fails_at had words (Err other) others reason is = cc

-- a word that is refused
pub each_fails : {A : Type 0} (read : List ℕ → Result A Reason) (had : List A) (words : List (List ℕ)) (reason : Reason)
    → 0 < length words → next read words ≡ Err reason → with_read had (each read words) ≡ Err reason
unfolding each next
each_fails read had [] reason some is = absurd (omega arith)
each_fails read had (word ∷ words) reason some is = fails_at had words (read word) (each read words) reason is

-- no word remains
pub each_ends : {A : Type 0} (read : List ℕ → Result A Reason) (had : List A) (words : List (List ℕ)) → length words ≤ 0 → with_read had (each read words) ≡ Ok had
unfolding each
each_ends read had [] none = ap Ok (append-nil had)
each_ends read had (word ∷ words) none = absurd (omega arith)
