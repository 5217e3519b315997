-- The words of a ground's image.
use Rattle.std.proofs.Common.{◌≡◌, ℕ, ◌<◌, ◌≤◌, ◌⊎◌, inl, inr, List, length, get_or, slice_get, sym, ◌∙◌, ap, Some, None}
use Rattle.std.proofs.lemmas.Bool.{cases_lt}
use Rattle.std.proofs.lemmas.List.{get_or_past}
use Rattle.std.proofs.lemmas.Option.{slice_get-get_or, slice_get_past, slice_get_within}
use Rattle.area_space.specs.store_word.Words.{Parts, null_word, address_of}

-- what is at a place by a default
pub get_or_here : {X : Type 0} (xs : List X) (i : ℕ) (x d : X) → slice_get xs i ≡ Some x → get_or xs i d ≡ x
get_or_here xs i x d e =
    let low = slice_get_within xs i x e in
    let there = slice_get-get_or xs i d low in
    let both : Some (get_or xs i d) ≡ Some x = sym there ∙ e in
    cc

pub get_or_same : {X : Type 0} (xs ys : List X) (i : ℕ) (d : X) → slice_get xs i ≡ slice_get ys i → get_or xs i d ≡ get_or ys i d
get_or_same xs ys i d e =
    elim (cases_lt i (length ys)) [
      | inl l ↦ get_or_here xs i (get_or ys i d) d (e ∙ slice_get-get_or ys i d l)
      | inr past ↦ beyond past (cases_lt i (length xs))
    ]
  where
    beyond : length ys ≤ i → (i < length xs) ⊎ (length xs ≤ i) → get_or xs i d ≡ get_or ys i d
    beyond past (inl l) =
        let there : slice_get xs i ≡ Some (get_or xs i d) = slice_get-get_or xs i d l in
        let none : slice_get ys i ≡ None = slice_get_past ys i past in
        let both : Some (get_or xs i d) ≡ None = sym there ∙ (e ∙ none) in
        cc
    beyond past (inr beyond_too) = get_or_past xs i d beyond_too ∙ sym (get_or_past ys i d past)

-- a word with an address is one of the words
pub with_address : (words : List Parts) (a to : ℕ) → address_of (get_or words a null_word).content ≡ Some to → slice_get words a ≡ Some (get_or words a null_word)
with_address words a to has =
    elim (cases_lt a (length words)) [
      | inl l ↦ slice_get-get_or words a null_word l
      | inr past ↦ (let null = ap (λ (w : Parts). address_of w.content) (get_or_past words a null_word past) in absurd cc)
    ]
