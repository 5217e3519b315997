-- Lists of frames and of their pages.
use Rattle.std.proofs.Common.{ℕ, ◌≡◌, ◌≢◌, eqb, List, [], ◌∷◌, Some, drop, refl, sym, ap, subst, ◌∙◌, inl, inr, ◌⊎◌}
use Rattle.std.specs.Prelude.{Contains, map}
use Rattle.std.specs.List.{IsDistinct}
use Rattle.std.proofs.lemmas.Bool.{cases_eq}
use Rattle.frame_pool.specs.index_lists.Chains.{without, first_of}
use Rattle.frame_pool.specs.index_lists.Members.{Has}
use Rattle.frame_pool.proofs.index_lists.Members.{has_from_contains, contains_from_has, without_here, without_there}
use Rattle.frame_pool.proofs.index_lists.ListUpdates.{without-first}

pub first_map : (f : ℕ → ℕ) (n : ℕ) (xs : List ℕ) → first_of xs ≡ Some n → first_of (map f xs) ≡ Some (f n)
first_map f n [] e = absurd (cc)
first_map f n (x ∷ xs) e = let same : x ≡ n = cc in ap (λ k. Some (f k)) same

pub first_drop : (n : ℕ) (xs : List ℕ) → first_of xs ≡ Some n → IsDistinct eqb xs → without n xs ≡ drop 1 xs
first_drop n [] e d = absurd (cc)
first_drop n (x ∷ xs) e d =
    let same : x ≡ n = cc in
    subst (λ m. without m (x ∷ xs) ≡ drop 1 (x ∷ xs)) same (without-first x xs d)

-- two functions that agree on a list
map_agree_has : (f g : ℕ → ℕ) (xs : List ℕ) → ((x : ℕ) → Has x xs → f x ≡ g x) → map f xs ≡ map g xs
map_agree_has f g [] same = refl
map_agree_has f g (x ∷ xs) same =
    ap (λ y. y ∷ map f xs) (same x (λ ne. absurd (ne refl))) ∙ ap (λ ys. g x ∷ ys) (map_agree_has f g xs (λ y h. same y (λ _. h)))

pub map_agree : (f g : ℕ → ℕ) (xs : List ℕ) → ((x : ℕ) → Contains xs x → f x ≡ g x) → map f xs ≡ map g xs
map_agree f g xs same = map_agree_has f g xs (λ x h. same x (contains_from_has x xs h))

-- a function that has no value twice takes the list without an element to the list without its value
map_without_has : (f : ℕ → ℕ) (n : ℕ) (xs : List ℕ) → ((x : ℕ) → Has x xs → f x ≡ f n → x ≡ n) → map f (without n xs) ≡ without (f n) (map f xs)
map_without_has f n [] once = refl
map_without_has f n (x ∷ xs) once =
    let rest = map_without_has f n xs (λ y h. once y (λ _. h)) in
    elim (cases_eq x n) [
      | inl e ↦ ap (map f) (without_here n x xs e) ∙ rest ∙ sym (without_here (f n) (f x) (map f xs) (ap f e))
      | inr ne ↦ ap (map f) (without_there n x xs ne) ∙ ap (λ ys. f x ∷ ys) rest
          ∙ sym (without_there (f n) (f x) (map f xs) (λ e. ne (once x (λ no. absurd (no refl)) e)))
    ]

pub map_without : (f : ℕ → ℕ) (n : ℕ) (xs : List ℕ) → ((x : ℕ) → Contains xs x → f x ≡ f n → x ≡ n) → map f (without n xs) ≡ without (f n) (map f xs)
map_without f n xs once = map_without_has f n xs (λ x h. once x (contains_from_has x xs h))

-- what a mapped list contains
has_map : (f : ℕ → ℕ) (n : ℕ) (xs : List ℕ) → Has n xs → Has (f n) (map f xs)
has_map f n [] h = h
has_map f n (x ∷ xs) h = λ ne. has_map f n xs (h (λ e. ne (ap f e)))

pub Contains-map : (f : ℕ → ℕ) (n : ℕ) (xs : List ℕ) → Contains xs n → Contains (map f xs) (f n)
Contains-map f n xs m = contains_from_has (f n) (map f xs) (has_map f n xs (has_from_contains n xs m.0 m.1 m.2))

pub Contains-map_back : (f : ℕ → ℕ) (q : ℕ) (xs : List ℕ) → Contains (map f xs) q → (x : ℕ) × (Contains xs x × (f x ≡ q))
Contains-map_back f q xs m = back xs (has_from_contains q (map f xs) m.0 m.1 m.2)
  where
    back : (ys : List ℕ) → Has q (map f ys) → (x : ℕ) × (Contains ys x × (f x ≡ q))
    back [] h = absurd h
    back (y ∷ ys) h =
        elim (cases_eq (f y) q) [
          | inl e ↦ (y, (contains_from_has y (y ∷ ys) (λ ne. absurd (ne refl)), e))
          | inr ne ↦ (let r = back ys (h ne) in let m = r.1.0 in (r.0, (contains_from_has r.0 (y ∷ ys) (λ _. has_from_contains r.0 ys m.0 m.1 m.2), r.1.1)))
        ]

-- an element is there or it isn't
pub contains_or_not : (q : ℕ) (xs : List ℕ) → Contains xs q ⊎ (Contains xs q → ⊥)
contains_or_not q xs = elim (decide xs) [ inl h ↦ inl (contains_from_has q xs h) | inr off ↦ inr (λ m. off (has_from_contains q xs m.0 m.1 m.2)) ]
  where
    decide : (ys : List ℕ) → Has q ys ⊎ (Has q ys → ⊥)
    decide [] = inr (λ h. h)
    decide (y ∷ ys) = elim (cases_eq y q) [
      | inl e ↦ inl (λ ne. absurd (ne e))
      | inr ne ↦ (elim (decide ys) [ inl h ↦ inl (λ _. h) | inr off ↦ inr (λ h. off (h ne)) ])
    ]

-- what is on a list after its first element
pub contains_rest : (x q : ℕ) (xs : List ℕ) → first_of xs ≡ Some x → Contains xs q → q ≢ x → Contains (drop 1 xs) q
contains_rest x q [] e m ne = absurd (cc)
contains_rest x q (y ∷ ys) e m ne =
    let same : y ≡ x = cc in
    contains_from_has q ys (has_from_contains q (y ∷ ys) m.0 m.1 m.2 (λ f. ne (sym f ∙ same)))
