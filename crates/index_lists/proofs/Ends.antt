-- The first node of a list, its last, and the one after a node.
use Rattle.std.proofs.Common.{◌≡◌, ℕ, ◌↔◌, Some, None, Option, List, [], ◌∷◌, refl, sym, ap, subst, arith, inl, inr}
use Rattle.std.specs.Prelude.{Contains, IfSome, IsNone}
use Rattle.std.proofs.lemmas.Bool.{cases_eq, eq-eqb, ne_eqb}
use Rattle.index_lists.specs.Members.{Lacks, Has, IsApart}
use Rattle.index_lists.specs.Chains.{first_of, last_of, next_in}
use Rattle.index_lists.proofs.Members.{has_not_lacks, contains_from_has}

-- there is no first if and only if the list is empty
pub none_first : (xs : List ℕ) (o : Option ℕ) → o ≡ first_of xs → IsNone o ↔ (xs ≡ [])
none_first [] None e = (λ _. refl, λ _. refl)
none_first [] (Some n) e = absurd (cc)
none_first (x ∷ xs) None e = absurd (cc)
none_first (x ∷ xs) (Some n) e = (λ h. absurd (cc), λ h. absurd (cc))

-- the first is an element
pub listed_first : (xs : List ℕ) (o : Option ℕ) → o ≡ first_of xs → IfSome o (Contains xs)
listed_first xs None e = tt
listed_first [] (Some n) e = absurd (cc)
listed_first (x ∷ xs) (Some n) e = (0, omega arith, cc)

-- the last is an element
pub has_last : (xs : List ℕ) (n : ℕ) → last_of xs ≡ Some n → Has n xs
has_last [] n e = absurd (cc)
has_last (x ∷ []) n e = λ ne. absurd (ne (cc))
has_last (x ∷ y ∷ ys) n e = λ _. has_last (y ∷ ys) n e

-- there is no last if and only if the list is empty
pub none_last : (xs : List ℕ) (o : Option ℕ) → o ≡ last_of xs → IsNone o ↔ (xs ≡ [])
none_last [] None e = (λ _. refl, λ _. refl)
none_last [] (Some n) e = absurd (cc)
none_last (x ∷ xs) None e = absurd (some x xs e)
  where
    some : (y : ℕ) (ys : List ℕ) → None ≡ last_of (y ∷ ys) → ⊥
    some y [] h = absurd (cc)
    some y (z ∷ zs) h = some z zs h
none_last (x ∷ xs) (Some n) e = (λ h. absurd (cc), λ h. absurd (cc))

-- the last is an element, in std's word
pub listed_last : (xs : List ℕ) (o : Option ℕ) → o ≡ last_of xs → IfSome o (Contains xs)
listed_last xs None e = tt
listed_last xs (Some n) e = contains_from_has n xs (has_last xs n (sym e))

has_first : (xs : List ℕ) (m : ℕ) → Some m ≡ first_of xs → Has m xs
has_first [] m e = absurd (cc)
has_first (x ∷ xs) m e = λ ne. absurd (ne (cc))

-- the one after a node is an element
has_next : (xs : List ℕ) (n m : ℕ) → Some m ≡ next_in xs n → Has m xs
has_next [] n m e = absurd (cc)
has_next (x ∷ xs) n m e =
    elim (cases_eq x n) [
      | inl s ↦ λ _. has_first xs m (rw (eq-eqb x n s) at e)
      | inr ne ↦ λ _. has_next xs n m (rw (ne_eqb x n ne) at e)
    ]

-- the same in std's word
pub listed_next : (xs : List ℕ) (n : ℕ) (o : Option ℕ) → o ≡ next_in xs n → IfSome o (Contains xs)
listed_next xs n None e = tt
listed_next xs n (Some m) e = contains_from_has m xs (has_next xs n m e)

-- a node with none after it is the last
last_from_none : (xs : List ℕ) (n : ℕ) → Has n xs → None ≡ next_in xs n → last_of xs ≡ Some n
last_from_none [] n h e = absurd h
last_from_none (x ∷ []) n h e = elim (cases_eq x n) [ inl s ↦ ap Some s | inr ne ↦ absurd (h ne) ]
last_from_none (x ∷ y ∷ ys) n h e =
    elim (cases_eq x n) [
      | inl s ↦ (let some : None ≡ Some y = rw (eq-eqb x n s) at e in absurd (cc))
      | inr ne ↦ last_from_none (y ∷ ys) n (h ne) (rw (ne_eqb x n ne) at e)
    ]

-- the last has none after it
none_from_last : (xs : List ℕ) (n m : ℕ) → IsApart xs → last_of xs ≡ Some n → Some m ≡ next_in xs n → ⊥
none_from_last [] n m a l e = absurd (cc)
none_from_last (x ∷ []) n m a l e = elim (cases_eq x n) [ inl s ↦ (let none : Some m ≡ None = rw (eq-eqb x n s) at e in absurd (cc)) | inr ne ↦ (let none : Some m ≡ None = rw (ne_eqb x n ne) at e in absurd (cc)) ]
none_from_last (x ∷ y ∷ ys) n m a l e =
    elim (cases_eq x n) [
      | inl s ↦ has_not_lacks n (y ∷ ys) (has_last (y ∷ ys) n l) (subst (λ (q : ℕ). Lacks q (y ∷ ys)) s a.0)
      | inr ne ↦ none_from_last (y ∷ ys) n m a.1 l (rw (ne_eqb x n ne) at e)
    ]

-- so there is none after a node if and only if it is the last
pub none_next : (xs : List ℕ) (n : ℕ) (o : Option ℕ) → Has n xs → IsApart xs → o ≡ next_in xs n → IsNone o ↔ (last_of xs ≡ Some n)
none_next xs n None h a e = (λ _. last_from_none xs n h e, λ _. refl)
none_next xs n (Some m) h a e = (λ k. absurd (cc), λ l. absurd (none_from_last xs n m a l e))
