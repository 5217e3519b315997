-- Lists of numbers: what they have and lack, and what they have after a number is taken out.
use Rattle.std.proofs.Common.{◌≡◌, ◌≢◌, ℕ, zero, suc, ◌<◌, false, eqb, List, [], ◌∷◌, ◌++◌, length, get_or, refl, sym, ap, subst, ◌∙◌, arith, inl, inr}
use Rattle.std.specs.Prelude.{Contains}
use Rattle.std.specs.List.{IsDistinct, AllByRecursion}
use Rattle.std.proofs.lemmas.Bool.{eq-eqb, eqb-false, ne_eqb, cases_eq}
use Rattle.index_lists.specs.Members.{Lacks, IsApart, Has}
use Rattle.index_lists.specs.Chains.{without}

-- no list both has and lacks a number
pub has_not_lacks : (q : ℕ) (xs : List ℕ) → Has q xs → Lacks q xs → ⊥
has_not_lacks q [] h l = h
has_not_lacks q (x ∷ xs) h l = has_not_lacks q xs (h l.0) l.1

-- a list that doesn't have a number lacks it
pub lacks_from_not : (q : ℕ) (xs : List ℕ) → (Has q xs → ⊥) → Lacks q xs
lacks_from_not q [] h = tt
lacks_from_not q (x ∷ xs) h = ((λ e. h (λ ne. absurd (ne e))), lacks_from_not q xs (λ m. h (λ _. m)))

-- std's words for the same facts

pub has_from_contains : (q : ℕ) (xs : List ℕ) (k : ℕ) → k < length xs → get_or xs k q ≡ q → Has q xs
has_from_contains q [] k b e = omega arith
has_from_contains q (x ∷ xs) zero b e = λ ne. absurd (ne e)
has_from_contains q (x ∷ xs) (suc k) b e = λ ne. has_from_contains q xs k (omega arith) e

pub contains_from_has : (q : ℕ) (xs : List ℕ) → Has q xs → Contains xs q
contains_from_has q [] h = absurd h
contains_from_has q (x ∷ xs) h =
    elim (cases_eq x q) [
      | inl e ↦ (0, omega arith, e)
      | inr ne ↦ let later = contains_from_has q xs (h ne) in (suc later.0, omega arith, later.2)
    ]

pub distinct_from_apart : (xs : List ℕ) → IsApart xs → IsDistinct eqb xs
unfolding IsDistinct
distinct_from_apart [] a = tt
distinct_from_apart (x ∷ xs) a = (differs x xs a.0, distinct_from_apart xs a.1)
  where
    differs : (q : ℕ) (ys : List ℕ) → Lacks q ys → AllByRecursion (λ y. eqb q y ≡ false) ys
    differs q [] l = tt
    differs q (y ∷ ys) l = (ne_eqb q y (λ e. l.0 (sym e)), differs q ys l.1)

pub apart_from_distinct : (xs : List ℕ) → IsDistinct eqb xs → IsApart xs
unfolding IsDistinct
apart_from_distinct [] d = tt
apart_from_distinct (x ∷ xs) d = (differs x xs d.0, apart_from_distinct xs d.1)
  where
    differs : (q : ℕ) (ys : List ℕ) → AllByRecursion (λ y. eqb q y ≡ false) ys → Lacks q ys
    differs q [] l = tt
    differs q (y ∷ ys) l = ((λ e. eqb-false q y l.0 (sym e)), differs q ys l.1)

-- a number is put at the end

-- what was there is there
pub has_push_old : (q n : ℕ) (xs : List ℕ) → Has q xs → Has q (xs ++ n ∷ [])
has_push_old q n [] h = absurd h
has_push_old q n (x ∷ xs) h = λ ne. has_push_old q n xs (h ne)

-- so is the new one
pub has_push_new : (n : ℕ) (xs : List ℕ) → Has n (xs ++ n ∷ [])
has_push_new n [] = λ ne. ne refl
has_push_new n (x ∷ xs) = λ ne. has_push_new n xs

-- another number is lacking still
pub lacks_push : (q n : ℕ) (xs : List ℕ) → n ≢ q → Lacks q xs → Lacks q (xs ++ n ∷ [])
lacks_push q n [] ne l = (ne, tt)
lacks_push q n (x ∷ xs) ne l = (l.0, lacks_push q n xs ne l.1)

-- no number occurs twice, if the list lacked the new one
pub apart_push : (n : ℕ) (xs : List ℕ) → Lacks n xs → IsApart xs → IsApart (xs ++ n ∷ [])
apart_push n [] l a = (tt, tt)
apart_push n (x ∷ xs) l a = (lacks_push x n xs (λ e. l.0 (sym e)) a.0, apart_push n xs l.1 a.1)

-- a number is taken out

-- a number that a list lacks is not taken out
pub without_absent : (n : ℕ) (xs : List ℕ) → Lacks n xs → without n xs ≡ xs
without_absent n [] l = refl
without_absent n (x ∷ xs) l = rw (ne_eqb x n l.0) (ap (λ (ys : List ℕ). x ∷ ys) (without_absent n xs l.1))

-- the first is taken out
pub without_here : (n x : ℕ) (xs : List ℕ) → x ≡ n → without n (x ∷ xs) ≡ without n xs
without_here n x xs e = rw (eq-eqb x n e) refl

-- the first stays
pub without_there : (n x : ℕ) (xs : List ℕ) → x ≢ n → without n (x ∷ xs) ≡ x ∷ without n xs
without_there n x xs e = rw (ne_eqb x n e) refl

-- the others stay
pub has_without : (q n : ℕ) (xs : List ℕ) → q ≢ n → Has q xs → Has q (without n xs)
has_without q n [] ne h = h
has_without q n (x ∷ xs) ne h =
    elim (cases_eq x n) [
      | inl e ↦ subst (Has q) (sym (without_here n x xs e)) (has_without q n xs ne (h (λ s. ne (sym s ∙ e))))
      | inr x_ne ↦ subst (Has q) (sym (without_there n x xs x_ne)) (λ t. has_without q n xs ne (h t))
    ]

-- nothing is new
pub has_without_back : (q n : ℕ) (xs : List ℕ) → Has q (without n xs) → Has q xs
has_without_back q n [] h = h
has_without_back q n (x ∷ xs) h =
    elim (cases_eq x n) [
      | inl e ↦ λ _. has_without_back q n xs (subst (Has q) (without_here n x xs e) h)
      | inr ne ↦ (let h' = subst (Has q) (without_there n x xs ne) h in λ t. has_without_back q n xs (h' t))
    ]

-- what was lacking is so still
pub lacks_without : (q n : ℕ) (xs : List ℕ) → Lacks q xs → Lacks q (without n xs)
lacks_without q n [] l = tt
lacks_without q n (x ∷ xs) l =
    elim (cases_eq x n) [
      | inl e ↦ subst (Lacks q) (sym (without_here n x xs e)) (lacks_without q n xs l.1)
      | inr ne ↦ subst (Lacks q) (sym (without_there n x xs ne)) (l.0, lacks_without q n xs l.1)
    ]

-- the number that was taken out is lacking
pub lacks_itself : (n : ℕ) (xs : List ℕ) → Lacks n (without n xs)
lacks_itself n [] = tt
lacks_itself n (x ∷ xs) =
    elim (cases_eq x n) [
      | inl e ↦ subst (Lacks n) (sym (without_here n x xs e)) (lacks_itself n xs)
      | inr ne ↦ subst (Lacks n) (sym (without_there n x xs ne)) (ne, lacks_itself n xs)
    ]

-- no number occurs twice
pub apart_without : (n : ℕ) (xs : List ℕ) → IsApart xs → IsApart (without n xs)
apart_without n [] a = tt
apart_without n (x ∷ xs) a =
    elim (cases_eq x n) [
      | inl e ↦ subst IsApart (sym (without_here n x xs e)) (apart_without n xs a.1)
      | inr ne ↦ subst IsApart (sym (without_there n x xs ne)) (lacks_without x n xs a.0, apart_without n xs a.1)
    ]
