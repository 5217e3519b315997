-- What callers need: the other lists after one has changed, and what a list has after a node was added or removed.
use Rattle.std.proofs.Common.{◌≡◌, ◌≢◌, ℕ, ◌+◌, ◌<◌, eqb, Some, List, [], ◌∷◌, ◌++◌, length, refl, sym, ap, subst, ◌∙◌, arith, inl, inr, get_or-set_same, get_or-set_other, length-set}
use Rattle.std.specs.Prelude.{Contains}
use Rattle.std.specs.List.{IsDistinct}
use Rattle.std.proofs.lemmas.Bool.{cases_eq, cases_lt}
use Rattle.std.proofs.lemmas.List.{get_or_past}
use Rattle.index_lists.specs.Members.{Lacks, IsApart, Has}
use Rattle.index_lists.specs.Chains.{Chains, list_at, without, with_list, first_of, last_of, IsFree, IsSound}
use Rattle.index_lists.proofs.Ends.{has_last}
use Rattle.index_lists.proofs.Members.{has_not_lacks, has_from_contains, contains_from_has, apart_from_distinct, has_push_old, has_push_new, without_absent, without_here, without_there, has_without, has_without_back, lacks_itself}

-- one list has changed

pub length-with_list : (c : Chains) (l : ℕ) (xs : List ℕ) → length (with_list c l xs).lists ≡ length c.lists
length-with_list c l xs = length-set c.lists l xs

pub list_at-with_list_same : (c : Chains) (l : ℕ) (xs : List ℕ) → l < length c.lists → list_at (with_list c l xs) l ≡ xs
list_at-with_list_same c l xs b = get_or-set_same c.lists l xs [] b

pub list_at-with_list_other : (c : Chains) (l : ℕ) (xs : List ℕ) (k : ℕ) → k ≢ l → list_at (with_list c l xs) k ≡ list_at c k
list_at-with_list_other c l xs k ne = get_or-set_other c.lists l k xs [] ne

-- a list that has a node is one of the lists
pub list_in : (c : Chains) (l n : ℕ) → Contains (list_at c l) n → l < length c.lists
list_in c l n m =
    elim (cases_lt l (length c.lists)) [
      | inl b ↦ b
      | inr b ↦ let none = subst (λ (ys : List ℕ). Contains ys n) (get_or_past c.lists l [] b) m in absurd (omega arith)
    ]

-- the ends of a list

pub Contains-first : (xs : List ℕ) (n : ℕ) → first_of xs ≡ Some n → Contains xs n
Contains-first [] n e = absurd (cc)
Contains-first (x ∷ xs) n e = (0, omega arith, cc)

pub without-first : (n : ℕ) (xs : List ℕ) → IsDistinct eqb (n ∷ xs) → without n (n ∷ xs) ≡ xs
without-first n xs d = without_here n n xs refl ∙ without_absent n xs (apart_from_distinct (n ∷ xs) d).0

-- the last node, put at the end once more
pub without-last : (n : ℕ) (xs : List ℕ) → IsDistinct eqb xs → last_of xs ≡ Some n → without n xs ++ n ∷ [] ≡ xs
without-last n xs d e = again xs (apart_from_distinct xs d) e
  where
    again : (ys : List ℕ) → IsApart ys → last_of ys ≡ Some n → without n ys ++ n ∷ [] ≡ ys
    again [] a h = absurd (cc)
    again (y ∷ []) a h = (let s : y ≡ n = cc in rw (without_here n y [] s) (ap (λ (q : ℕ). q ∷ []) (sym s)))
    again (y ∷ z ∷ zs) a h =
        let ne : y ≢ n = λ s. has_not_lacks n (z ∷ zs) (has_last (z ∷ zs) n h) (subst (λ (q : ℕ). Lacks q (z ∷ zs)) s a.0) in
        rw (without_there n y (z ∷ zs) ne) (ap (λ (ys : List ℕ). y ∷ ys) (again (z ∷ zs) a.1 h))

-- a node was added to a list

pub Contains-push_old : (q n : ℕ) (xs : List ℕ) → Contains xs q → Contains (xs ++ n ∷ []) q
Contains-push_old q n xs m = contains_from_has q _ (has_push_old q n xs (has_from_contains q xs m.0 m.1 m.2))

pub Contains-push_new : (n : ℕ) (xs : List ℕ) → Contains (xs ++ n ∷ []) n
Contains-push_new n xs = contains_from_has n _ (has_push_new n xs)

pub Contains-push_back : (q n : ℕ) (xs : List ℕ) → Contains (xs ++ n ∷ []) q → q ≢ n → Contains xs q
Contains-push_back q n xs m ne = contains_from_has q xs (back xs (has_from_contains q _ m.0 m.1 m.2))
  where
    back : (ys : List ℕ) → Has q (ys ++ n ∷ []) → Has q ys
    back [] h = absurd (h (λ e. ne (sym e)))
    back (y ∷ ys) h = λ t. back ys (h t)

-- a node was removed from a list

pub Contains-without : (n q : ℕ) (xs : List ℕ) → q ≢ n → Contains xs q → Contains (without n xs) q
Contains-without n q xs ne m = contains_from_has q _ (has_without q n xs ne (has_from_contains q xs m.0 m.1 m.2))

pub Contains-without_back : (n q : ℕ) (xs : List ℕ) → Contains (without n xs) q → Contains xs q
Contains-without_back n q xs m = contains_from_has q xs (has_without_back q n xs (has_from_contains q _ m.0 m.1 m.2))

pub not_in_without : (n : ℕ) (xs : List ℕ) → Contains (without n xs) n → ⊥
not_in_without n xs m = has_not_lacks n (without n xs) (has_from_contains n _ m.0 m.1 m.2) (lacks_itself n xs)

pub length-without : (n : ℕ) (xs : List ℕ) → Contains xs n → IsDistinct eqb xs → length xs ≡ length (without n xs) + 1
length-without n xs m d = shorter xs (has_from_contains n xs m.0 m.1 m.2) (apart_from_distinct xs d)
  where
    shorter : (ys : List ℕ) → Has n ys → IsApart ys → length ys ≡ length (without n ys) + 1
    shorter [] h a = absurd h
    shorter (y ∷ ys) h a =
        elim (cases_eq y n) [
          | inl e ↦ (let same : length (without n (y ∷ ys)) ≡ length ys = ap length (without_here n y ys e ∙ without_absent n ys (subst (λ (k : ℕ). Lacks k ys) e a.0)) in omega arith)
          | inr ne ↦ (let rest = shorter ys (h ne) a.1 in let same : length (without n (y ∷ ys)) ≡ length (without n ys) + 1 = (rw without_there (omega arith)) in omega arith)
        ]

-- a node that was removed from its list is in none
pub free_from_without : (c : Chains) (n l : ℕ) → IsSound c → Contains (list_at c l) n → IsFree (with_list c l (without n (list_at c l))) n
free_from_without c n l s m k there =
    elim (cases_eq k l) [
      | inl e ↦ not_in_without n (list_at c l) (subst (λ (ys : List ℕ). Contains ys n) (ap (list_at (with_list c l _)) e ∙ list_at-with_list_same c l _ (list_in c l n m)) there)
      | inr ne ↦ ne (s.one_list k l n (subst (λ (ys : List ℕ). Contains ys n) (list_at-with_list_other c l _ k ne) there) m)
    ]
