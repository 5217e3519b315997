-- The set of free regions, as chains change.
use Rattle.std.proofs.Common.{◌≡◌, ◌≢◌, ℕ, zero, suc, ◌-◌, ◌<◌, ◌≤◌, Option, Some, None, List, [], ◌∷◌, ◌++◌, length, slice_index_or, replicate, refl, sym, ◌∙◌, ap, subst, arith, inl, inr, length-set}
use Rattle.std.specs.Prelude.{Contains, IsSome}
use Rattle.std.proofs.lemmas.Bool.{cases_eq}
use Rattle.std.proofs.lemmas.List.Elements.{Contains-append_cases, Contains-append_left, Contains-append_right}
use Rattle.index_lists.specs.Chains.{Chains, IsFree, IsSound, list_at, with_list, without, first_of}
use Rattle.index_lists.specs.Members.{Has}
use Rattle.index_lists.proofs.Members.{has_from_contains}
use Rattle.index_lists.proofs.ListUpdates.{list_at-with_list_same, list_at-with_list_other, list_in, Contains-first, Contains-push_old, Contains-push_new, Contains-push_back, Contains-without, Contains-without_back, free_from_without}
use Rattle.area_space.specs.PageList.{PageList, IsAscending, Adds, Drops}
use Rattle.area_space.specs.FreeSet.{HoldsFree}

-- no element is below the first
ascending_first : (x : ℕ) (xs : List ℕ) → IsAscending (x ∷ xs) → (q : ℕ) → Has q (x ∷ xs) → x ≤ q
ascending_first x [] a q h = elim (cases_eq x q) [ inl e ↦ omega arith | inr ne ↦ absurd (h ne) ]
ascending_first x (y ∷ ys) a q h = elim (cases_eq x q) [ inl e ↦ omega arith | inr ne ↦ (let i = ascending_first y ys a.1 q (h ne) in let b = a.0 in omega arith) ]

-- an option that is not None has a value
pub some_unless : (o : Option ℕ) → (o ≡ None → ⊥) → IsSome o
some_unless None absent = absurd (absent refl)
some_unless (Some r) absent = refl

-- the first of the set is the lowest free region
pub first_is_lowest : (set : PageList) (c : Chains) (r : ℕ) → HoldsFree set c → first_of set.pages ≡ Some r
    → (r < c.nodes) × IsFree c r × ((q : ℕ) → q < r → IsFree c q → ⊥)
first_is_lowest set c r h first =
    let here = (h.members r).0 (Contains-first set.pages r first) in (
      here.0,
      here.1,
      λ q low free.
          let m = (h.members q).1 (omega (arith, here.0), free) in
          below set.pages h.ascending first q m low,
    )
  where
    below : (xs : List ℕ) → IsAscending xs → first_of xs ≡ Some r → (q : ℕ) → Contains xs q → q < r → ⊥
    below [] a e q m low = absurd (omega (arith, m.1))
    below (x ∷ xs) a e q m low = (let same : x ≡ r = cc in let l = ascending_first x xs a q (has_from_contains q (x ∷ xs) m.0 m.1 m.2) in omega arith)

-- if the set is empty, no region is free
pub none_is_free : (set : PageList) (c : Chains) → HoldsFree set c → first_of set.pages ≡ None → (r : ℕ) → r < c.nodes → IsFree c r → ⊥
none_is_free set c h first r low free = empty set.pages first ((h.members r).1 (low, free))
  where
    empty : (xs : List ℕ) → first_of xs ≡ None → Contains xs r → ⊥
    empty [] e m = absurd (omega (arith, m.1))
    empty (x ∷ xs) e m = absurd (cc)

-- a free region is put at the end of a chain
pub holds_pushed : (set less : PageList) (c : Chains) (l r : ℕ) → l < length c.lists → HoldsFree set c → Drops set less r → HoldsFree less (with_list c l (list_at c l ++ r ∷ []))
holds_pushed set less c l r b h d =
    let next : Chains = with_list c l (list_at c l ++ r ∷ []) in
    let here = list_at-with_list_same c l (list_at c l ++ r ∷ []) b in
    let other : (k : ℕ) → k ≢ l → list_at next k ≡ list_at c k = list_at-with_list_other c l (list_at c l ++ r ∷ []) in
    record {
      bound = d.count ∙ h.bound;
      ascending = d.ascending;
      members = λ q. (
        (λ m.
            let was = (d.members q).0 m in
            let free = (h.members q).0 was.0 in (
              free.0,
              λ k n. elim (cases_eq k l) [
                | inl e ↦ free.1 l (Contains-push_back q r (list_at c l) (subst (λ (xs : List ℕ). Contains xs q) (ap (list_at next) e ∙ here) n) was.1)
                | inr ne ↦ free.1 k (subst (λ (xs : List ℕ). Contains xs q) (other k ne) n)
              ],
            )),
        (λ (low, free).
            let was : IsFree c q = λ k n. elim (cases_eq k l) [
              | inl e ↦ free l (subst (λ (xs : List ℕ). Contains xs q) (sym here) (Contains-push_old q r (list_at c l) (subst (λ (j : ℕ). Contains (list_at c j) q) e n)))
              | inr ne ↦ free k (subst (λ (xs : List ℕ). Contains xs q) (sym (other k ne)) n)
            ] in
            (d.members q).1 ((h.members q).1 (low, was), λ e. free l (subst (Contains (list_at next l)) (sym e) (subst (λ (xs : List ℕ). Contains xs r) (sym here) (Contains-push_new r (list_at c l)))))),
      );
    }

-- a region leaves its chain
pub holds_released : (set more : PageList) (c : Chains) (l r : ℕ) → IsSound c → Contains (list_at c l) r → HoldsFree set c → Adds set more r r → HoldsFree more (with_list c l (without r (list_at c l)))
holds_released set more c l r sound held h d =
    let next : Chains = with_list c l (without r (list_at c l)) in
    let b = list_in c l r held in
    let here = list_at-with_list_same c l (without r (list_at c l)) b in
    let other : (k : ℕ) → k ≢ l → list_at next k ≡ list_at c k = list_at-with_list_other c l (without r (list_at c l)) in
    let stays : (q : ℕ) → IsFree c q → IsFree next q = λ q free k n. elim (cases_eq k l) [
      | inl e ↦ free l (Contains-without_back r q (list_at c l) (subst (λ (xs : List ℕ). Contains xs q) (ap (list_at next) e ∙ here) n))
      | inr ne ↦ free k (subst (λ (xs : List ℕ). Contains xs q) (other k ne) n)
    ] in
    let was : (q : ℕ) → q ≢ r → IsFree next q → IsFree c q = λ q ne free k n. elim (cases_eq k l) [
      | inl e ↦ free l (subst (λ (xs : List ℕ). Contains xs q) (sym here) (Contains-without r q (list_at c l) ne (subst (λ (j : ℕ). Contains (list_at c j) q) e n)))
      | inr m ↦ free k (subst (λ (xs : List ℕ). Contains xs q) (sym (other k m)) n)
    ] in
    record {
      bound = d.count ∙ h.bound;
      ascending = d.ascending;
      members = λ q. (
        (λ m. elim ((d.members q).0 m) [
          | inl old ↦ (let free = (h.members q).0 old in (free.0, stays q free.1))
          | inr same ↦ (let e : r ≡ q = omega (arith, same.0, same.1) in subst (λ (k : ℕ). (k < c.nodes) × IsFree next k) e (sound.within l r held, free_from_without c r l sound held))
        ]),
        (λ (low, free). (d.members q).1 (elim (cases_eq q r) [
          | inl e ↦ inr (omega arith, omega arith)
          | inr ne ↦ inl ((h.members q).1 (low, was q ne free))
        ])),
      );
    }

-- the regions of a chain are put after those of another
pub holds_moved : (set : PageList) (c : Chains) (to from : ℕ) → to < length c.lists → from < length c.lists → to ≢ from → HoldsFree set c
    → HoldsFree set (with_list (with_list c from []) to (list_at c to ++ list_at c from))
holds_moved set c to from bt bf ne h =
    let mid : Chains = with_list c from [] in
    let next : Chains = with_list mid to (list_at c to ++ list_at c from) in
    let b : to < length mid.lists = (let s = length-set c.lists from [] in omega arith) in
    let at_to : list_at next to ≡ list_at c to ++ list_at c from = list_at-with_list_same mid to (list_at c to ++ list_at c from) b in
    let at_from : list_at next from ≡ [] = list_at-with_list_other mid to (list_at c to ++ list_at c from) from (λ e. ne (sym e)) ∙ list_at-with_list_same c from [] bf in
    let other : (k : ℕ) → k ≢ to → k ≢ from → list_at next k ≡ list_at c k = λ k n m. list_at-with_list_other mid to (list_at c to ++ list_at c from) k n ∙ list_at-with_list_other c from [] k m in
    let stays : (q : ℕ) → IsFree c q → IsFree next q = λ q free k n. elim (cases_eq k to) [
      | inl e ↦ elim (Contains-append_cases (list_at c to) (list_at c from) q (subst (λ (xs : List ℕ). Contains xs q) (ap (list_at next) e ∙ at_to) n)) [
        | inl x ↦ free to x
        | inr x ↦ free from x
      ]
      | inr m ↦ elim (cases_eq k from) [
        | inl e ↦ (let x = subst (λ (xs : List ℕ). Contains xs q) (ap (list_at next) e ∙ at_from) n in absurd (omega (arith, x.1)))
        | inr j ↦ free k (subst (λ (xs : List ℕ). Contains xs q) (other k m j) n)
      ]
    ] in
    let was : (q : ℕ) → IsFree next q → IsFree c q = λ q free k n. elim (cases_eq k to) [
      | inl e ↦ free to (subst (λ (xs : List ℕ). Contains xs q) (sym at_to) (Contains-append_left (list_at c to) (list_at c from) q (subst (λ (j : ℕ). Contains (list_at c j) q) e n)))
      | inr m ↦ elim (cases_eq k from) [
        | inl e ↦ free to (subst (λ (xs : List ℕ). Contains xs q) (sym at_to) (Contains-append_right (list_at c to) (list_at c from) q (subst (λ (j : ℕ). Contains (list_at c j) q) e n)))
        | inr j ↦ free k (subst (λ (xs : List ℕ). Contains xs q) (sym (other k m j)) n)
      ]
    ] in
    record {
      bound = h.bound;
      ascending = h.ascending;
      members = λ q. ((λ m. let f = (h.members q).0 m in (f.0, stays q f.1)), (λ (low, free). (h.members q).1 (low, was q free)));
    }

-- a chain of none
pub empties : (n c : ℕ) → (let none : List ℕ = [] in slice_index_or (replicate n none) c none ≡ none)
empties zero c = refl
empties (suc n) zero = refl
empties (suc n) (suc c) = empties n c

-- if no chain has a region, all are free
pub holds_all : (set more : PageList) (regions lists : ℕ) → 0 < regions → set ≡ record { count = regions; pages = [] } → Adds set more 0 (regions - 1)
    → HoldsFree more (record { nodes = regions; lists = replicate lists [] })
holds_all set more regions lists some is d =
    let free : (q : ℕ) → IsFree (record { nodes = regions; lists = replicate lists [] }) q = λ q l m. (let x = subst (λ (xs : List ℕ). Contains xs q) (empties lists l) m in absurd (omega (arith, x.1))) in
    record {
      bound = d.count ∙ ap (λ (s : PageList). s.count) is;
      ascending = d.ascending;
      members = λ q. (
        (λ m. elim ((d.members q).0 m) [
          | inl old ↦ (let x = subst (λ (s : PageList). Contains s.pages q) is old in absurd (omega (arith, x.1)))
          | inr span ↦ (omega (arith, span.1), free q)
        ]),
        (λ (low, f). (d.members q).1 (inr (omega arith, omega arith))),
      );
    }
