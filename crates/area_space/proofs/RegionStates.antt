-- A region is free, live or old.
use Rattle.std.proofs.Common.{◌≡◌, ℕ, zero, suc, ◌/◌, ◌%◌, ◌<◌, Some, List, [], ◌∷◌, length, eq-eqb, subst, arith, inl, inr}
use Rattle.std.specs.Prelude.{Contains, ◌⊎◌, ◌↔◌, IsTrue, nat_eq}
use Rattle.std.proofs.lemmas.Bool.{cases_eq, eqb-true}
use Rattle.index_lists.specs.Chains.{Chains, IsListed, IsFree, list_at}
use Rattle.index_lists.specs.Members.{Has, Lacks}
use Rattle.index_lists.proofs.Members.{contains_from_has, has_from_contains, has_not_lacks}
use Rattle.index_lists.proofs.ListUpdates.{list_in}
use Rattle.area_space.specs.Sound.{IsTable}
use Rattle.area_space.specs.Table.{Table, chain, lists_of, live, stale, IsOld}

has_or_lacks : (q : ℕ) (xs : List ℕ) → Has q xs ⊎ Lacks q xs
has_or_lacks q [] = inr tt
has_or_lacks q (x ∷ xs) =
    elim (cases_eq x q) [
      | inl e ↦ inl (λ ne. absurd (ne e))
      | inr ne ↦ elim (has_or_lacks q xs) [
        | inl h ↦ inl (λ _. h)
        | inr l ↦ inr (ne, l)
      ]
    ]

listed_below : (c : Chains) (r n : ℕ) → IsListed c r ⊎ ((l : ℕ) → l < n → Contains (list_at c l) r → ⊥)
listed_below c r zero = inr (λ l low m. absurd (omega arith))
listed_below c r (suc n) =
    elim (listed_below c r n) [
      | inl found ↦ inl found
      | inr none ↦ elim (has_or_lacks r (list_at c n)) [
        | inl h ↦ inl (n, contains_from_has r (list_at c n) h)
        | inr l ↦ inr (λ k low m. elim (cases_eq k n) [
          | inl e ↦ has_not_lacks r (list_at c n) (subst (λ (j : ℕ). Has r (list_at c j)) e (has_from_contains r (list_at c k) m.0 m.1 m.2)) l
          | inr ne ↦ none k (omega arith) m
        ])
      ]
    ]

-- a region is in some chain or is free
pub listed_or_free : (c : Chains) (r : ℕ) → IsListed c r ⊎ IsFree c r
listed_or_free c r =
    elim (listed_below c r (length c.lists)) [
      | inl found ↦ inl found
      | inr none ↦ inr (λ l m. none l (list_in c l r m) m)
    ]

-- a class is live or old
pub half_cases : (class : ℕ) → (class ≡ live (class / 2)) ⊎ (class ≡ stale (class / 2))
half_cases class = elim (cases_eq (class % 2) 0) [ inl e ↦ inl (omega arith) | inr ne ↦ inr (omega arith) ]

-- a region is old or isn't
pub old_or_not : (t : Table) (r : ℕ) → IsTable t → IsOld t r ⊎ (IsOld t r → ⊥)
old_or_not t r v =
    elim (listed_or_free (lists_of t) r) [
      | inl (class, m) ↦ elim (half_cases class) [
        | inl e ↦ inr (λ old. (let one = v.sound.one_list class (stale old.0) r m old.1 in absurd (omega arith)))
        | inr e ↦ inl (class / 2, subst (λ (k : ℕ). Contains (chain t k) r) e m)
      ]
      | inr free ↦ inr (λ old. free (stale old.0) old.1)
    ]

-- an odd class is old
pub odd_is_old : (t : Table) (class r : ℕ) → Contains (chain t class) r → ((k : ℕ) → Contains (chain t k) r → Some class ≡ Some k) → IsTrue (nat_eq (class % 2) 1) ↔ IsOld t r
odd_is_old t class r m only = (
  (λ odd.
      let one : class % 2 ≡ 1 = eqb-true (class % 2) 1 odd in
      let e : class ≡ stale (class / 2) = omega arith in
      (class / 2, subst (λ (k : ℕ). Contains (chain t k) r) e m)),
  (λ old.
      let e : class ≡ stale old.0 = (let f = only (stale old.0) old.1 in cc) in
      eq-eqb (class % 2) 1 (omega arith)),
)
