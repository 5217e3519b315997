-- A search finds the lowest page.
use Rattle.std.proofs.Common.{◌≡◌, ℕ, ◌+◌, ◌<◌, ◌≤◌, true, false, Option, Some, None, refl, ap, subst, ◌∙◌, arith, inl, inr, if◌then◌else◌, List}
use Rattle.std.proofs.lemmas.Bool.{cond_both, leb-true, leb-false, cases_eq, cases_lt, ne_eqb, eqb-false, not-true, not-false, eqb-true}
use Rattle.std.proofs.lemmas.Nat.Bits.{bit_at_or, bit_at_and, bit_at-lt, bit_at-zero, same_from_bits}
use Rattle.std.specs.Int.{bit_at}
use Rattle.std.specs.Int.RustNames.{bit_or, bit_and}
use Rattle.std.specs.Prelude.{nat_le}
use Rattle.store_word.specs.Sets.{Meets}
use Rattle.store_word.specs.declared.levels.Levels.{Levels}
use Rattle.ref_table.specs.Search.{or_else, found_from}
use Rattle.ref_table.specs.Sets.{set_at, do_meet}
use Rattle.ref_table.specs.Tree.{Tree, occurrences, below, IsOrdered, Leaf, Fork}
use Rattle.ref_table.proofs.Occurrences.{one, one_same, occurrences_before, occurrences_after}

union_apart : (a b l : ℕ) → bit_and (bit_or a b) l ≡ 0 → (bit_and a l ≡ 0) × (bit_and b l ≡ 0)
union_apart a b l e =
    let each : (i : ℕ) → bit_at (bit_and (bit_or a b) l) i ≡ 0 = λ i. ap (λ n. bit_at n i) e ∙ bit_at-zero i in (
      same_from_bits (bit_and a l) 0 (λ i. let x = each i in let p = bit_at_and (bit_or a b) l i in let q = bit_at_or a b i in let r = bit_at_and a l i in let u = bit_at-lt a i in let v = bit_at-lt b i in let w = bit_at-lt l i in let z = bit_at-zero i in omega (arith, x, p, q, r, u, v, w, z)),
      same_from_bits (bit_and b l) 0 (λ i. let x = each i in let p = bit_at_and (bit_or a b) l i in let q = bit_at_or a b i in let r = bit_at_and b l i in let u = bit_at-lt a i in let v = bit_at-lt b i in let w = bit_at-lt l i in let z = bit_at-zero i in omega (arith, x, p, q, r, u, v, w, z)),
    )

-- a page of a tree do_meet only what the tree do_meet
below_apart : (sets : List Levels) (levels k : ℕ) (t : Tree) → bit_and (below sets t) levels ≡ 0 → 0 < occurrences k t → bit_and (set_at sets k) levels ≡ 0
below_apart sets levels k Leaf e z = absurd (omega arith)
below_apart sets levels k (Fork l p r) e z =
    let outer = union_apart (bit_or (set_at sets p) (below sets l)) (below sets r) levels e in
    let inner = union_apart (set_at sets p) (below sets l) levels outer.0 in
    elim (cases_eq k p) [
      | inl same ↦ ap (λ n. bit_and (set_at sets n) levels) same ∙ inner.0
      | inr ne ↦ (
          let n : one k p ≡ 0 = rw (ne_eqb k p ne) refl in
          elim (cases_eq (occurrences k l) 0) [
            | inl none ↦ below_apart sets levels k r outer.1 (omega arith)
            | inr some ↦ below_apart sets levels k l inner.1 (omega arith)
          ])
    ]

-- what is looked for in one tree
abbrev pub IsNextIn : List Levels → ℕ → ℕ → Tree → Option ℕ → Type 0
IsNextIn sets from levels t None = (k : ℕ) → from ≤ k → 0 < occurrences k t → ¬ Meets (set_at sets k) levels
IsNextIn sets from levels t (Some q) = (from ≤ q) × (0 < occurrences q t) × (Meets (set_at sets q) levels × ((k : ℕ) → from ≤ k → k < q → 0 < occurrences k t → ¬ Meets (set_at sets k) levels))

do_meet_true : (a b : ℕ) → do_meet a b ≡ true → Meets a b
do_meet_true a b e z = let n = not-true _ e in eqb-false _ _ n z

do_meet_false : (a b : ℕ) → do_meet a b ≡ false → bit_and a b ≡ 0
do_meet_false a b e = eqb-true _ _ (not-false _ e)

-- no match on the left side or at the root: the next one on the right side
next_right : (sets : List Levels) (from levels lo hi : ℕ) (l : Tree) (p : ℕ) (r : Tree) (o : Option ℕ) → IsOrdered lo hi (Fork l p r)
    → ((k : ℕ) → from ≤ k → 0 < occurrences k l → ¬ Meets (set_at sets k) levels) → (from ≤ p → ¬ Meets (set_at sets p) levels) → IsNextIn sets from levels r o → IsNextIn sets from levels (Fork l p r) o
next_right sets from levels lo hi l p r None ord left here h = λ k a z.
    elim (cases_eq k p) [
      | inl same ↦ (λ m. here (omega (arith, same, a)) (subst (λ n. Meets (set_at sets n) levels) same m))
      | inr ne ↦ (
          let n : one k p ≡ 0 = rw (ne_eqb k p ne) refl in
          elim (cases_eq (occurrences k l) 0) [ inl none ↦ h k a (omega arith) | inr some ↦ left k a (omega arith) ])
    ]
next_right sets from levels lo hi l p r (Some q) ord left here h =
    let h1 = h.1 in (
      h.0,
      omega arith,
      (
        h.2.0,
        λ k a b z.
            elim (cases_eq k p) [
              | inl same ↦ (λ m. here (omega (arith, same, a)) (subst (λ n. Meets (set_at sets n) levels) same m))
              | inr ne ↦ (
                  let n : one k p ≡ 0 = rw (ne_eqb k p ne) refl in
                  elim (cases_eq (occurrences k l) 0) [ inl none ↦ h.2.1 k a b (omega arith) | inr some ↦ left k a (omega arith) ])
            ],
      ),
    )

next_left : (sets : List Levels) (from levels lo hi : ℕ) (l : Tree) (p : ℕ) (r : Tree) (o : Option ℕ) → IsOrdered lo hi (Fork l p r) → from ≤ p → IsNextIn sets from levels l o → IsNextIn sets from levels r (found_from sets from levels r)
    → IsNextIn sets from levels (Fork l p r) (or_else o (if do_meet (set_at sets p) levels then Some p else found_from sets from levels r))
next_left sets from levels lo hi l p r None ord a h g =
    cond_both (do_meet (set_at sets p) levels) _ _ (IsNextIn sets from levels (Fork l p r))
    (λ y. let s = one_same p in (
      a,
      omega arith,
      (
        do_meet_true _ _ y,
        λ k b low z.
            let n : one k p ≡ 0 = rw (ne_eqb k p (λ e. omega (arith, e, low))) refl in
            let none = occurrences_before k (p + 1) hi r (omega (arith, low)) ord.2.1 in
            h k b (omega arith),
      ),
    ))
    (λ n. next_right sets from levels lo hi l p r (found_from sets from levels r) ord h (λ _ m. m (do_meet_false _ _ n)) g)
next_left sets from levels lo hi l p r (Some q) ord a h g =
    let h1 = h.1 in (
      h.0,
      omega arith,
      (
        h.2.0,
        λ k b low z.
            elim (cases_lt q p) [
              | inl inside ↦ (
                  let n : one k p ≡ 0 = rw (ne_eqb k p (λ e. omega (arith, e, low, inside))) refl in
                  let none = occurrences_before k (p + 1) hi r (omega (arith, low, inside)) ord.2.1 in
                  h.2.1 k b low (omega arith))
              | inr outside ↦ (let zero' = occurrences_after q lo p l outside ord.2.0 in absurd (omega arith))
            ],
      ),
    )

pub found_next : (sets : List Levels) (from levels lo hi : ℕ) (t : Tree) → IsOrdered lo hi t → IsNextIn sets from levels t (found_from sets from levels t)
found_next sets from levels lo hi Leaf ord = λ k a z. absurd (omega arith)
found_next sets from levels lo hi (Fork l p r) ord =
    cond_both (do_meet (below sets (Fork l p r)) levels) _ _ (IsNextIn sets from levels (Fork l p r))
    (λ _. cond_both (nat_le from p) _ _ (IsNextIn sets from levels (Fork l p r))
    (λ a. next_left sets from levels lo hi l p r (found_from sets from levels l) ord (leb-true _ _ a) (found_next sets from levels lo p l ord.2.0) (found_next sets from levels (p + 1) hi r ord.2.1))
    (λ b. let n = leb-false _ _ b in next_right sets from levels lo hi l p r (found_from sets from levels r) ord
    (λ k a z. let none = occurrences_after k lo p l (omega (arith, n, a)) ord.2.0 in absurd (omega arith))
    (λ c. absurd (omega arith))
    (found_next sets from levels (p + 1) hi r ord.2.1)))
    (λ no. λ k a z m. m (below_apart sets levels k (Fork l p r) (do_meet_false _ _ no) z))
