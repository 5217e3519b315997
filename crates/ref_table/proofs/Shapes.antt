-- Trees are in balance after rotation, insertion and removal.
use Rattle.std.proofs.Common.{◌≡◌, ℕ, ◌+◌, ◌≤◌, max, Option, Some, None, refl, arith, inl, inr}
use Rattle.std.proofs.lemmas.Bool.{cond_both, ltb-true, ltb-false, leb-true, leb-false, cases_lt}
use Rattle.std.specs.Prelude.{nat_lt, nat_le}
use Rattle.ref_table.specs.Rotation.{rotated_right, rotated_left, balanced, insert, first, rest, merged_at, removed}
use Rattle.ref_table.specs.Tree.{Tree, height, IsBalanced, Leaf, Fork}
use Rattle.ref_table.proofs.Heights.{height_insert, height_rest, height_removed}

shape_left : (l : Tree) (p : ℕ) (r : Tree) → IsBalanced l → IsBalanced r → height l ≡ height r + 2 → IsBalanced (rotated_right l p r) × (height l ≤ height (rotated_right l p r))
shape_left Leaf p r u v h = absurd (omega arith)
shape_left (Fork a q Leaf) p r u v h = ((omega (arith, u.0), omega (arith, u.0), (u.2.0, (omega arith, omega (arith, u.0), (tt, v)))), omega (arith, u.0))
shape_left (Fork a q (Fork c m d)) p r u v h =
    let u0 = u.0 in let u1 = u.1 in let w0 = u.2.1.0 in let w1 = u.2.1.1 in
    cond_both (nat_le (height (Fork c m d)) (height a)) _ _ (λ t. IsBalanced t × (height (Fork a q (Fork c m d)) ≤ height t))
    (λ low. let n = leb-true _ _ low in ((omega arith, omega arith, (u.2.0, (omega arith, omega arith, (u.2.1, v)))), omega arith))
    (λ high. let n = leb-false _ _ high in ((omega arith, omega arith, ((omega arith, omega arith, (u.2.0, u.2.1.2.0)), (omega arith, omega arith, (u.2.1.2.1, v)))), omega arith))

shape_right : (l : Tree) (p : ℕ) (r : Tree) → IsBalanced l → IsBalanced r → height r ≡ height l + 2 → IsBalanced (rotated_left l p r) × (height r ≤ height (rotated_left l p r))
shape_right l p Leaf u v h = absurd (omega arith)
shape_right l p (Fork Leaf q b) u v h = ((omega (arith, v.1), omega (arith, v.1), ((omega (arith, v.1), omega arith, (u, tt)), v.2.1)), omega (arith, v.1))
shape_right l p (Fork (Fork c m d) q b) u v h =
    let u0 = v.0 in let u1 = v.1 in let w0 = v.2.0.0 in let w1 = v.2.0.1 in
    cond_both (nat_le (height (Fork c m d)) (height b)) _ _ (λ t. IsBalanced t × (height (Fork (Fork c m d) q b) ≤ height t))
    (λ low. let n = leb-true _ _ low in ((omega arith, omega arith, ((omega arith, omega arith, (u, v.2.0)), v.2.1)), omega arith))
    (λ high. let n = leb-false _ _ high in ((omega arith, omega arith, ((omega arith, omega arith, (u, v.2.0.2.0)), (omega arith, omega arith, (v.2.0.2.1, v.2.1)))), omega arith))

-- a tree that is balanced, at least as high as its sides, and one higher than the higher side if their heights differ by at most one
pub record IsRebalanced (l r t : Tree) : Type 0 where
  pub balanced : IsBalanced t
  pub high : max (height l) (height r) ≤ height t
  pub near : height l ≤ height r + 1 → height r ≤ height l + 1 → height t ≡ max (height l) (height r) + 1

pub shape_balanced : (l : Tree) (p : ℕ) (r : Tree) → IsBalanced l → IsBalanced r → height l ≤ height r + 2 → height r ≤ height l + 2 → IsRebalanced l r (balanced l p r)
shape_balanced l p r u v a b =
    cond_both (nat_lt (height r + 1) (height l)) _ _ (IsRebalanced l r)
    (λ far. let n = ltb-true _ _ far in let s = shape_left l p r u v (omega arith) in let h = s.1 in record { balanced = s.0; high = omega arith; near = λ x y. absurd (omega arith) })
    (λ close. let n = ltb-false _ _ close in cond_both (nat_lt (height l + 1) (height r)) _ _ (IsRebalanced l r)
    (λ far. let m = ltb-true _ _ far in let s = shape_right l p r u v (omega arith) in let h = s.1 in record { balanced = s.0; high = omega arith; near = λ x y. absurd (omega arith) })
    (λ close'. let m = ltb-false _ _ close' in record { balanced = (omega arith, omega arith, (u, v)); high = omega arith; near = λ x y. refl }))

pub shape_insert : (k : ℕ) (t : Tree) → IsBalanced t → IsBalanced (insert k t) × (height t ≤ height (insert k t))
shape_insert k Leaf u = ((omega arith, omega arith, (tt, tt)), omega arith)
shape_insert k (Fork l p r) u =
    let u0 = u.0 in let u1 = u.1 in
    cond_both (nat_lt k p) _ _ (λ t. IsBalanced t × (height (Fork l p r) ≤ height t))
    (λ _. let i = shape_insert k l u.2.0 in let i1 = i.1 in let g = height_insert k l in
    let s = shape_balanced (insert k l) p r i.0 u.2.1 (omega arith) (omega arith) in (s.balanced, grow (insert k l) p r l (balanced (insert k l) p r) s i1 g u0 u1))
    (λ _. cond_both (nat_lt p k) _ _ (λ t. IsBalanced t × (height (Fork l p r) ≤ height t))
    (λ _. let i = shape_insert k r u.2.1 in let i1 = i.1 in let g = height_insert k r in
    let s = shape_balanced l p (insert k r) u.2.0 i.0 (omega arith) (omega arith) in (s.balanced, grow_right l p (insert k r) r (balanced l p (insert k r)) s i1 g u0 u1))
    (λ _. (u, omega arith)))
  where
    grow : (x : Tree) (q : ℕ) (y z t : Tree) → IsRebalanced x y t → height z ≤ height x → height x ≤ height z + 1 → height z ≤ height y + 1 → height y ≤ height z + 1 → max (height z) (height y) + 1 ≤ height t
    grow x q y z t s a b c d =
        elim (cases_lt (height y + 1) (height x)) [
          | inl far ↦ let h = s.high in omega arith
          | inr close ↦ let n = s.near close (omega arith) in omega arith
        ]

    grow_right : (y : Tree) (q : ℕ) (x z t : Tree) → IsRebalanced y x t → height z ≤ height x → height x ≤ height z + 1 → height y ≤ height z + 1 → height z ≤ height y + 1 → max (height y) (height z) + 1 ≤ height t
    grow_right y q x z t s a b c d =
        elim (cases_lt (height y + 1) (height x)) [
          | inl far ↦ let h = s.high in omega arith
          | inr close ↦ let n = s.near (omega arith) close in omega arith
        ]

-- a side that may have lost a level leaves a tree that may have lost one
shrink_left : (x y z t : Tree) → IsRebalanced x y t → height x ≤ height z → height z ≤ height x + 1 → height z ≤ height y + 1 → height y ≤ height z + 1 → max (height z) (height y) ≤ height t
shrink_left x y z t s a b c d =
    elim (cases_lt (height x + 1) (height y)) [
      | inl far ↦ let h = s.high in omega arith
      | inr close ↦ let n = s.near (omega arith) close in omega arith
    ]

shrink_right : (y x z t : Tree) → IsRebalanced y x t → height x ≤ height z → height z ≤ height x + 1 → height z ≤ height y + 1 → height y ≤ height z + 1 → max (height y) (height z) ≤ height t
shrink_right y x z t s a b c d =
    elim (cases_lt (height x + 1) (height y)) [
      | inl far ↦ let h = s.high in omega arith
      | inr close ↦ let n = s.near close (omega arith) in omega arith
    ]

pub shape_rest : (t : Tree) → IsBalanced t → IsBalanced (rest t) × (height t ≤ height (rest t) + 1)
shape_rest Leaf u = (tt, omega arith)
shape_rest (Fork Leaf p r) u = (u.2.1, omega (arith, u.1))
shape_rest (Fork (Fork a q b) p r) u =
    let u0 = u.0 in let u1 = u.1 in
    let i = shape_rest (Fork a q b) u.2.0 in let i1 = i.1 in let g = height_rest (Fork a q b) in
    let s = shape_balanced (rest (Fork a q b)) p r i.0 u.2.1 (omega arith) (omega arith) in
    let h = shrink_left (rest (Fork a q b)) r (Fork a q b) _ s g i1 u0 u1 in
    (s.balanced, omega arith)

pub first_none : (t : Tree) → first t ≡ None → height t ≡ 0
first_none Leaf e = refl
first_none (Fork Leaf p r) e = absurd (cc)
first_none (Fork (Fork a q b) p r) e = let h = first_none (Fork a q b) e in absurd (omega arith)

shape_merged_at : (l : Tree) (o : Option ℕ) (r : Tree) → first r ≡ o → IsBalanced l → IsBalanced r → height l ≤ height r + 1 → height r ≤ height l + 1 → IsBalanced (merged_at l o r) × (max (height l) (height r) ≤ height (merged_at l o r))
shape_merged_at l None r e u v a b = let h = first_none r e in (u, omega arith)
shape_merged_at l (Some m) r e u v a b =
    let i = shape_rest r v in let i1 = i.1 in let g = height_rest r in
    let s = shape_balanced l m (rest r) u i.0 (omega arith) (omega arith) in
    (s.balanced, shrink_right l (rest r) r _ s g i1 b a)

pub shape_removed : (k : ℕ) (t : Tree) → IsBalanced t → IsBalanced (removed k t) × (height t ≤ height (removed k t) + 1)
shape_removed k Leaf u = (tt, omega arith)
shape_removed k (Fork l p r) u =
    let u0 = u.0 in let u1 = u.1 in
    cond_both (nat_lt k p) _ _ (λ t. IsBalanced t × (height (Fork l p r) ≤ height t + 1))
    (λ _. let i = shape_removed k l u.2.0 in let i1 = i.1 in let g = height_removed k l in
    let s = shape_balanced (removed k l) p r i.0 u.2.1 (omega arith) (omega arith) in
    let h = shrink_left (removed k l) r l _ s g i1 u0 u1 in (s.balanced, omega arith))
    (λ _. cond_both (nat_lt p k) _ _ (λ t. IsBalanced t × (height (Fork l p r) ≤ height t + 1))
    (λ _. let i = shape_removed k r u.2.1 in let i1 = i.1 in let g = height_removed k r in
    let s = shape_balanced l p (removed k r) u.2.0 i.0 (omega arith) (omega arith) in
    let h = shrink_right l (removed k r) r _ s g i1 u1 u0 in (s.balanced, omega arith))
    (λ _. let s = shape_merged_at l (first r) r refl u.2.0 u.2.1 u0 u1 in let h = s.1 in (s.0, omega arith)))
