-- Search trees are in order after rotation, insertion and removal.
use Rattle.std.proofs.Common.{◌≡◌, ℕ, ◌+◌, ◌<◌, ◌≤◌, Option, Some, None, refl, sym, subst, arith}
use Rattle.std.proofs.lemmas.Bool.{cond_both, ltb-true}
use Rattle.std.specs.Prelude.{nat_lt, nat_le}
use Rattle.ref_table.specs.Rotation.{rotated_right, rotated_left, balanced, insert, first, rest, merged_at, merged, removed}
use Rattle.ref_table.specs.Tree.{Tree, height, IsOrdered, Leaf, Fork}

pub ordered_wider : (lo hi lo' hi' : ℕ) (t : Tree) → lo' ≤ lo → hi ≤ hi' → IsOrdered lo hi t → IsOrdered lo' hi' t
ordered_wider lo hi lo' hi' Leaf a b o = tt
ordered_wider lo hi lo' hi' (Fork l p r) a b o =
    (omega (arith, o.0), omega (arith, o.1), (ordered_wider lo p lo' p l a (omega arith) o.2.0, ordered_wider (p + 1) hi (p + 1) hi' r (omega arith) b o.2.1))

ordered_left : (lo hi : ℕ) (l : Tree) (p : ℕ) (r : Tree) → lo ≤ p → p < hi → IsOrdered lo p l → IsOrdered (p + 1) hi r → IsOrdered lo hi (rotated_right l p r)
ordered_left lo hi Leaf p r a b u v = (a, b, (tt, v))
ordered_left lo hi (Fork x q Leaf) p r a b u v = (u.0, omega (arith, u.1), (u.2.0, (omega (arith, u.1), b, (tt, v))))
ordered_left lo hi (Fork x q (Fork c m d)) p r a b u v =
    cond_both (nat_le (height (Fork c m d)) (height x)) _ _ (IsOrdered lo hi)
    (λ _. (u.0, omega (arith, u.1), (u.2.0, (omega (arith, u.1), b, (u.2.1, v)))))
    (λ _. (omega (arith, u.0, u.2.1.0), omega (arith, u.2.1.1), ((u.0, omega (arith, u.2.1.0), (u.2.0, u.2.1.2.0)), (omega (arith, u.2.1.1), b, (u.2.1.2.1, v)))))

ordered_right : (lo hi : ℕ) (l : Tree) (p : ℕ) (r : Tree) → lo ≤ p → p < hi → IsOrdered lo p l → IsOrdered (p + 1) hi r → IsOrdered lo hi (rotated_left l p r)
ordered_right lo hi l p Leaf a b u v = (a, b, (u, tt))
ordered_right lo hi l p (Fork Leaf q x) a b u v = (omega (arith, v.0), v.1, ((a, omega (arith, v.0), (u, tt)), v.2.1))
ordered_right lo hi l p (Fork (Fork c m d) q x) a b u v =
    cond_both (nat_le (height (Fork c m d)) (height x)) _ _ (IsOrdered lo hi)
    (λ _. (omega (arith, v.0), v.1, ((a, omega (arith, v.0), (u, v.2.0)), v.2.1)))
    (λ _. (omega (arith, v.2.0.0), omega (arith, v.1, v.2.0.1), ((a, omega (arith, v.2.0.0), (u, v.2.0.2.0)), (omega (arith, v.2.0.1), v.1, (v.2.0.2.1, v.2.1)))))

pub ordered_balanced : (lo hi : ℕ) (l : Tree) (p : ℕ) (r : Tree) → lo ≤ p → p < hi → IsOrdered lo p l → IsOrdered (p + 1) hi r → IsOrdered lo hi (balanced l p r)
ordered_balanced lo hi l p r a b u v =
    cond_both (nat_lt (height r + 1) (height l)) _ _ (IsOrdered lo hi)
    (λ _. ordered_left lo hi l p r a b u v)
    (λ _. cond_both (nat_lt (height l + 1) (height r)) _ _ (IsOrdered lo hi)
    (λ _. ordered_right lo hi l p r a b u v)
    (λ _. (a, b, (u, v))))

pub ordered_insert : (k lo hi : ℕ) (t : Tree) → lo ≤ k → k < hi → IsOrdered lo hi t → IsOrdered lo hi (insert k t)
ordered_insert k lo hi Leaf a b o = (a, b, (tt, tt))
ordered_insert k lo hi (Fork l p r) a b o =
    cond_both (nat_lt k p) _ _ (IsOrdered lo hi)
    (λ low. ordered_balanced lo hi (insert k l) p r o.0 o.1 (ordered_insert k lo p l a (ltb-true _ _ low) o.2.0) o.2.1)
    (λ _. cond_both (nat_lt p k) _ _ (IsOrdered lo hi)
    (λ high. let n = ltb-true _ _ high in ordered_balanced lo hi l p (insert k r) o.0 o.1 o.2.0 (ordered_insert k (p + 1) hi r (omega arith) b o.2.1))
    (λ _. o))

pub ordered_rest : (lo hi : ℕ) (t : Tree) → IsOrdered lo hi t → IsOrdered lo hi (rest t)
ordered_rest lo hi Leaf o = tt
ordered_rest lo hi (Fork Leaf p r) o = ordered_wider (p + 1) hi lo hi r (omega (arith, o.0)) (omega arith) o.2.1
ordered_rest lo hi (Fork (Fork a q b) p r) o = ordered_balanced lo hi (rest (Fork a q b)) p r o.0 o.1 (ordered_rest lo p (Fork a q b) o.2.0) o.2.1

pub ordered_first : (lo hi : ℕ) (t : Tree) (m : ℕ) → first t ≡ Some m → IsOrdered lo hi t → (lo ≤ m) × (m < hi) × IsOrdered (m + 1) hi (rest t)
ordered_first lo hi Leaf m e o = absurd (cc)
ordered_first lo hi (Fork Leaf p r) m e o =
    let same : p ≡ m = cc in
    (omega (arith, o.0), omega (arith, o.1), subst (λ n. IsOrdered (n + 1) hi r) same o.2.1)
ordered_first lo hi (Fork (Fork a q b) p r) m e o =
    let h = ordered_first lo p (Fork a q b) m e o.2.0 in
    (h.0, omega (arith, h.1, o.1), ordered_balanced (m + 1) hi (rest (Fork a q b)) p r (omega (arith, h.1)) o.1 h.2 o.2.1)

ordered_merged_at : (lo mid hi : ℕ) (l : Tree) (o : Option ℕ) (r : Tree) → lo ≤ mid → mid ≤ hi → o ≡ first r → IsOrdered lo mid l → IsOrdered mid hi r → IsOrdered lo hi (merged_at l o r)
ordered_merged_at lo mid hi l None r a b e u v = ordered_wider lo mid lo hi l (omega arith) b u
ordered_merged_at lo mid hi l (Some m) r a b e u v =
    let h = ordered_first mid hi r m (sym e) v in
    ordered_balanced lo hi l m (rest r) (omega (arith, h.0)) h.1 (ordered_wider lo mid lo m l (omega arith) h.0 u) h.2

pub ordered_merged : (lo mid hi : ℕ) (l r : Tree) → lo ≤ mid → mid ≤ hi → IsOrdered lo mid l → IsOrdered mid hi r → IsOrdered lo hi (merged l r)
ordered_merged lo mid hi l r a b u v = ordered_merged_at lo mid hi l (first r) r a b refl u v

pub ordered_removed : (k lo hi : ℕ) (t : Tree) → IsOrdered lo hi t → IsOrdered lo hi (removed k t)
ordered_removed k lo hi Leaf o = tt
ordered_removed k lo hi (Fork l p r) o =
    cond_both (nat_lt k p) _ _ (IsOrdered lo hi)
    (λ _. ordered_balanced lo hi (removed k l) p r o.0 o.1 (ordered_removed k lo p l o.2.0) o.2.1)
    (λ _. cond_both (nat_lt p k) _ _ (IsOrdered lo hi)
    (λ _. ordered_balanced lo hi l p (removed k r) o.0 o.1 o.2.0 (ordered_removed k (p + 1) hi r o.2.1))
    (λ _. ordered_merged lo (p + 1) hi l r (omega (arith, o.0)) (omega (arith, o.1)) (ordered_wider lo p lo (p + 1) l (omega arith) (omega arith) o.2.0) o.2.1))
