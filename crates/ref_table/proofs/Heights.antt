-- Heights of trees under rotation, insertion and removal.
use Rattle.std.proofs.Common.{ℕ, ◌+◌, ◌<◌, ◌≤◌, max, Option, Some, None, arith}
use Rattle.std.proofs.lemmas.Bool.{cond_both, ltb-true, leb-true, leb-false}
use Rattle.std.specs.Prelude.{nat_lt, nat_le}
use Rattle.ref_table.specs.Rotation.{rotated_right, rotated_left, balanced, insert, first, rest, merged_at, merged, removed}
use Rattle.ref_table.specs.Tree.{Tree, height, Leaf, Fork}

height_left : (l : Tree) (p : ℕ) (r : Tree) → height r + 1 < height l → height (rotated_right l p r) ≤ max (height l) (height r) + 1
height_left Leaf p r h = omega arith
height_left (Fork a q Leaf) p r h = omega arith
height_left (Fork a q (Fork c m d)) p r h =
    cond_both (nat_le (height (Fork c m d)) (height a)) _ _ (λ t. height t ≤ max (height (Fork a q (Fork c m d))) (height r) + 1)
    (λ low. let n = leb-true _ _ low in omega arith)
    (λ high. let n = leb-false _ _ high in omega arith)

height_right : (l : Tree) (p : ℕ) (r : Tree) → height l + 1 < height r → height (rotated_left l p r) ≤ max (height l) (height r) + 1
height_right l p Leaf h = omega arith
height_right l p (Fork Leaf q b) h = omega arith
height_right l p (Fork (Fork c m d) q b) h =
    cond_both (nat_le (height (Fork c m d)) (height b)) _ _ (λ t. height t ≤ max (height l) (height (Fork (Fork c m d) q b)) + 1)
    (λ low. let n = leb-true _ _ low in omega arith)
    (λ high. let n = leb-false _ _ high in omega arith)

pub height_balanced : (l : Tree) (p : ℕ) (r : Tree) → height (balanced l p r) ≤ max (height l) (height r) + 1
height_balanced l p r =
    cond_both (nat_lt (height r + 1) (height l)) _ _ (λ t. height t ≤ max (height l) (height r) + 1)
    (λ tips. height_left l p r (ltb-true _ _ tips))
    (λ _. cond_both (nat_lt (height l + 1) (height r)) _ _ (λ t. height t ≤ max (height l) (height r) + 1)
    (λ tips. height_right l p r (ltb-true _ _ tips))
    (λ _. omega arith))

pub height_insert : (k : ℕ) (t : Tree) → height (insert k t) ≤ height t + 1
height_insert k Leaf = omega arith
height_insert k (Fork l p r) =
    cond_both (nat_lt k p) _ _ (λ t. height t ≤ height (Fork l p r) + 1)
    (λ _. let n = height_balanced (insert k l) p r in let m = height_insert k l in omega arith)
    (λ _. cond_both (nat_lt p k) _ _ (λ t. height t ≤ height (Fork l p r) + 1)
    (λ _. let n = height_balanced l p (insert k r) in let m = height_insert k r in omega arith)
    (λ _. omega arith))

pub height_rest : (t : Tree) → height (rest t) ≤ height t
height_rest Leaf = omega arith
height_rest (Fork Leaf p r) = omega arith
height_rest (Fork (Fork a q b) p r) = let n = height_balanced (rest (Fork a q b)) p r in let m = height_rest (Fork a q b) in omega arith

height_merged_at : (l : Tree) (o : Option ℕ) (r : Tree) → height (merged_at l o r) ≤ max (height l) (height r) + 1
height_merged_at l None r = omega arith
height_merged_at l (Some m) r = let n = height_balanced l m (rest r) in let k = height_rest r in omega arith

pub height_merged : (l r : Tree) → height (merged l r) ≤ max (height l) (height r) + 1
height_merged l r = height_merged_at l (first r) r

pub height_removed : (k : ℕ) (t : Tree) → height (removed k t) ≤ height t
height_removed k Leaf = omega arith
height_removed k (Fork l p r) =
    cond_both (nat_lt k p) _ _ (λ t. height t ≤ height (Fork l p r))
    (λ _. let n = height_balanced (removed k l) p r in let m = height_removed k l in omega arith)
    (λ _. cond_both (nat_lt p k) _ _ (λ t. height t ≤ height (Fork l p r))
    (λ _. let n = height_balanced l p (removed k r) in let m = height_removed k r in omega arith)
    (λ _. height_merged l r))
