-- Which pages are in a tree after rotation, insertion and removal.
use Rattle.std.proofs.Common.{◌≡◌, ℕ, ◌+◌, ◌<◌, ◌≤◌, Option, Some, None, refl, ap, arith, eqb, if◌then◌else◌}
use Rattle.std.proofs.lemmas.Bool.{cond_both, ltb-true, ltb-false, eq-eqb, ne_eqb}
use Rattle.std.specs.Prelude.{nat_lt, nat_le}
use Rattle.ref_table.specs.Rotation.{rotated_right, rotated_left, balanced, insert, first, rest, merged_at, removed}
use Rattle.ref_table.specs.Tree.{Tree, height, occurrences, IsOrdered, Leaf, Fork}
use Rattle.ref_table.proofs.Shapes.{first_none}

abbrev pub one : ℕ → ℕ → ℕ
one k p = if eqb k p then 1 else 0

pub one_same : (k : ℕ) → one k k ≡ 1
one_same k = rw (eq-eqb k k refl) refl

-- how often a page is there
occurrences_left : (k : ℕ) (l : Tree) (p : ℕ) (r : Tree) → occurrences k (rotated_right l p r) ≡ occurrences k (Fork l p r)
occurrences_left k Leaf p r = refl
occurrences_left k (Fork a q Leaf) p r = omega arith
occurrences_left k (Fork a q (Fork c m d)) p r =
    cond_both (nat_le (height (Fork c m d)) (height a)) _ _ (λ t. occurrences k t ≡ occurrences k (Fork (Fork a q (Fork c m d)) p r)) (λ _. omega arith) (λ _. omega arith)

occurrences_right : (k : ℕ) (l : Tree) (p : ℕ) (r : Tree) → occurrences k (rotated_left l p r) ≡ occurrences k (Fork l p r)
occurrences_right k l p Leaf = refl
occurrences_right k l p (Fork Leaf q b) = omega arith
occurrences_right k l p (Fork (Fork c m d) q b) =
    cond_both (nat_le (height (Fork c m d)) (height b)) _ _ (λ t. occurrences k t ≡ occurrences k (Fork l p (Fork (Fork c m d) q b))) (λ _. omega arith) (λ _. omega arith)

pub occurrences_balanced : (k : ℕ) (l : Tree) (p : ℕ) (r : Tree) → occurrences k (balanced l p r) ≡ occurrences k (Fork l p r)
occurrences_balanced k l p r =
    cond_both (nat_lt (height r + 1) (height l)) _ _ (λ t. occurrences k t ≡ occurrences k (Fork l p r))
    (λ _. occurrences_left k l p r)
    (λ _. cond_both (nat_lt (height l + 1) (height r)) _ _ (λ t. occurrences k t ≡ occurrences k (Fork l p r)) (λ _. occurrences_right k l p r) (λ _. refl))

pub occurrences_insert : (k p : ℕ) (t : Tree) → occurrences p t ≡ 0 → occurrences k (insert p t) ≡ occurrences k t + one k p
occurrences_insert k p Leaf e = omega arith
occurrences_insert k p (Fork l q r) e =
    cond_both (nat_lt p q) _ _ (λ t. occurrences k t ≡ occurrences k (Fork l q r) + one k p)
    (λ _. let b = occurrences_balanced k (insert p l) q r in let i = occurrences_insert k p l (omega arith) in omega arith)
    (λ high. cond_both (nat_lt q p) _ _ (λ t. occurrences k t ≡ occurrences k (Fork l q r) + one k p)
    (λ _. let b = occurrences_balanced k l q (insert p r) in let i = occurrences_insert k p r (omega arith) in omega arith)
    (λ low. let n = ltb-false _ _ high in let m = ltb-false _ _ low in let same : q ≡ p = omega arith in
    let s : one p q ≡ 1 = rw same (one_same p) in absurd (omega arith)))

pub occurrences_first : (k m : ℕ) (t : Tree) → first t ≡ Some m → occurrences k (rest t) + one k m ≡ occurrences k t
occurrences_first k m Leaf e = absurd (cc)
occurrences_first k m (Fork Leaf p r) e = let same : p ≡ m = cc in rw same (omega arith)
occurrences_first k m (Fork (Fork a q b) p r) e = let i = occurrences_first k m (Fork a q b) e in let n = occurrences_balanced k (rest (Fork a q b)) p r in omega arith

none_leaf : (k : ℕ) (t : Tree) → first t ≡ None → occurrences k t ≡ 0
none_leaf k Leaf e = refl
none_leaf k (Fork Leaf p r) e = absurd (cc)
none_leaf k (Fork (Fork a q b) p r) e = let h = first_none (Fork a q b) e in absurd (omega arith)

occurrences_merged_at : (k : ℕ) (l : Tree) (o : Option ℕ) (r : Tree) → first r ≡ o → occurrences k (merged_at l o r) ≡ occurrences k l + occurrences k r
occurrences_merged_at k l None r e = let n = none_leaf k r e in omega arith
occurrences_merged_at k l (Some m) r e = let n = occurrences_balanced k l m (rest r) in let i = occurrences_first k m r e in omega arith

pub occurrences_before : (k lo hi : ℕ) (t : Tree) → k < lo → IsOrdered lo hi t → occurrences k t ≡ 0
occurrences_before k lo hi Leaf a o = refl
occurrences_before k lo hi (Fork l p r) a o =
    let x = occurrences_before k lo p l a o.2.0 in let y = occurrences_before k (p + 1) hi r (omega (arith, o.0)) o.2.1 in
    let n : one k p ≡ 0 = rw (ne_eqb k p (λ e. omega (arith, e, o.0))) refl in omega arith

pub occurrences_after : (k lo hi : ℕ) (t : Tree) → hi ≤ k → IsOrdered lo hi t → occurrences k t ≡ 0
occurrences_after k lo hi Leaf a o = refl
occurrences_after k lo hi (Fork l p r) a o =
    let x = occurrences_after k lo p l (omega (arith, o.1)) o.2.0 in let y = occurrences_after k (p + 1) hi r a o.2.1 in
    let n : one k p ≡ 0 = rw (ne_eqb k p (λ e. omega (arith, e, o.1))) refl in omega arith

pub occurrences_removed : (k p lo hi : ℕ) (t : Tree) → IsOrdered lo hi t → occurrences p t ≡ 1 → occurrences k (removed p t) + one k p ≡ occurrences k t
occurrences_removed k p lo hi Leaf o e = absurd (omega arith)
occurrences_removed k p lo hi (Fork l q r) o e =
    cond_both (nat_lt p q) _ _ (λ t. occurrences k t + one k p ≡ occurrences k (Fork l q r))
    (λ low. let n = ltb-true _ _ low in
    let z = occurrences_before p (q + 1) hi r (omega arith) o.2.1 in let y : one p q ≡ 0 = rw (ne_eqb p q (λ f. omega (arith, f))) refl in
    let i = occurrences_removed k p lo q l o.2.0 (omega arith) in let b = occurrences_balanced k (removed p l) q r in omega arith)
    (λ high. let m = ltb-false _ _ high in cond_both (nat_lt q p) _ _ (λ t. occurrences k t + one k p ≡ occurrences k (Fork l q r))
    (λ low. let n = ltb-true _ _ low in
    let z = occurrences_after p lo q l (omega arith) o.2.0 in let y : one p q ≡ 0 = rw (ne_eqb p q (λ f. omega (arith, f))) refl in
    let i = occurrences_removed k p (q + 1) hi r o.2.1 (omega arith) in let b = occurrences_balanced k l q (removed p r) in omega arith)
    (λ low. let n = ltb-false _ _ low in let same : q ≡ p = omega arith in let b = occurrences_merged_at k l (first r) r refl in
    let s : one k q ≡ one k p = ap (one k) same in omega arith))
