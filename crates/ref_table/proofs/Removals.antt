-- Each path through a removal.
use Rattle.ref_table.specs.declared.branch.Branch.{Branch}
use Rattle.std.proofs.Common.{◌≡◌, ℕ, ◌+◌, ◌-◌, ◌<◌, ◌≤◌, Option, Some, None, sym, ap, subst, ◌∙◌, arith, List}
use Rattle.std.proofs.lemmas.Bool.{lt-ltb, cond-true, cond-false, le-ltb}
use Rattle.store_word.specs.declared.levels.Levels.{Levels}
use Rattle.ref_table.specs.Branches.{branch_at, IsPart, Builds}
use Rattle.ref_table.specs.Rotation.{first, rest, merged_at, merged, removed}
use Rattle.ref_table.specs.Tree.{Tree, link, height, Leaf, Fork}
use Rattle.ref_table.proofs.TreeBalance.{Balances, step_left, step_right}
use Rattle.ref_table.proofs.Heights.{height_rest, height_removed}
use Rattle.ref_table.proofs.Occurrences.{one}
use Rattle.ref_table.proofs.Orders.{ordered_wider, ordered_rest, ordered_first, ordered_removed}
use Rattle.ref_table.proofs.BranchJoins.{root_fork, stands_within, builds_after, builds_same, part_left, part_right}

-- the first page is on the left side
pub rest_low : (sets : List Levels) (old mid new : List Branch) (at left at' : Option ℕ) (top one depth lo hi : ℕ) (root : Branch) (t : Tree) → at ≡ Some top → root ≡ branch_at old (Some top) → root.left ≡ Some one → 0 < depth
    → ((lo hi : ℕ) (t : Tree) → root.left ≡ link t → IsPart sets old lo hi t → height t ≤ depth - 1 → Builds sets old mid left lo hi (rest t))
    → Balances sets mid new left top root.right at'
    → at ≡ link t → IsPart sets old lo hi t → height t ≤ depth → Builds sets old new at' lo hi (rest t)
rest_low sets old mid new at left at' top one depth lo hi root Leaf e ro there pos f g is w h = absurd (cc)
rest_low sets old mid new at left at' top one depth lo hi root (Fork Leaf p r) e ro there pos f g is w h =
    let root_is = ro ∙ ap (branch_at old) (sym e ∙ is) ∙ root_fork sets old Leaf p r w.stands in
    let none : root.left ≡ None = ap (λ (b : Branch). b.left) root_is in absurd (cc)
rest_low sets old mid new at left at' top one depth lo hi root (Fork (Fork a q b') p r) e ro there pos f g is w h =
    let same : top ≡ p = cc in
    let root_is = ro ∙ ap (branch_at old) (sym e ∙ is) ∙ root_fork sets old (Fork a q b') p r w.stands in
    let b = f lo p (Fork a q b') (ap (λ (b : Branch). b.left) root_is) (part_left sets old lo hi (Fork a q b') p r w) (omega arith) in
    let hw = w.low in
    let hr = height_rest (Fork a q b') in
    step_left sets old mid new left root.right at' p lo hi (Fork a q b') r (rest (Fork a q b')) w (ap (λ (b : Branch). b.right) root_is) b (ordered_rest lo p (Fork a q b') w.ordered.2.0) (omega arith)
    (subst (λ n. Balances sets mid new left n root.right at') same g)

pub rest_here : (sets : List Levels) (old : List Branch) (at : Option ℕ) (top depth lo hi : ℕ) (root : Branch) (t : Tree) → at ≡ Some top → root ≡ branch_at old (Some top) → root.left ≡ None
    → at ≡ link t → IsPart sets old lo hi t → height t ≤ depth → Builds sets old old root.right lo hi (rest t)
rest_here sets old at top depth lo hi root Leaf e ro none is w h = absurd (cc)
rest_here sets old at top depth lo hi root (Fork Leaf p r) e ro none is w h =
    let root_is = ro ∙ ap (branch_at old) (sym e ∙ is) ∙ root_fork sets old Leaf p r w.stands in
    builds_same sets old root.right lo hi r (ap (λ (b : Branch). b.right) root_is) w.stands.1.1
rest_here sets old at top depth lo hi root (Fork (Fork a q b') p r) e ro none is w h =
    let root_is = ro ∙ ap (branch_at old) (sym e ∙ is) ∙ root_fork sets old (Fork a q b') p r w.stands in
    let some : root.left ≡ Some q = ap (λ (b : Branch). b.left) root_is in absurd (cc)

-- the first page of the right tree becomes the root
pub merge_some : (sets : List Levels) (old mid new : List Branch) (left right right' at : Option ℕ) (page depth lo mi hi : ℕ) (l r : Tree) → first r ≡ Some page
    → ((lo hi : ℕ) (t : Tree) → right ≡ link t → IsPart sets old lo hi t → height t ≤ depth → Builds sets old mid right' lo hi (rest t))
    → Balances sets mid new left page right' at
    → left ≡ link l → right ≡ link r → lo ≤ mi → IsPart sets old lo mi l → IsPart sets old mi hi r → height r ≤ depth → Builds sets old new at lo hi (merged l r)
merge_some sets old mid new left right right' at page depth lo mi hi l r e f g left_is right_is a wl wr h =
    let b = f mi hi r right_is wr h in
    let o = ordered_first mi hi r page e wr.ordered in
    let hl = wl.low in
    let hr = wr.low in
    let hm = height_rest r in
    subst (λ (x : Option ℕ). Builds sets old new at lo hi (merged_at l x r)) (sym e)
    (builds_after sets old mid new at right' lo hi mi hi _ _ a (omega arith) b
    (g lo hi l (rest r) record {
      left_is = left_is;
      right_is = b.top;
      left_stands = stands_within sets old mid lo mi l wl.ordered (λ k u v. b.before k v) wl.stands;
      right_stands = b.stands;
      left_ordered = ordered_wider lo mi lo page l (omega arith) o.0 wl.ordered;
      right_ordered = o.2;
      from = omega (arith, o.0);
      to = o.1;
      inside = omega (arith, b.size, wr.inside);
      left_low = omega arith;
      right_low = omega arith;
    }))

-- a page that is removed on the left side
pub remove_low : (sets : List Levels) (old mid new : List Branch) (at left at' : Option ℕ) (top page depth lo hi : ℕ) (root : Branch) (t : Tree) → at ≡ Some top → root ≡ branch_at old (Some top) → page < top → 0 < depth
    → ((lo hi : ℕ) (t : Tree) → root.left ≡ link t → IsPart sets old lo hi t → height t ≤ depth - 1 → Builds sets old mid left lo hi (removed page t))
    → Balances sets mid new left top root.right at'
    → at ≡ link t → IsPart sets old lo hi t → height t ≤ depth → Builds sets old new at' lo hi (removed page t)
remove_low sets old mid new at left at' top page depth lo hi root Leaf e ro low pos f g is w h = absurd (cc)
remove_low sets old mid new at left at' top page depth lo hi root (Fork l p r) e ro low pos f g is w h =
    let same : top ≡ p = cc in
    let root_is = ro ∙ ap (branch_at old) (sym e ∙ is) ∙ root_fork sets old l p r w.stands in
    let b = f lo p l (ap (λ (b : Branch). b.left) root_is) (part_left sets old lo hi l p r w) (omega arith) in
    let hw = w.low in
    let hi' = height_removed page l in
    let low' : page < p = omega arith in
    subst (Builds sets old new at' lo hi) (sym (cond-true _ _ _ (lt-ltb page p low')))
    (step_left sets old mid new left root.right at' p lo hi l r (removed page l) w (ap (λ (b : Branch). b.right) root_is) b (ordered_removed page lo p l w.ordered.2.0) (omega arith)
    (subst (λ n. Balances sets mid new left n root.right at') same g))

pub remove_high : (sets : List Levels) (old mid new : List Branch) (at right at' : Option ℕ) (top page depth lo hi : ℕ) (root : Branch) (t : Tree) → at ≡ Some top → root ≡ branch_at old (Some top) → top < page → 0 < depth
    → ((lo hi : ℕ) (t : Tree) → root.right ≡ link t → IsPart sets old lo hi t → height t ≤ depth - 1 → Builds sets old mid right lo hi (removed page t))
    → Balances sets mid new root.left top right at'
    → at ≡ link t → IsPart sets old lo hi t → height t ≤ depth → Builds sets old new at' lo hi (removed page t)
remove_high sets old mid new at right at' top page depth lo hi root Leaf e ro low pos f g is w h = absurd (cc)
remove_high sets old mid new at right at' top page depth lo hi root (Fork l p r) e ro high pos f g is w h =
    let same : top ≡ p = cc in
    let root_is = ro ∙ ap (branch_at old) (sym e ∙ is) ∙ root_fork sets old l p r w.stands in
    let b = f (p + 1) hi r (ap (λ (b : Branch). b.right) root_is) (part_right sets old lo hi l p r w) (omega arith) in
    let hw = w.low in
    let hi' = height_removed page r in
    let high' : p < page = omega arith in
    subst (Builds sets old new at' lo hi) (sym (cond-false _ _ _ (le-ltb page p (omega arith)) ∙ cond-true _ _ _ (lt-ltb p page high')))
    (step_right sets old mid new root.left right at' p lo hi l r (removed page r) w (ap (λ (b : Branch). b.left) root_is) b (ordered_removed page (p + 1) hi r w.ordered.2.1) (omega arith)
    (subst (λ n. Balances sets mid new root.left n right at') same g))

pub remove_here : (sets : List Levels) (old new : List Branch) (at at' : Option ℕ) (top page depth lo hi : ℕ) (root : Branch) (t : Tree) → at ≡ Some top → root ≡ branch_at old (Some top) → top ≤ page → page ≤ top → 0 < depth
    → ((lo mid hi : ℕ) (l r : Tree) → root.left ≡ link l → root.right ≡ link r → lo ≤ mid → IsPart sets old lo mid l → IsPart sets old mid hi r → height r ≤ depth - 1 → Builds sets old new at' lo hi (merged l r))
    → at ≡ link t → IsPart sets old lo hi t → height t ≤ depth → Builds sets old new at' lo hi (removed page t)
remove_here sets old new at at' top page depth lo hi root Leaf e ro a b pos f is w h = absurd (cc)
remove_here sets old new at at' top page depth lo hi root (Fork l p r) e ro a b pos f is w h =
    let same : top ≡ p = cc in
    let root_is = ro ∙ ap (branch_at old) (sym e ∙ is) ∙ root_fork sets old l p r w.stands in
    let hw = w.low in
    let o = w.ordered in
    subst (Builds sets old new at' lo hi) (sym (cond-false _ _ _ (le-ltb page p (omega arith)) ∙ cond-false _ _ _ (le-ltb p page (omega arith))))
    (f lo (p + 1) hi l r (ap (λ (b : Branch). b.left) root_is) (ap (λ (b : Branch). b.right) root_is) (omega (arith, o.0))
    record { stands = w.stands.1.0; ordered = ordered_wider lo p lo (p + 1) l (omega arith) (omega arith) o.2.0; inside = omega (arith, o.1, w.inside); low = omega arith }
    (part_right sets old lo hi l p r w) (omega arith))
