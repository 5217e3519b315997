-- Each path through an insertion.
use Rattle.ref_table.specs.declared.branch.Branch.{Branch}
use Rattle.std.proofs.Common.{◌≡◌, ℕ, ◌+◌, ◌-◌, ◌<◌, ◌≤◌, Option, Some, sym, ap, subst, ◌∙◌, arith, List}
use Rattle.std.proofs.lemmas.Bool.{lt-ltb, cond-true, cond-false, le-ltb}
use Rattle.store_word.specs.declared.levels.Levels.{Levels}
use Rattle.ref_table.specs.Branches.{branch_at, IsPart, Builds}
use Rattle.ref_table.specs.Rotation.{insert}
use Rattle.ref_table.specs.Tree.{Tree, link, height, Leaf, Fork}
use Rattle.ref_table.proofs.TreeBalance.{Balances, step_left, step_right}
use Rattle.ref_table.proofs.Heights.{height_insert}
use Rattle.ref_table.proofs.Orders.{ordered_insert}
use Rattle.ref_table.proofs.BranchJoins.{root_fork, part_left, part_right}

-- a page that goes to the left side
pub insert_low : (sets : List Levels) (old mid new : List Branch) (at left at' : Option ℕ) (top page depth lo hi : ℕ) (root : Branch) (t : Tree) → at ≡ Some top → root ≡ branch_at old (Some top) → page < top → 0 < depth
    → ((lo hi : ℕ) (t : Tree) → root.left ≡ link t → IsPart sets old lo hi t → height t ≤ depth - 1 → lo ≤ page → page < hi → Builds sets old mid left lo hi (insert page t))
    → Balances sets mid new left top root.right at'
    → at ≡ link t → IsPart sets old lo hi t → height t ≤ depth → lo ≤ page → page < hi → Builds sets old new at' lo hi (insert page t)
insert_low sets old mid new at left at' top page depth lo hi root Leaf e ro low pos f g is w h from to = absurd (cc)
insert_low sets old mid new at left at' top page depth lo hi root (Fork l p r) e ro low pos f g is w h from to =
    let same : top ≡ p = cc in
    let root_is = ro ∙ ap (branch_at old) (sym e ∙ is) ∙ root_fork sets old l p r w.stands in
    let b = f lo p l (ap (λ (b : Branch). b.left) root_is) (part_left sets old lo hi l p r w) (omega arith) from (omega arith) in
    let hw = w.low in
    let hi' = height_insert page l in
    let low' : page < p = omega arith in
    subst (Builds sets old new at' lo hi) (sym (cond-true _ _ _ (lt-ltb page p low')))
    (step_left sets old mid new left root.right at' p lo hi l r (insert page l) w (ap (λ (b : Branch). b.right) root_is) b (ordered_insert page lo p l from low' w.ordered.2.0) (omega arith)
    (subst (λ n. Balances sets mid new left n root.right at') same g))

pub insert_high : (sets : List Levels) (old mid new : List Branch) (at right at' : Option ℕ) (top page depth lo hi : ℕ) (root : Branch) (t : Tree) → at ≡ Some top → root ≡ branch_at old (Some top) → top < page → 0 < depth
    → ((lo hi : ℕ) (t : Tree) → root.right ≡ link t → IsPart sets old lo hi t → height t ≤ depth - 1 → lo ≤ page → page < hi → Builds sets old mid right lo hi (insert page t))
    → Balances sets mid new root.left top right at'
    → at ≡ link t → IsPart sets old lo hi t → height t ≤ depth → lo ≤ page → page < hi → Builds sets old new at' lo hi (insert page t)
insert_high sets old mid new at right at' top page depth lo hi root Leaf e ro low pos f g is w h from to = absurd (cc)
insert_high sets old mid new at right at' top page depth lo hi root (Fork l p r) e ro high pos f g is w h from to =
    let same : top ≡ p = cc in
    let root_is = ro ∙ ap (branch_at old) (sym e ∙ is) ∙ root_fork sets old l p r w.stands in
    let b = f (p + 1) hi r (ap (λ (b : Branch). b.right) root_is) (part_right sets old lo hi l p r w) (omega arith) (omega arith) to in
    let hw = w.low in
    let hi' = height_insert page r in
    let high' : p < page = omega arith in
    subst (Builds sets old new at' lo hi) (sym (cond-false _ _ _ (le-ltb page p (omega arith)) ∙ cond-true _ _ _ (lt-ltb p page high')))
    (step_right sets old mid new root.left right at' p lo hi l r (insert page r) w (ap (λ (b : Branch). b.left) root_is) b (ordered_insert page (p + 1) hi r (omega arith) to w.ordered.2.1) (omega arith)
    (subst (λ n. Balances sets mid new root.left n right at') same g))
