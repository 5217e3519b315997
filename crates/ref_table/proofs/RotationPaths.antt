-- Each path through a rotation.
use Rattle.ref_table.specs.declared.branch.Branch.{Branch}
use Rattle.std.proofs.Common.{◌≡◌, ℕ, ◌<◌, ◌≤◌, true, false, Option, Some, None, refl, sym, ap, subst, ◌∙◌, arith, List}
use Rattle.std.proofs.lemmas.Bool.{cond-true, cond-false, le-leb, lt-leb}
use Rattle.std.specs.Prelude.{nat_le}
use Rattle.store_word.specs.declared.levels.Levels.{Levels}
use Rattle.ref_table.specs.Branches.{branch_at, AreSides, Builds, Joins}
use Rattle.ref_table.specs.Rotation.{rotated_right, rotated_left, first}
use Rattle.ref_table.specs.Tree.{Tree, height, Leaf, Fork}
use Rattle.ref_table.proofs.Occurrences.{one}
use Rattle.ref_table.proofs.Rotations.{right_once, right_twice, left_once, left_twice}
use Rattle.ref_table.proofs.BranchJoins.{root_height, root_fork, join_builds}

pub rotate_right_none : (sets : List Levels) (old new : List Branch) (left right at : Option ℕ) (page lo hi : ℕ) (l r : Tree) → left ≡ None → AreSides sets old left page right lo hi l r 101
    → Joins sets old new left page right at → Builds sets old new at lo hi (rotated_right l page r)
rotate_right_none sets old new left right at page lo hi Leaf r e s is = join_builds sets old new left page right at lo hi Leaf r 101 (omega arith) s is
rotate_right_none sets old new left right at page lo hi (Fork a q b) r e s is = let f = s.left_is in absurd (cc)

pub rotate_left_none : (sets : List Levels) (old new : List Branch) (left right at : Option ℕ) (page lo hi : ℕ) (l r : Tree) → right ≡ None → AreSides sets old left page right lo hi l r 101
    → Joins sets old new left page right at → Builds sets old new at lo hi (rotated_left l page r)
rotate_left_none sets old new left right at page lo hi l Leaf e s is = join_builds sets old new left page right at lo hi l Leaf 101 (omega arith) s is
rotate_left_none sets old new left right at page lo hi l (Fork a q b) e s is = let f = s.right_is in absurd (cc)

-- the left tree has no right subtree
pub rotate_right_thin : (sets : List Levels) (old one new : List Branch) (left right low at : Option ℕ) (top page lo hi : ℕ) (upper : Branch) (l r : Tree) → left ≡ Some top → upper ≡ branch_at old (Some top) → upper.right ≡ None
    → AreSides sets old left page right lo hi l r 101 → Joins sets old one None page right low
    → Joins sets one new upper.left top low at → Builds sets old new at lo hi (rotated_right l page r)
rotate_right_thin sets old one new left right low at top page lo hi upper Leaf r e up thin s one_is new_is = let f = s.left_is in absurd (cc)
rotate_right_thin sets old one new left right low at top page lo hi upper (Fork a q Leaf) r e up thin s one_is new_is =
    let f = s.left_is in
    let same : top ≡ q = cc in
    let upper_is = up ∙ ap (branch_at old) (sym e ∙ f) ∙ root_fork sets old a q Leaf s.left_stands in
    right_once sets old one new a q Leaf page r left right low at None upper.left lo hi s refl (ap (λ (b : Branch). b.left) upper_is) one_is
    (subst (λ n. Joins sets one new upper.left n low at) same new_is)
rotate_right_thin sets old one new left right low at top page lo hi upper (Fork a q (Fork c m d)) r e up thin s one_is new_is =
    let upper_is = up ∙ ap (branch_at old) (sym e ∙ s.left_is) ∙ root_fork sets old a q (Fork c m d) s.left_stands in
    let f : upper.right ≡ Some m = ap (λ (b : Branch). b.right) upper_is in absurd (cc)

pub rotate_left_thin : (sets : List Levels) (old one new : List Branch) (left right low at : Option ℕ) (top page lo hi : ℕ) (upper : Branch) (l r : Tree) → right ≡ Some top → upper ≡ branch_at old (Some top) → upper.left ≡ None
    → AreSides sets old left page right lo hi l r 101 → Joins sets old one left page None low
    → Joins sets one new low top upper.right at → Builds sets old new at lo hi (rotated_left l page r)
rotate_left_thin sets old one new left right low at top page lo hi upper l Leaf e up thin s one_is new_is = let f = s.right_is in absurd (cc)
rotate_left_thin sets old one new left right low at top page lo hi upper l (Fork Leaf q b) e up thin s one_is new_is =
    let f = s.right_is in
    let same : top ≡ q = cc in
    let upper_is = up ∙ ap (branch_at old) (sym e ∙ f) ∙ root_fork sets old Leaf q b s.right_stands in
    left_once sets old one new l page Leaf q b left right low at None upper.right lo hi s refl (ap (λ (b : Branch). b.right) upper_is) one_is
    (subst (λ n. Joins sets one new low n upper.right at) same new_is)
rotate_left_thin sets old one new left right low at top page lo hi upper l (Fork (Fork c m d) q b) e up thin s one_is new_is =
    let upper_is = up ∙ ap (branch_at old) (sym e ∙ s.right_is) ∙ root_fork sets old (Fork c m d) q b s.right_stands in
    let f : upper.left ≡ Some m = ap (λ (b : Branch). b.left) upper_is in absurd (cc)

-- what is inside isn't higher than what is outside
pub rotate_right_once : (sets : List Levels) (old one new : List Branch) (left right low at : Option ℕ) (top mid page lo hi : ℕ) (upper inner outer : Branch) (l r : Tree) → left ≡ Some top → upper ≡ branch_at old (Some top) → upper.right ≡ Some mid
    → inner ≡ branch_at old upper.right → outer ≡ branch_at old upper.left → inner.height ≤ outer.height
    → AreSides sets old left page right lo hi l r 101 → Joins sets old one upper.right page right low
    → Joins sets one new upper.left top low at → Builds sets old new at lo hi (rotated_right l page r)
rotate_right_once sets old one new left right low at top mid page lo hi upper inner outer Leaf r e up there inn out low_high s one_is new_is = let f = s.left_is in absurd (cc)
rotate_right_once sets old one new left right low at top mid page lo hi upper inner outer (Fork a q Leaf) r e up there inn out low_high s one_is new_is =
    let upper_is = up ∙ ap (branch_at old) (sym e ∙ s.left_is) ∙ root_fork sets old a q Leaf s.left_stands in
    let f : upper.right ≡ None = ap (λ (b : Branch). b.right) upper_is in absurd (cc)
rotate_right_once sets old one new left right low at top mid page lo hi upper inner outer (Fork a q (Fork c m d)) r e up there inn out low_high s one_is new_is =
    let f = s.left_is in
    let same : top ≡ q = cc in
    let upper_is = up ∙ ap (branch_at old) (sym e ∙ f) ∙ root_fork sets old a q (Fork c m d) s.left_stands in
    let left_is = ap (λ (b : Branch). b.left) upper_is in
    let right_is = ap (λ (b : Branch). b.right) upper_is in
    let inner_high : inner.height ≡ height (Fork c m d) = ap (λ (b : Branch). b.height) (inn ∙ ap (branch_at old) right_is) ∙ root_height sets old (Fork c m d) s.left_stands.1.1 in
    let outer_high : outer.height ≡ height a = ap (λ (b : Branch). b.height) (out ∙ ap (branch_at old) left_is) ∙ root_height sets old a s.left_stands.1.0 in
    let test : nat_le (height (Fork c m d)) (height a) ≡ true = le-leb _ _ (omega (arith, inner_high, outer_high, low_high)) in
    subst (Builds sets old new at lo hi) (sym (cond-true _ _ _ test))
    (right_once sets old one new a q (Fork c m d) page r left right low at upper.right upper.left lo hi s right_is left_is one_is
    (subst (λ n. Joins sets one new upper.left n low at) same new_is))

pub rotate_left_once : (sets : List Levels) (old one new : List Branch) (left right low at : Option ℕ) (top mid page lo hi : ℕ) (upper inner outer : Branch) (l r : Tree) → right ≡ Some top → upper ≡ branch_at old (Some top) → upper.left ≡ Some mid
    → inner ≡ branch_at old upper.left → outer ≡ branch_at old upper.right → inner.height ≤ outer.height
    → AreSides sets old left page right lo hi l r 101 → Joins sets old one left page upper.left low
    → Joins sets one new low top upper.right at → Builds sets old new at lo hi (rotated_left l page r)
rotate_left_once sets old one new left right low at top mid page lo hi upper inner outer l Leaf e up there inn out low_high s one_is new_is = let f = s.right_is in absurd (cc)
rotate_left_once sets old one new left right low at top mid page lo hi upper inner outer l (Fork Leaf q b) e up there inn out low_high s one_is new_is =
    let upper_is = up ∙ ap (branch_at old) (sym e ∙ s.right_is) ∙ root_fork sets old Leaf q b s.right_stands in
    let f : upper.left ≡ None = ap (λ (b : Branch). b.left) upper_is in absurd (cc)
rotate_left_once sets old one new left right low at top mid page lo hi upper inner outer l (Fork (Fork c m d) q b) e up there inn out low_high s one_is new_is =
    let f = s.right_is in
    let same : top ≡ q = cc in
    let upper_is = up ∙ ap (branch_at old) (sym e ∙ f) ∙ root_fork sets old (Fork c m d) q b s.right_stands in
    let left_is = ap (λ (b : Branch). b.left) upper_is in
    let right_is = ap (λ (b : Branch). b.right) upper_is in
    let inner_high : inner.height ≡ height (Fork c m d) = ap (λ (b : Branch). b.height) (inn ∙ ap (branch_at old) left_is) ∙ root_height sets old (Fork c m d) s.right_stands.1.0 in
    let outer_high : outer.height ≡ height b = ap (λ (b : Branch). b.height) (out ∙ ap (branch_at old) right_is) ∙ root_height sets old b s.right_stands.1.1 in
    let test : nat_le (height (Fork c m d)) (height b) ≡ true = le-leb _ _ (omega (arith, inner_high, outer_high, low_high)) in
    subst (Builds sets old new at lo hi) (sym (cond-true _ _ _ test))
    (left_once sets old one new l page (Fork c m d) q b left right low at upper.left upper.right lo hi s left_is right_is one_is
    (subst (λ n. Joins sets one new low n upper.right at) same new_is))

-- what is inside is higher
pub rotate_right_twice : (sets : List Levels) (old one two new : List Branch) (left right first second at : Option ℕ) (top mid page lo hi : ℕ) (upper inner outer : Branch) (l r : Tree) → left ≡ Some top → upper ≡ branch_at old (Some top) → upper.right ≡ Some mid
    → inner ≡ branch_at old upper.right → outer ≡ branch_at old upper.left → outer.height < inner.height
    → AreSides sets old left page right lo hi l r 101 → Joins sets old one upper.left top inner.left first
    → Joins sets one two inner.right page right second
    → Joins sets two new first mid second at → Builds sets old new at lo hi (rotated_right l page r)
rotate_right_twice sets old one two new left right first second at top mid page lo hi upper inner outer Leaf r e up there inn out high s one_is two_is new_is = let f = s.left_is in absurd (cc)
rotate_right_twice sets old one two new left right first second at top mid page lo hi upper inner outer (Fork a q Leaf) r e up there inn out high s one_is two_is new_is =
    let upper_is = up ∙ ap (branch_at old) (sym e ∙ s.left_is) ∙ root_fork sets old a q Leaf s.left_stands in
    let f : upper.right ≡ None = ap (λ (b : Branch). b.right) upper_is in absurd (cc)
rotate_right_twice sets old one two new left right first second at top mid page lo hi upper inner outer (Fork a q (Fork c m d)) r e up there inn out high s one_is two_is new_is =
    let f = s.left_is in
    let same : top ≡ q = cc in
    let upper_is = up ∙ ap (branch_at old) (sym e ∙ f) ∙ root_fork sets old a q (Fork c m d) s.left_stands in
    let left_is = ap (λ (b : Branch). b.left) upper_is in
    let right_is : upper.right ≡ Some m = ap (λ (b : Branch). b.right) upper_is in
    let middle : mid ≡ m = cc in
    let inner_is = inn ∙ ap (branch_at old) right_is ∙ root_fork sets old c m d s.left_stands.1.1 in
    let inner_high : inner.height ≡ height (Fork c m d) = ap (λ (b : Branch). b.height) inner_is in
    let outer_high : outer.height ≡ height a = ap (λ (b : Branch). b.height) (out ∙ ap (branch_at old) left_is) ∙ root_height sets old a s.left_stands.1.0 in
    let test : nat_le (height (Fork c m d)) (height a) ≡ false = lt-leb _ _ (omega (arith, inner_high, outer_high, high)) in
    subst (Builds sets old new at lo hi) (sym (cond-false _ _ _ test))
    (right_twice sets old one two new a q c m d page r left right at upper.left inner.left inner.right first second lo hi s left_is (ap (λ (b : Branch). b.left) inner_is) (ap (λ (b : Branch). b.right) inner_is)
    (subst (λ n. Joins sets old one upper.left n inner.left first) same one_is) two_is
    (subst (λ n. Joins sets two new first n second at) middle new_is))

pub rotate_left_twice : (sets : List Levels) (old one two new : List Branch) (left right first second at : Option ℕ) (top mid page lo hi : ℕ) (upper inner outer : Branch) (l r : Tree) → right ≡ Some top → upper ≡ branch_at old (Some top) → upper.left ≡ Some mid
    → inner ≡ branch_at old upper.left → outer ≡ branch_at old upper.right → outer.height < inner.height
    → AreSides sets old left page right lo hi l r 101 → Joins sets old one left page inner.left first
    → Joins sets one two inner.right top upper.right second
    → Joins sets two new first mid second at → Builds sets old new at lo hi (rotated_left l page r)
rotate_left_twice sets old one two new left right first second at top mid page lo hi upper inner outer l Leaf e up there inn out high s one_is two_is new_is = let f = s.right_is in absurd (cc)
rotate_left_twice sets old one two new left right first second at top mid page lo hi upper inner outer l (Fork Leaf q b) e up there inn out high s one_is two_is new_is =
    let upper_is = up ∙ ap (branch_at old) (sym e ∙ s.right_is) ∙ root_fork sets old Leaf q b s.right_stands in
    let f : upper.left ≡ None = ap (λ (b : Branch). b.left) upper_is in absurd (cc)
rotate_left_twice sets old one two new left right first second at top mid page lo hi upper inner outer l (Fork (Fork c m d) q b) e up there inn out high s one_is two_is new_is =
    let f = s.right_is in
    let same : top ≡ q = cc in
    let upper_is = up ∙ ap (branch_at old) (sym e ∙ f) ∙ root_fork sets old (Fork c m d) q b s.right_stands in
    let left_is : upper.left ≡ Some m = ap (λ (b : Branch). b.left) upper_is in
    let right_is = ap (λ (b : Branch). b.right) upper_is in
    let middle : mid ≡ m = cc in
    let inner_is = inn ∙ ap (branch_at old) left_is ∙ root_fork sets old c m d s.right_stands.1.0 in
    let inner_high : inner.height ≡ height (Fork c m d) = ap (λ (b : Branch). b.height) inner_is in
    let outer_high : outer.height ≡ height b = ap (λ (b : Branch). b.height) (out ∙ ap (branch_at old) right_is) ∙ root_height sets old b s.right_stands.1.1 in
    let test : nat_le (height (Fork c m d)) (height b) ≡ false = lt-leb _ _ (omega (arith, inner_high, outer_high, high)) in
    subst (Builds sets old new at lo hi) (sym (cond-false _ _ _ test))
    (left_twice sets old one two new l page c m d q b left right at upper.right inner.left inner.right first second lo hi s right_is (ap (λ (b : Branch). b.left) inner_is) (ap (λ (b : Branch). b.right) inner_is)
    one_is (subst (λ n. Joins sets one two inner.right n upper.right second) same two_is)
    (subst (λ n. Joins sets two new first n second at) middle new_is))
