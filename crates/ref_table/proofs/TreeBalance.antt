-- A page over two trees, one of which has changed.
use Rattle.ref_table.specs.declared.branch.Branch.{Branch}
use Rattle.std.proofs.Common.{◌≡◌, ℕ, ◌+◌, ◌<◌, ◌≤◌, Option, sym, ap, ◌∙◌, arith, List}
use Rattle.std.proofs.lemmas.Bool.{lt-ltb, cond-true, cond-false, le-ltb}
use Rattle.store_word.specs.declared.levels.Levels.{Levels}
use Rattle.ref_table.specs.Branches.{branch_at, IsPart, AreSides, Builds}
use Rattle.ref_table.specs.Rotation.{rotated_right, rotated_left, balanced}
use Rattle.ref_table.specs.Tree.{Tree, link, height, IsOrdered, Fork}
use Rattle.ref_table.proofs.BranchJoins.{root_height, stands_within, builds_after}

-- the heights that choose a rotation
pub side_heights : (sets : List Levels) (old : List Branch) (left right : Option ℕ) (page lo hi : ℕ) (l r : Tree) (hl hr : Branch) → hl ≡ branch_at old left → hr ≡ branch_at old right → AreSides sets old left page right lo hi l r 101
    → (hl.height ≡ height l) × (hr.height ≡ height r)
side_heights sets old left right page lo hi l r hl hr a b s = (
  ap (λ (b : Branch). b.height) (a ∙ ap (branch_at old) s.left_is) ∙ root_height sets old l s.left_stands,
  ap (λ (b : Branch). b.height) (b ∙ ap (branch_at old) s.right_is) ∙ root_height sets old r s.right_stands,
)

pub balanced_left : (l : Tree) (p : ℕ) (r : Tree) → height r + 1 < height l → rotated_right l p r ≡ balanced l p r
balanced_left l p r h = sym (cond-true _ _ _ (lt-ltb _ _ h))

pub balanced_right : (l : Tree) (p : ℕ) (r : Tree) → height l + 1 < height r → rotated_left l p r ≡ balanced l p r
balanced_right l p r h = sym (cond-false _ _ _ (le-ltb (height r + 1) (height l) (omega arith)) ∙ cond-true _ _ _ (lt-ltb (height l + 1) (height r) h))

pub balanced_even : (l : Tree) (p : ℕ) (r : Tree) → height l ≤ height r + 1 → height r ≤ height l + 1 → Fork l p r ≡ balanced l p r
balanced_even l p r a b = sym (cond-false _ _ _ (le-ltb (height r + 1) (height l) (omega arith)) ∙ cond-false _ _ _ (le-ltb (height l + 1) (height r) (omega arith)))

-- what a call of balance ensures
abbrev pub Balances : List Levels → List Branch → List Branch → Option ℕ → ℕ → Option ℕ → Option ℕ → Type 0
Balances sets mid new left page right at = (lo hi : ℕ) (l r : Tree) → AreSides sets mid left page right lo hi l r 101 → Builds sets mid new at lo hi (balanced l page r)

pub step_left : (sets : List Levels) (old mid new : List Branch) (left right at : Option ℕ) (p lo hi : ℕ) (l r x : Tree) → IsPart sets old lo hi (Fork l p r) → right ≡ link r → Builds sets old mid left lo p x → IsOrdered lo p x → height x ≤ 101
    → Balances sets mid new left p right at → Builds sets old new at lo hi (balanced x p r)
step_left sets old mid new left right at p lo hi l r x w right_is b ox low f =
    let o = w.ordered in
    let hw = w.low in
    builds_after sets old mid new at left lo hi lo p _ _ (omega arith) (omega (arith, o.1)) b
    (f lo hi x r record {
      left_is = b.top;
      right_is = right_is;
      left_stands = b.stands;
      right_stands = stands_within sets old mid (p + 1) hi r o.2.1 (λ k u v. b.after k (omega (arith, u))) w.stands.1.1;
      left_ordered = ox;
      right_ordered = o.2.1;
      from = o.0;
      to = o.1;
      inside = omega (arith, b.size, w.inside);
      left_low = low;
      right_low = omega arith;
    })

pub step_right : (sets : List Levels) (old mid new : List Branch) (left right at : Option ℕ) (p lo hi : ℕ) (l r x : Tree) → IsPart sets old lo hi (Fork l p r) → left ≡ link l → Builds sets old mid right (p + 1) hi x → IsOrdered (p + 1) hi x → height x ≤ 101
    → Balances sets mid new left p right at → Builds sets old new at lo hi (balanced l p x)
step_right sets old mid new left right at p lo hi l r x w left_is b ox low f =
    let o = w.ordered in
    let hw = w.low in
    builds_after sets old mid new at right lo hi (p + 1) hi _ _ (omega (arith, o.0)) (omega arith) b
    (f lo hi l x record {
      left_is = left_is;
      right_is = b.top;
      right_stands = b.stands;
      left_stands = stands_within sets old mid lo p l o.2.0 (λ k u v. b.before k (omega (arith, v))) w.stands.1.0;
      left_ordered = o.2.0;
      right_ordered = ox;
      from = o.0;
      to = o.1;
      inside = omega (arith, b.size, w.inside);
      left_low = omega arith;
      right_low = low;
    })
