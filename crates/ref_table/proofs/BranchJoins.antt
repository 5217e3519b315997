-- What is stored in the branches after a join.
use Rattle.std.proofs.lemmas.Option.{get_or_from_slice_get}
use Rattle.ref_table.specs.declared.branch.Branch.{Branch}
use Rattle.std.proofs.Common.{◌≡◌, ◌≢◌, ℕ, ◌+◌, ◌<◌, ◌≤◌, min, max, Option, Some, refl, ap, ◌∙◌, arith, List, length, length-set, slice_get, slice_set}
use Rattle.std.specs.Int.RustNames.{bit_or}
use Rattle.store_word.specs.declared.levels.Levels.{Levels}
use Rattle.ref_table.specs.Branches.{no_branch, branch_at, joined, branch_of, Joins, Stands, IsPart, AreSides, Builds}
use Rattle.ref_table.specs.Sets.{set_at}
use Rattle.ref_table.specs.Tree.{Tree, link, height, below, IsOrdered, Leaf, Fork}
use Rattle.ref_table.proofs.ListLaws.{slice_get-set_same, slice_get-set_other}
use Rattle.ref_table.proofs.Occurrences.{one}

-- the branch of the root of a tree that is stored
pub root_height : (sets : List Levels) (branches : List Branch) (t : Tree) → Stands sets branches t → (branch_at branches (link t)).height ≡ height t
root_height sets branches Leaf s = refl
root_height sets branches (Fork l p r) s = ap (λ (b : Branch). b.height) (get_or_from_slice_get branches p (branch_of sets l p r) no_branch s.0)

pub root_below : (sets : List Levels) (branches : List Branch) (t : Tree) → Stands sets branches t → (branch_at branches (link t)).below.0 ≡ below sets t
root_below sets branches Leaf s = refl
root_below sets branches (Fork l p r) s = ap (λ (b : Branch). b.below.0) (get_or_from_slice_get branches p (branch_of sets l p r) no_branch s.0)

pub root_fork : (sets : List Levels) (branches : List Branch) (l : Tree) (p : ℕ) (r : Tree) → Stands sets branches (Fork l p r) → branch_at branches (Some p) ≡ branch_of sets l p r
root_fork sets branches l p r s = get_or_from_slice_get branches p (branch_of sets l p r) no_branch s.0

pub stands_within : (sets : List Levels) (old new : List Branch) (lo hi : ℕ) (t : Tree) → IsOrdered lo hi t
    → ((k : ℕ) → lo ≤ k → k < hi → slice_get new k ≡ slice_get old k) → Stands sets old t → Stands sets new t
stands_within sets old new lo hi Leaf o same s = tt
stands_within sets old new lo hi (Fork l p r) o same s = (
  same p o.0 o.1 ∙ s.0,
  (
    stands_within sets old new lo p l o.2.0 (λ k a b. same k a (omega (arith, o.1))) s.1.0,
    stands_within sets old new (p + 1) hi r o.2.1 (λ k a b. same k (omega (arith, o.0)) b) s.1.1,
  ),
)

joined_is : (sets : List Levels) (branches : List Branch) (left : Option ℕ) (page : ℕ) (right : Option ℕ) (l r : Tree) → left ≡ link l → right ≡ link r
    → Stands sets branches l → Stands sets branches r → height l < 199 → height r < 199 → joined sets branches left page right ≡ branch_of sets l page r
joined_is sets branches left page right l r a b s t low_l low_r =
    let hl : (branch_at branches left).height ≡ height l = ap (λ (o : Option ℕ). (branch_at branches o).height) a ∙ root_height sets branches l s in
    let hr : (branch_at branches right).height ≡ height r = ap (λ (o : Option ℕ). (branch_at branches o).height) b ∙ root_height sets branches r t in
    let bl : (branch_at branches left).below.0 ≡ below sets l = ap (λ (o : Option ℕ). (branch_at branches o).below.0) a ∙ root_below sets branches l s in
    let br : (branch_at branches right).below.0 ≡ below sets r = ap (λ (o : Option ℕ). (branch_at branches o).below.0) b ∙ root_below sets branches r t in
    let h : min (max (branch_at branches left).height (branch_at branches right).height + 1) 255 ≡ max (height l) (height r) + 1 = omega arith in
    let e : bit_or (bit_or (set_at sets page) (branch_at branches left).below.0) (branch_at branches right).below.0 ≡ bit_or (bit_or (set_at sets page) (below sets l)) (below sets r) = cc in
    ap (λ (n : ℕ). mk n (min (max (branch_at branches left).height (branch_at branches right).height + 1) 255) left right) e
    ∙ ap (λ (n : ℕ). mk (bit_or (bit_or (set_at sets page) (below sets l)) (below sets r)) n left right) h
    ∙ ap (λ (o : Option ℕ). mk (bit_or (bit_or (set_at sets page) (below sets l)) (below sets r)) (max (height l) (height r) + 1) o right) a
    ∙ ap (λ (o : Option ℕ). mk (bit_or (bit_or (set_at sets page) (below sets l)) (below sets r)) (max (height l) (height r) + 1) (link l) o) b
  where
    mk : ℕ → ℕ → Option ℕ → Option ℕ → Branch
    mk n h x y = record { below = (let s : Levels = record { 0 = n } in s); left = x; right = y; height = h }

pub join_builds : (sets : List Levels) (old new : List Branch) (left : Option ℕ) (page : ℕ) (right at : Option ℕ) (lo hi : ℕ) (l r : Tree) (most : ℕ) → most < 199
    → AreSides sets old left page right lo hi l r most → Joins sets old new left page right at → Builds sets old new at lo hi (Fork l page r)
join_builds sets old new left page right at lo hi l r most few s is =
    let value = joined_is sets old left page right l r s.left_is s.right_is s.left_stands s.right_stands (omega (arith, s.left_low)) (omega (arith, s.right_low)) in
    let is' : new ≡ slice_set old page (branch_of sets l page r) = is.after ∙ ap (slice_set old page) value in
    let other : (k : ℕ) → k ≢ page → slice_get new k ≡ slice_get old k = λ k ne. ap (λ (bs : List Branch). slice_get bs k) is' ∙ slice_get-set_other old page k _ ne in
    let here : slice_get new page ≡ Some (branch_of sets l page r) = ap (λ (bs : List Branch). slice_get bs page) is' ∙ slice_get-set_same old page _ (omega (arith, s.to, s.inside)) in
    record {
      size = ap length is.after ∙ length-set old page _;
      top = is.value;
      stands = (
        here,
        (
          stands_within sets old new lo page l s.left_ordered (λ k a b. other k (λ e. omega (arith, e, b))) s.left_stands,
          stands_within sets old new (page + 1) hi r s.right_ordered (λ k a b. other k (λ e. omega (arith, e, a))) s.right_stands,
        ),
      );
      before = λ k low. other k (λ e. omega (arith, e, low, s.from));
      after = λ k high. other k (λ e. omega (arith, e, high, s.to));
    }

-- one change after another within it
pub builds_after : (sets : List Levels) (old mid new : List Branch) (at at' : Option ℕ) (lo hi lo' hi' : ℕ) (t t' : Tree) → lo ≤ lo' → hi' ≤ hi
    → Builds sets old mid at' lo' hi' t' → Builds sets mid new at lo hi t → Builds sets old new at lo hi t
builds_after sets old mid new at at' lo hi lo' hi' t t' a b one two = record {
  size = two.size ∙ one.size;
  top = two.top;
  stands = two.stands;
  before = λ k low. two.before k low ∙ one.before k (omega arith);
  after = λ k high. two.after k high ∙ one.after k (omega arith);
}

-- nothing changes
pub builds_same : (sets : List Levels) (branches : List Branch) (at : Option ℕ) (lo hi : ℕ) (t : Tree) → at ≡ link t → Stands sets branches t → Builds sets branches branches at lo hi t
builds_same sets branches at lo hi t e s = record { size = refl; top = e; stands = s; before = λ k _. refl; after = λ k _. refl }

pub part_left : (sets : List Levels) (old : List Branch) (lo hi : ℕ) (l : Tree) (p : ℕ) (r : Tree) → IsPart sets old lo hi (Fork l p r) → IsPart sets old lo p l
part_left sets old lo hi l p r w = let h = w.low in record { stands = w.stands.1.0; ordered = w.ordered.2.0; inside = omega (arith, w.ordered.1, w.inside); low = omega arith }

pub part_right : (sets : List Levels) (old : List Branch) (lo hi : ℕ) (l : Tree) (p : ℕ) (r : Tree) → IsPart sets old lo hi (Fork l p r) → IsPart sets old (p + 1) hi r
part_right sets old lo hi l p r w = let h = w.low in record { stands = w.stands.1.1; ordered = w.ordered.2.1; inside = w.inside; low = omega arith }
