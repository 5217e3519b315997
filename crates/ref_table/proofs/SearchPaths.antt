-- Each path through a search.
use Rattle.ref_table.specs.declared.branch.Branch.{Branch}
use Rattle.std.proofs.Common.{◌≡◌, ℕ, ◌-◌, ◌<◌, ◌≤◌, true, false, Option, Some, None, refl, sym, ap, ◌∙◌, arith, if◌then◌else◌, List}
use Rattle.std.proofs.lemmas.Bool.{cond-true, cond-false, le-leb, lt-leb}
use Rattle.std.specs.Option.{is_some}
use Rattle.store_word.specs.declared.levels.Levels.{Levels}
use Rattle.ref_table.specs.Branches.{branch_at, Stands}
use Rattle.ref_table.specs.Search.{or_else, found_from}
use Rattle.ref_table.specs.Sets.{set_at, do_meet}
use Rattle.ref_table.specs.Tree.{Tree, link, height, below, Leaf, Fork}
use Rattle.ref_table.proofs.BranchJoins.{root_fork}

none_from : (o : Option ℕ) → is_some o ≡ false → o ≡ None
none_from None e = refl
none_from (Some k) e = absurd (cc)

pub find_here : (sets : List Levels) (old : List Branch) (at found : Option ℕ) (top from levels depth : ℕ) (root : Branch) (t : Tree) → at ≡ Some top → root ≡ branch_at old (Some top) → do_meet root.below.0 levels ≡ true → from ≤ top → 0 < depth
    → ((t : Tree) → root.left ≡ link t → Stands sets old t → height t ≤ depth - 1 → found ≡ found_from sets from levels t) → is_some found ≡ false → do_meet (set_at sets top) levels ≡ true
    → at ≡ link t → Stands sets old t → height t ≤ depth → ◌≡◌ {A = Option ℕ} (Some top) (found_from sets from levels t)
find_here sets old at found top from levels depth root Leaf e ro m a pos f none here is s h = absurd (cc)
find_here sets old at found top from levels depth root (Fork l p r) e ro m a pos f none here is s h =
    let same : top ≡ p = cc in
    let root_is = ro ∙ ap (branch_at old) (sym e ∙ is) ∙ root_fork sets old l p r s in
    let m' : do_meet (below sets (Fork l p r)) levels ≡ true = ap (λ (b : Branch). do_meet b.below.0 levels) (sym root_is) ∙ m in
    let left : found_from sets from levels l ≡ None = sym (f l (ap (λ (b : Branch). b.left) root_is) s.1.0 (omega arith)) ∙ none_from found none in
    let here' : do_meet (set_at sets p) levels ≡ true = ap (λ n. do_meet (set_at sets n) levels) (sym same) ∙ here in
    sym (cond-true _ _ _ m' ∙ cond-true _ _ _ (le-leb from p (omega arith)) ∙ ap (λ (o : Option ℕ). or_else o (if do_meet (set_at sets p) levels then Some p else found_from sets from levels r)) left ∙ cond-true _ _ _ here' ∙ ap (λ n. Some n) (sym same))

pub find_past : (sets : List Levels) (old : List Branch) (at found result : Option ℕ) (top from levels depth : ℕ) (root : Branch) (t : Tree) → at ≡ Some top → root ≡ branch_at old (Some top) → do_meet root.below.0 levels ≡ true → from ≤ top → 0 < depth
    → ((t : Tree) → root.left ≡ link t → Stands sets old t → height t ≤ depth - 1 → found ≡ found_from sets from levels t) → is_some found ≡ false → do_meet (set_at sets top) levels ≡ false
    → ((t : Tree) → root.right ≡ link t → Stands sets old t → height t ≤ depth - 1 → result ≡ found_from sets from levels t)
    → at ≡ link t → Stands sets old t → height t ≤ depth → result ≡ found_from sets from levels t
find_past sets old at found result top from levels depth root Leaf e ro m a pos f none here g is s h = absurd (cc)
find_past sets old at found result top from levels depth root (Fork l p r) e ro m a pos f none here g is s h =
    let same : top ≡ p = cc in
    let root_is = ro ∙ ap (branch_at old) (sym e ∙ is) ∙ root_fork sets old l p r s in
    let m' : do_meet (below sets (Fork l p r)) levels ≡ true = ap (λ (b : Branch). do_meet b.below.0 levels) (sym root_is) ∙ m in
    let left : found_from sets from levels l ≡ None = sym (f l (ap (λ (b : Branch). b.left) root_is) s.1.0 (omega arith)) ∙ none_from found none in
    let here' : do_meet (set_at sets p) levels ≡ false = ap (λ n. do_meet (set_at sets n) levels) (sym same) ∙ here in
    g r (ap (λ (b : Branch). b.right) root_is) s.1.1 (omega arith)
    ∙ sym (cond-true _ _ _ m' ∙ cond-true _ _ _ (le-leb from p (omega arith)) ∙ ap (λ (o : Option ℕ). or_else o (if do_meet (set_at sets p) levels then Some p else found_from sets from levels r)) left ∙ cond-false _ _ _ here')

pub find_above : (sets : List Levels) (old : List Branch) (at result : Option ℕ) (top from levels depth : ℕ) (root : Branch) (t : Tree) → at ≡ Some top → root ≡ branch_at old (Some top) → do_meet root.below.0 levels ≡ true → top < from → 0 < depth
    → ((t : Tree) → root.right ≡ link t → Stands sets old t → height t ≤ depth - 1 → result ≡ found_from sets from levels t)
    → at ≡ link t → Stands sets old t → height t ≤ depth → result ≡ found_from sets from levels t
find_above sets old at result top from levels depth root Leaf e ro m a pos g is s h = absurd (cc)
find_above sets old at result top from levels depth root (Fork l p r) e ro m a pos g is s h =
    let same : top ≡ p = cc in
    let root_is = ro ∙ ap (branch_at old) (sym e ∙ is) ∙ root_fork sets old l p r s in
    let m' : do_meet (below sets (Fork l p r)) levels ≡ true = ap (λ (b : Branch). do_meet b.below.0 levels) (sym root_is) ∙ m in
    g r (ap (λ (b : Branch). b.right) root_is) s.1.1 (omega arith)
    ∙ sym (cond-true _ _ _ m' ∙ cond-false _ _ _ (lt-leb from p (omega arith)))
