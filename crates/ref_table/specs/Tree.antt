-- Binary trees of pages.
use Rattle.std.specs.Prelude.{ℕ, ◌+◌, ◌<◌, ◌≤◌, eqb, max, if◌then◌else◌, Option, Some, None, List, [], ◌∷◌, ◌++◌}
use Rattle.std.specs.Int.RustNames.{bit_or}
use Rattle.store_word.specs.declared.levels.Levels.{Levels}
use Rattle.ref_table.specs.Sets.{set_at}

pub data Tree : Type 0 where
  Leaf : Tree
  Fork : (l : Tree) (page : ℕ) (r : Tree) → Tree

-- the page of the root
abbrev pub link : Tree → Option ℕ
link Leaf = None
link (Fork l p r) = Some p

-- how many pages the longest path from the root has
abbrev pub height : Tree → ℕ
height Leaf = 0
height (Fork l p r) = max (height l) (height r) + 1

-- the pages, read in order
abbrev pub in_order : Tree → List ℕ
in_order Leaf = []
in_order (Fork l p r) = in_order l ++ p ∷ in_order r

-- how often a page is in the tree
abbrev pub occurrences : ℕ → Tree → ℕ
occurrences k Leaf = 0
occurrences k (Fork l p r) = occurrences k l + (if eqb k p then 1 else 0) + occurrences k r

-- the union of the levels of all pages of the tree
abbrev pub below : List Levels → Tree → ℕ
below sets Leaf = 0
below sets (Fork l p r) = bit_or (bit_or (set_at sets p) (below sets l)) (below sets r)

-- a search tree of pages from one on and below another: lower pages are on the left side, higher ones on the right side
abbrev pub IsOrdered : ℕ → ℕ → Tree → Type 0
IsOrdered lo hi Leaf = Unit {0}
IsOrdered lo hi (Fork l p r) = (lo ≤ p) × (p < hi) × (IsOrdered lo p l × IsOrdered (p + 1) hi r)

-- the heights of the two subtrees of each page differ by at most one
abbrev pub IsBalanced : Tree → Type 0
IsBalanced Leaf = Unit {0}
IsBalanced (Fork l p r) = (height l ≤ height r + 1) × (height r ≤ height l + 1) × (IsBalanced l × IsBalanced r)
