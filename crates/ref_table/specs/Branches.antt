-- The array of branches that represents a tree.
use Rattle.std.specs.Prelude.{ℕ, ◌≡◌, ◌+◌, ◌<◌, ◌≤◌, eqb, min, max, if◌then◌else◌, Option, Some, None, List, length, slice_get, slice_set, slice_index_or}
use Rattle.std.specs.Int.RustNames.{bit_or}
use Rattle.store_word.specs.declared.levels.Levels.{Levels}
use Rattle.ref_table.specs.declared.branch.Branch.{Branch}
use Rattle.ref_table.specs.Sets.{no_levels, set_at, rows_of}
use Rattle.ref_table.specs.Tree.{Tree, Leaf, Fork, link, height, below, occurrences, IsOrdered, IsBalanced}
use Rattle.ref_table.specs.Rotation.{removed}

-- the branch of a page that is in no tree, and of no page
abbrev pub no_branch : Branch
no_branch = record { below = no_levels; left = None; right = None; height = 0 }

-- the branch of a tree's root
abbrev pub branch_at : List Branch → Option ℕ → Branch
branch_at branches None = no_branch
branch_at branches (Some page) = slice_index_or branches page no_branch

-- the branch of a page over two trees, by the branches of their roots
abbrev pub joined : List Levels → List Branch → Option ℕ → ℕ → Option ℕ → Branch
joined sets branches left page right = record {
  below = (let s : Levels = record { 0 = bit_or (bit_or (set_at sets page) (branch_at branches left).below.0) (branch_at branches right).below.0 } in s);
  left = left;
  right = right;
  height = min (max (branch_at branches left).height (branch_at branches right).height + 1) 255;
}

-- a page became the root of two trees
pub record Joins (sets : List Levels) (old new : List Branch) (left : Option ℕ) (page : ℕ) (right at : Option ℕ) : Type 0 where
  pub after : new ≡ slice_set old page (joined sets old left page right)
  pub value : at ≡ Some page

-- the branch of a page over two trees
abbrev pub branch_of : List Levels → Tree → ℕ → Tree → Branch
branch_of sets l p r = record {
  below = (let s : Levels = record { 0 = below sets (Fork l p r) } in s);
  left = link l;
  right = link r;
  height = height (Fork l p r);
}

-- each page of a tree has its branch
abbrev pub Stands : List Levels → List Branch → Tree → Type 0
Stands sets branches Leaf = Unit {0}
Stands sets branches (Fork l p r) = (slice_get branches p ≡ Some (branch_of sets l p r)) × (Stands sets branches l × Stands sets branches r)

-- a search tree of pages between two bounds is stored in the branches
pub record IsPart (sets : List Levels) (branches : List Branch) (lo hi : ℕ) (t : Tree) : Type 0 where
  pub stands : Stands sets branches t
  pub ordered : IsOrdered lo hi t
  pub inside : hi ≤ length branches
  pub low : height t ≤ 100

-- two search trees are stored on the two sides of a page
pub record AreSides (sets : List Levels) (branches : List Branch) (left : Option ℕ) (page : ℕ) (right : Option ℕ) (lo hi : ℕ) (l r : Tree) (most : ℕ) : Type 0 where
  pub left_is : left ≡ link l
  pub right_is : right ≡ link r
  pub left_stands : Stands sets branches l
  pub right_stands : Stands sets branches r
  pub left_ordered : IsOrdered lo page l
  pub right_ordered : IsOrdered (page + 1) hi r
  pub from : lo ≤ page
  pub to : page < hi
  pub inside : hi ≤ length branches
  pub left_low : height l ≤ most
  pub right_low : height r ≤ most

-- a tree of pages between two bounds is now stored, and no branch of another page has changed
pub record Builds (sets : List Levels) (old new : List Branch) (at : Option ℕ) (lo hi : ℕ) (t : Tree) : Type 0 where
  pub size : length new ≡ length old
  pub top : at ≡ link t
  pub stands : Stands sets new t
  pub before : (k : ℕ) → k < lo → slice_get new k ≡ slice_get old k
  pub after : (k : ℕ) → hi ≤ k → slice_get new k ≡ slice_get old k

-- how many rows a page has
abbrev pub row_count : List Levels → ℕ → ℕ
row_count sets page = if eqb (set_at sets page) 0 then 0 else 1

-- a search tree of exactly the pages that have a row, in balance, is stored in the branches
pub record HasTree (sets : List Levels) (branches : List Branch) (root : Option ℕ) (t : Tree) : Type 0 where
  pub few : length sets ≤ 16384
  pub same : length branches ≡ length sets
  pub root_is : root ≡ link t
  pub stands : Stands sets branches t
  pub ordered : IsOrdered 0 (length sets) t
  pub balanced : IsBalanced t
  pub rows : (page : ℕ) → page < length sets → occurrences page t ≡ row_count sets page

-- some such tree is stored
abbrev pub HasRows : List Levels → List Branch → Option ℕ → Type 0
HasRows sets branches root = (t : Tree) × HasTree sets branches root t

-- the tree after the row of a page was removed
abbrev pub without_row : List Levels → ℕ → Tree → Tree
without_row sets page t = if eqb (set_at sets page) 0 then t else removed page t

-- some such tree is stored, and its rows are counted
pub record RefTableInvariant (sets : List Levels) (branches : List Branch) (root : Option ℕ) (count : ℕ) : Type 0 where
  pub rows : HasRows sets branches root
  pub counted : count ≡ length (rows_of sets)
