-- What callers see of the table: sets, and nodes that are a search tree of the rows.
use Rattle.std.specs.Prelude.{ℕ, ◌≡◌, ◌+◌, ◌/◌, ◌^◌, ◌≤◌, eqb, if◌then◌else◌, Option, Some, None, List, length, map, slice_index_or}
use Rattle.std.specs.List.{range_with_len}
use Rattle.store_word.specs.declared.levels.Levels.{Levels}
use Rattle.ref_table.specs.declared.branch.Branch.{Branch}
use Rattle.ref_table.specs.declared.node.RefNode.{RefNode}
use Rattle.ref_table.specs.Sets.{no_levels, set_at, rows_of}
use Rattle.ref_table.specs.Tree.{Tree, Leaf, Fork, link, height, below, in_order, IsBalanced}
use Rattle.ref_table.specs.Branches.{no_branch}

-- the set of each page, the node of each page that has a row, and the page of the root
pub record Table : Type 0 where
  pub sets : List Levels
  pub nodes : List (Option RefNode)
  pub root : Option ℕ

-- the node of a page
abbrev pub node_at : Table → ℕ → Option RefNode
node_at v page = slice_index_or v.nodes page None

-- the node of a page over two trees: its own levels, the union of all, the two roots, and the height
abbrev pub node_of : List Levels → Tree → ℕ → Tree → RefNode
node_of sets l p r = record {
  levels = slice_index_or sets p no_levels;
  below = (let s : Levels = record { 0 = below sets (Fork l p r) } in s);
  left = link l;
  right = link r;
  height = height (Fork l p r);
}

-- the nodes of a table are those of a tree
abbrev pub HasNodes : Table → Tree → Type 0
HasNodes v Leaf = Unit {0}
HasNodes v (Fork l p r) = (node_at v p ≡ Some (node_of v.sets l p r)) × (HasNodes v l × HasNodes v r)

-- from the root, the nodes are a balanced tree that has, read in order, the rows ascending; so its height is at most twice the logarithm of their number
pub record IsIndexed (v : Table) : Type 0 where
  pub tree : Tree
  pub root : v.root ≡ link tree
  pub nodes : HasNodes v tree
  pub ascending : in_order tree ≡ rows_of v.sets
  pub balanced : IsBalanced tree
  pub low : 2 ^ (height tree / 2) ≤ length (rows_of v.sets) + 1

-- the node of a page, from its set and its branch
abbrev pub node_from : List Levels → List Branch → ℕ → Option RefNode
node_from sets branches page = if eqb (set_at sets page) 0 then None else Some (record {
  levels = slice_index_or sets page no_levels;
  below = (slice_index_or branches page no_branch).below;
  left = (slice_index_or branches page no_branch).left;
  right = (slice_index_or branches page no_branch).right;
  height = (slice_index_or branches page no_branch).height;
})

-- the table of sets, branches and a root
abbrev pub table_of : List Levels → List Branch → Option ℕ → Table
table_of sets branches root = record { sets = sets; nodes = map (node_from sets branches) (range_with_len 0 (length sets)); root = root }
