-- The table is kept: its tree, and the count of its rows.
use Rattle.ref_table.specs.declared.branch.Branch.{Branch}
use mir.Val.{bool_byte}
use Rattle.std.specs.Prelude.{slice_index_or}
use Rattle.std.proofs.lemmas.List.{get_or_default}
use Rattle.ref_table.specs.declared.node.RefNode.{RefNode}
use Rattle.std.proofs.Common.{Bool, false, not, ◌<◌, ◌^◌, ◌+◌, ◌≡◌, ℕ, ◌-◌, ◌≤◌, true, Option, Some, None, refl, sym, ap, ◌∙◌, arith, eqb, List, length, length-set, slice_set, get_or-set_same}
use Rattle.std.proofs.lemmas.Bool.{eq-eqb, cond-true}
use Rattle.std.proofs.lemmas.List.{length-replicate, get_or-replicate}
use Rattle.std.specs.Prelude.{replicate}
use Rattle.store_word.specs.declared.levels.Levels.{Levels}
use Rattle.ref_table.specs.Branches.{no_branch, HasTree, HasRows, without_row, RefTableInvariant}
use Rattle.ref_table.specs.Sets.{no_levels, set_at, has_row, rows_of}
use Rattle.ref_table.specs.Table.{IsIndexed, table_of}
use Rattle.ref_table.specs.Tree.{Tree, Leaf}
use Rattle.ref_table.proofs.Counts.{rows_changed, rows_fit}
use Rattle.ref_table.proofs.TreeIndex.{tally, tally_low, rows_in_order, is_indexed}

fresh_tree : (pages : ℕ) (sets : List Levels) (branches : List Branch) → pages ≤ 16384 → sets ≡ replicate pages no_levels → branches ≡ replicate pages no_branch → HasTree sets branches None Leaf
fresh_tree pages sets branches few s b =
    let size : length sets ≡ pages = ap length s ∙ length-replicate pages no_levels in
    record {
      few = omega arith;
      same = ap length b ∙ length-replicate pages no_branch ∙ sym size;
      root_is = refl;
      stands = tt;
      ordered = tt;
      balanced = tt;
      rows = λ k low. sym (cond-true _ _ _ (eq-eqb _ _ (ap (λ (xs : List Levels). set_at xs k) s ∙ ap (λ (v : Levels). v.0) (get_or-replicate pages k no_levels no_levels (omega arith)))));
    }

byte_tally : (b : Bool) → bool_byte b ≡ tally b
byte_tally true = refl
byte_tally false = refl

-- a row is counted
pub row_counted : (sets : List Levels) (page count : ℕ) → page < length sets → count ≡ length (rows_of sets) → bool_byte (has_row sets page) ≤ count
row_counted sets page count low counted =
    let changed = rows_changed sets page no_levels low in
    let byte = byte_tally (has_row sets page) in
    omega arith

-- the count has room for a row more
pub count_fits : (sets : List Levels) (branches : List Branch) (root : Option ℕ) (count : ℕ) (b : Bool) → RefTableInvariant sets branches root count → count + bool_byte b < 2 ^ 32
count_fits sets branches root count b k =
    let fit = rows_fit sets in
    let few = k.rows.1.few in
    let counted = k.counted in
    let byte = byte_tally b in
    let low = tally_low b in
    omega arith

pub kept_indexed : (sets : List Levels) (branches : List Branch) (root : Option ℕ) (count : ℕ) → RefTableInvariant sets branches root count → IsIndexed (table_of sets branches root)
kept_indexed sets branches root count k = is_indexed sets branches root k.rows.0 k.rows.1

-- a table without the row of a page is kept
pub removed_kept : (sets sets' : List Levels) (branches branches' : List Branch) (root root' : Option ℕ) (count count' page : ℕ) → page < length sets → RefTableInvariant sets branches root count
    → ((t : Tree) → HasTree sets branches root t → HasTree sets' branches' root' (without_row sets page t)) → sets' ≡ slice_set sets page no_levels
    → count' ≡ count - bool_byte (has_row sets page) → RefTableInvariant sets' branches' root' count'
removed_kept sets sets' branches branches' root root' count count' page low k f is fewer =
    let changed = rows_changed sets page no_levels low in
    let size = ap (λ (xs : List Levels). length (rows_of xs)) is in
    let counted = k.counted in
    let byte = byte_tally (has_row sets page) in
    record { rows = (without_row sets page k.rows.0, f k.rows.0 k.rows.1); counted = omega arith }

-- a table with a row for a page that had none is kept
pub inserted_kept : (sets sets' : List Levels) (branches branches' : List Branch) (root root' : Option ℕ) (count count' page : ℕ) (levels : Levels) → page < length sets → set_at sets page ≡ 0 → RefTableInvariant sets branches root count
    → ((t : Tree) → HasTree sets branches root t → HasRows sets' branches' root') → sets' ≡ slice_set sets page levels
    → count' ≡ count + bool_byte (not (eqb levels.0 0)) → RefTableInvariant sets' branches' root' count'
inserted_kept sets sets' branches branches' root root' count count' page levels low none k f is more =
    let changed = rows_changed sets page levels low in
    let size = ap (λ (xs : List Levels). length (rows_of xs)) is in
    let absent : tally (has_row sets page) ≡ 0 = ap (λ (b : Bool). tally (not b)) (eq-eqb _ _ none) in
    let counted = k.counted in
    let byte = byte_tally (not (eqb levels.0 0)) in
    record { rows = f k.rows.0 k.rows.1; counted = omega arith }

pub fresh_kept : (pages : ℕ) (sets : List Levels) (branches : List Branch) → pages ≤ 16384 → sets ≡ replicate pages no_levels → branches ≡ replicate pages no_branch → RefTableInvariant sets branches None 0
fresh_kept pages sets branches few s b =
    let tree = fresh_tree pages sets branches few s b in
    record { rows = (Leaf, tree); counted = ap (length {A = ℕ}) (rows_in_order sets branches None Leaf tree) }

-- a page that a row was taken from
pub emptied : (sets sets' : List Levels) (page : ℕ) → page < length sets → sets' ≡ slice_set sets page no_levels → (set_at sets' page ≡ 0) × (page < length sets')
emptied sets sets' page low is = (
  ap (λ (xs : List Levels). set_at xs page) is ∙ ap (λ (v : Levels). v.0) (get_or-set_same sets page no_levels no_levels low),
  omega (arith, ap (length {A = Levels}) is, length-set sets page no_levels),
)

pub write_empty : (sets : List Levels) (page : ℕ) (levels : Levels) → levels.0 ≡ 0 → slice_set sets page levels ≡ slice_set sets page no_levels
write_empty sets page levels e = ap (λ (n : ℕ). slice_set sets page (let s : Levels = record { 0 = n } in s)) e

-- the node of a page, as it is read
pub node_read : (sets : List Levels) (branches : List Branch) (page : ℕ) (levels : Levels) (branch : Branch) → page < length sets → page < length branches
    → levels ≡ slice_index_or sets page levels → branch ≡ slice_index_or branches page branch
    → ◌≡◌ {A = Option RefNode}
    (Some (record {
      levels = slice_index_or sets page no_levels;
      below = (slice_index_or branches page no_branch).below;
      left = (slice_index_or branches page no_branch).left;
      right = (slice_index_or branches page no_branch).right;
      height = (slice_index_or branches page no_branch).height;
    }))
    (Some (record { levels = levels; below = branch.below; left = branch.left; right = branch.right; height = branch.height }))
node_read sets branches page levels branch a b l e =
    let l' : slice_index_or sets page no_levels ≡ levels = sym (l ∙ get_or_default sets page levels no_levels a) in
    let e' : slice_index_or branches page no_branch ≡ branch = sym (e ∙ get_or_default branches page branch no_branch b) in
    λ i. Some (node (l' i) (e' i))
  where
    node : Levels → Branch → RefNode
    node s b = record { levels = s; below = b.below; left = b.left; right = b.right; height = b.height }
