-- What callers see of a tree that is stored in the branches.
use Rattle.std.proofs.Common.{◌≡◌, ◌≢◌, ℕ, suc, zero, ◌+◌, ◌-◌, ◌<◌, ◌≤◌, Bool, true, false, not, eqb, if◌then◌else◌, Option, Some, None, List, [], ◌∷◌, ◌++◌, length, filter, refl, sym, ap, ◌∙◌, arith, inl, inr}
use Rattle.std.specs.List.{range_with_len}
use Rattle.std.specs.Prelude.{slice_index_or}
use Rattle.std.proofs.lemmas.Bool.{cases_lt, eq-eqb, ne_eqb, cond-true, cond-false}
use Rattle.std.proofs.lemmas.List.Elements.{filter-append}
use Rattle.std.proofs.lemmas.List.FromFn.{get_or-map-range_with_len}
use Rattle.std.proofs.lemmas.Option.{get_or_from_slice_get}
use Rattle.store_word.specs.declared.levels.Levels.{Levels}
use Rattle.ref_table.specs.declared.branch.Branch.{Branch}
use Rattle.ref_table.specs.declared.node.RefNode.{RefNode}
use Rattle.ref_table.specs.Branches.{no_branch, branch_of, Stands, row_count, HasTree}
use Rattle.ref_table.specs.Sets.{no_levels, set_at, has_row, rows_of}
use Rattle.ref_table.specs.Table.{node_at, HasNodes, IsIndexed, node_from, table_of}
use Rattle.ref_table.specs.Tree.{Tree, in_order, occurrences, IsOrdered, Leaf, Fork}
use Rattle.ref_table.proofs.Occurrences.{one, one_same, occurrences_before, occurrences_after}
use Rattle.ref_table.proofs.Sizes.{height_law}

range_splits : (lo m n : ℕ) → range_with_len lo (m + n) ≡ range_with_len lo m ++ range_with_len (lo + m) n
range_splits lo zero n =
    let e : 0 + n ≡ n = omega arith in
    let f : lo + 0 ≡ lo = omega arith in
    rw (e, f) refl
range_splits lo (suc m) n =
    let e : suc m + n ≡ suc (m + n) = omega arith in
    let f : lo + suc m ≡ lo + 1 + m = omega arith in
    rw (e, f) (ap (λ xs. lo ∷ xs) (range_splits (lo + 1) m n))

abbrev pub tally : Bool → ℕ
tally b = if b then 1 else 0

none_pass : (p : ℕ → Bool) (lo n : ℕ) → ((k : ℕ) → lo ≤ k → k < lo + n → p k ≡ false) → filter p (range_with_len lo n) ≡ []
none_pass p lo zero f = refl
none_pass p lo (suc n) f = cond-false _ _ _ (f lo (omega arith) (omega arith)) ∙ none_pass p (lo + 1) n (λ k a b. f k (omega arith) (omega arith))

pub tally_low : (b : Bool) → tally b ≤ 1
tally_low true = omega arith
tally_low false = omega arith

counted : (b : Bool) → 0 < tally b → b ≡ true
counted true h = refl
counted false h = absurd (omega arith)

not_counted : (b : Bool) → tally b ≡ 0 → b ≡ false
not_counted true h = absurd (omega arith)
not_counted false h = refl

-- read in order, a search tree has its pages ascending
ascending : (p : ℕ → Bool) (lo n hi : ℕ) (t : Tree) → lo + n ≡ hi → IsOrdered lo hi t → ((k : ℕ) → lo ≤ k → k < hi → occurrences k t ≡ tally (p k)) → in_order t ≡ filter p (range_with_len lo n)
ascending p lo n hi Leaf e o f = sym (none_pass p lo n (λ k a b. not_counted (p k) (sym (f k a (omega arith)))))
ascending p lo n hi (Fork l q r) e o f =
    let from = o.0 in
    let to = o.1 in
    let m : ℕ = q - lo in
    let k : ℕ = hi - (q + 1) in
    let size : n ≡ m + suc k = omega arith in
    let mid : lo + m ≡ q = omega arith in
    let here : p q ≡ true = counted (p q) (omega (arith, f q from to, one_same q)) in
    let left = ascending p lo m q l mid o.2.0 (λ i a b.
    let none = occurrences_before i (q + 1) hi r (omega arith) o.2.1 in
    let other : one i q ≡ 0 = rw (ne_eqb i q (λ e. omega (arith, e, b))) refl in
    omega (arith, f i a (omega arith))) in
    let right = ascending p (q + 1) k hi r (omega arith) o.2.1 (λ i a b.
    let none = occurrences_after i lo q l (omega arith) o.2.0 in
    let other : one i q ≡ 0 = rw (ne_eqb i q (λ e. omega (arith, e, a))) refl in
    omega (arith, f i (omega arith) b)) in
    let split : range_with_len lo n ≡ range_with_len lo m ++ (q ∷ range_with_len (q + 1) k) =
    ap (range_with_len lo) size ∙ range_splits lo m (suc k) ∙ ap (λ s. range_with_len lo m ++ range_with_len s (suc k)) mid in
    ap (λ xs. xs ++ q ∷ in_order r) left ∙ ap (λ xs. filter p (range_with_len lo m) ++ q ∷ xs) right
    ∙ ap (λ xs. filter p (range_with_len lo m) ++ xs) (sym (cond-true (p q) (q ∷ filter p (range_with_len (q + 1) k)) (filter p (range_with_len (q + 1) k)) here))
    ∙ sym (filter-append p (range_with_len lo m) (q ∷ range_with_len (q + 1) k)) ∙ ap (filter p) (sym split)

pub node_is : (sets : List Levels) (branches : List Branch) (root : Option ℕ) (page : ℕ) → page < length sets → node_at (table_of sets branches root) page ≡ node_from sets branches page
node_is sets branches root page low =
    get_or-map-range_with_len (node_from sets branches) 0 (length sets) page page None low (omega arith)

has_nodes : (sets : List Levels) (branches : List Branch) (root : Option ℕ) (t : Tree) → Stands sets branches t → ((k : ℕ) → 0 < occurrences k t → k < length sets) → ((k : ℕ) → 0 < occurrences k t → set_at sets k ≢ 0) → HasNodes (table_of sets branches root) t
has_nodes sets branches root Leaf s inside f = tt
has_nodes sets branches root (Fork l p r) s inside f =
    let here = one_same p in (
      node_is sets branches root p (inside p (omega arith)) ∙ cond-false _ _ _ (ne_eqb _ _ (f p (omega arith))) ∙ ap (λ (b : Branch). Some (node b)) (get_or_from_slice_get branches p (branch_of sets l p r) no_branch s.0),
      (has_nodes sets branches root l s.1.0 (λ k a. inside k (omega arith)) (λ k a. f k (omega arith)), has_nodes sets branches root r s.1.1 (λ k a. inside k (omega arith)) (λ k a. f k (omega arith))),
    )
  where
    node : Branch → RefNode
    node b = record { levels = slice_index_or sets p no_levels; below = b.below; left = b.left; right = b.right; height = b.height }

row_tally : (sets : List Levels) (k : ℕ) → row_count sets k ≡ tally (has_row sets k)
row_tally sets k = elim (eqb (set_at sets k) 0) as (λ (b : Bool). ◌≡◌ {A = ℕ} (if b then 0 else 1) (tally (not b))) [ true ↦ refl | false ↦ refl ]

pub is_inside : (sets : List Levels) (branches : List Branch) (root : Option ℕ) (t : Tree) → HasTree sets branches root t → (k : ℕ) → 0 < occurrences k t → k < length sets
is_inside sets branches root t h k some =
    elim (cases_lt k (length sets)) [ inl low ↦ low | inr high ↦ (let absent = occurrences_after k 0 (length sets) t high h.ordered in absurd (omega arith)) ]

has_set : (sets : List Levels) (branches : List Branch) (root : Option ℕ) (t : Tree) → HasTree sets branches root t → (k : ℕ) → 0 < occurrences k t → set_at sets k ≢ 0
has_set sets branches root t h k some none =
    let rows = h.rows k (is_inside sets branches root t h k some) in
    let zero' : row_count sets k ≡ 0 = cond-true _ _ _ (eq-eqb _ _ none) in
    omega arith

pub rows_in_order : (sets : List Levels) (branches : List Branch) (root : Option ℕ) (t : Tree) → HasTree sets branches root t → in_order t ≡ rows_of sets
rows_in_order sets branches root t h = ascending (has_row sets) 0 (length sets) (length sets) t (omega arith) h.ordered (λ k a low. h.rows k low ∙ row_tally sets k)

pub is_indexed : (sets : List Levels) (branches : List Branch) (root : Option ℕ) (t : Tree) → HasTree sets branches root t → IsIndexed (table_of sets branches root)
is_indexed sets branches root t h =
    let rows = rows_in_order sets branches root t h in
    let law = height_law t h.balanced in
    let size = ap (length {A = ℕ}) rows in
    record {
      tree = t;
      root = h.root_is;
      nodes = has_nodes sets branches root t h.stands (is_inside sets branches root t h) (has_set sets branches root t h);
      ascending = rows;
      balanced = h.balanced;
      low = omega arith;
    }
