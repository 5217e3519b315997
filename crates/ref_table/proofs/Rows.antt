-- A row is added to the tree or removed from it.
use Rattle.ref_table.specs.declared.branch.Branch.{Branch}
use Rattle.std.proofs.Common.{◌<◌, ◌≡◌, ◌≢◌, ℕ, ◌≤◌, true, Option, Some, refl, sym, ap, subst, ◌∙◌, arith, inl, inr, eqb, if◌then◌else◌, List, length, length-set, slice_set, get_or-set_same, get_or-set_other}
use Rattle.std.proofs.lemmas.Bool.{cases_eq, eq-eqb, ne_eqb, cond-true, cond-false, not-true}
use Rattle.store_word.specs.declared.levels.Levels.{Levels}
use Rattle.ref_table.specs.Branches.{Stands, IsPart, Builds, row_count, HasTree, HasRows, without_row}
use Rattle.ref_table.specs.Rotation.{insert, removed}
use Rattle.ref_table.specs.Sets.{no_levels, set_at, has_row}
use Rattle.ref_table.specs.Tree.{Tree, link, height, occurrences, below, IsOrdered, Leaf, Fork}
use Rattle.ref_table.proofs.Occurrences.{one, one_same, occurrences_insert, occurrences_removed}
use Rattle.ref_table.proofs.Orders.{ordered_insert, ordered_removed}
use Rattle.ref_table.proofs.Shapes.{shape_insert, shape_removed}
use Rattle.ref_table.proofs.Sizes.{height_low}

below_same : (sets sets' : List Levels) (t : Tree) → ((k : ℕ) → 0 < occurrences k t → set_at sets' k ≡ set_at sets k) → below sets' t ≡ below sets t
below_same sets sets' Leaf f = refl
below_same sets sets' (Fork l p r) f =
    let s = one_same p in
    let a = f p (omega arith) in
    let b = below_same sets sets' l (λ k z. f k (omega (arith, z))) in
    let c = below_same sets sets' r (λ k z. f k (omega (arith, z))) in
    cc

pub stands_sets : (sets sets' : List Levels) (branches : List Branch) (t : Tree) → ((k : ℕ) → 0 < occurrences k t → set_at sets' k ≡ set_at sets k) → Stands sets branches t → Stands sets' branches t
stands_sets sets sets' branches Leaf f s = tt
stands_sets sets sets' branches (Fork l p r) f s =
    let same : below sets (Fork l p r) ≡ below sets' (Fork l p r) = sym (below_same sets sets' (Fork l p r) f) in (
      s.0 ∙ ap (λ (n : ℕ). Some (mk n)) same,
      (stands_sets sets sets' branches l (λ k z. f k (omega (arith, z))) s.1.0, stands_sets sets sets' branches r (λ k z. f k (omega (arith, z))) s.1.1),
    )
  where
    mk : ℕ → Branch
    mk n = record { below = (let v : Levels = record { 0 = n } in v); left = link l; right = link r; height = height (Fork l p r) }

pub part_of : (sets : List Levels) (branches : List Branch) (at : Option ℕ) (t : Tree) → HasTree sets branches at t → IsPart sets branches 0 (length sets) t
part_of sets branches at t h = let low = height_low (length sets) t h.few h.ordered h.balanced in record { stands = h.stands; ordered = h.ordered; inside = omega (arith, h.same); low = omega arith }

pub low_of : (sets : List Levels) (branches : List Branch) (at : Option ℕ) (t : Tree) → HasTree sets branches at t → height t ≤ 29
low_of sets branches at t h = height_low (length sets) t h.few h.ordered h.balanced

count_one : (sets : List Levels) (k : ℕ) → has_row sets k ≡ true → row_count sets k ≡ 1
count_one sets k e = cond-false _ _ _ (not-true _ e)

pub removed_tree : (sets sets' : List Levels) (old new : List Branch) (at at' : Option ℕ) (page : ℕ) (t : Tree) → page < length sets → has_row sets page ≡ true → sets' ≡ slice_set sets page no_levels
    → HasTree sets old at t → Builds sets old new at' 0 (length sets) (removed page t) → HasTree sets' new at' (without_row sets page t)
removed_tree sets sets' old new at at' page t inside row is h b =
    let there : occurrences page t ≡ 1 = h.rows page inside ∙ count_one sets page row in
    let gone : occurrences page (removed page t) ≡ 0 = (let e = occurrences_removed page page 0 (length sets) t h.ordered there in let s = one_same page in omega arith) in
    let size : length sets' ≡ length sets = ap length is ∙ length-set sets page no_levels in
    let here : set_at sets' page ≡ 0 = ap (λ (xs : List Levels). set_at xs page) is ∙ ap (λ (v : Levels). v.0) (get_or-set_same sets page no_levels no_levels inside) in
    let other : (k : ℕ) → k ≢ page → set_at sets' k ≡ set_at sets k = λ k ne. ap (λ (xs : List Levels). set_at xs k) is ∙ ap (λ (v : Levels). v.0) (get_or-set_other sets page k no_levels no_levels ne) in
    subst (HasTree sets' new at') (sym (cond-false _ _ _ (not-true _ row)))
    record {
      few = omega (arith, h.few);
      same = b.size ∙ h.same ∙ sym size;
      root_is = b.top;
      stands = stands_sets sets sets' new (removed page t) (λ k z. other k (λ e. omega (arith, z, gone, ap (λ n. occurrences n (removed page t)) e))) b.stands;
      ordered = subst (λ n. IsOrdered 0 n (removed page t)) (sym size) (ordered_removed page 0 (length sets) t h.ordered);
      balanced = (shape_removed page t h.balanced).0;
      rows = λ k low.
          elim (cases_eq k page) [
            | inl e ↦ ap (λ n. occurrences n (removed page t)) e ∙ gone ∙ sym (cond-true _ _ _ (eq-eqb _ _ (ap (set_at sets') e ∙ here)))
            | inr ne ↦ (
                let z : one k page ≡ 0 = rw (ne_eqb k page ne) refl in
                let r = occurrences_removed k page 0 (length sets) t h.ordered there in
                let same : occurrences k (removed page t) ≡ occurrences k t = omega arith in
                same ∙ h.rows k (omega (arith, size)) ∙ ap (λ (n : ℕ). let m : ℕ = if eqb n 0 then 0 else 1 in m) (sym (other k ne)))
          ];
    }

pub inserted_stands : (sets sets' : List Levels) (old : List Branch) (at : Option ℕ) (page : ℕ) (levels : Levels) (t : Tree) → page < length sets → set_at sets page ≡ 0 → sets' ≡ slice_set sets page levels
    → HasTree sets old at t → IsPart sets' old 0 (length sets) t
inserted_stands sets sets' old at page levels t inside none is h =
    let absent : occurrences page t ≡ 0 = h.rows page inside ∙ cond-true _ _ _ (eq-eqb _ _ none) in
    let w = part_of sets old at t h in
    let other : (k : ℕ) → k ≢ page → set_at sets' k ≡ set_at sets k = λ k ne. ap (λ (xs : List Levels). set_at xs k) is ∙ ap (λ (v : Levels). v.0) (get_or-set_other sets page k levels no_levels ne) in
    record { stands = stands_sets sets sets' old t (λ k z. other k (λ e. omega (arith, z, absent, ap (λ n. occurrences n t) e))) w.stands; ordered = w.ordered; inside = w.inside; low = w.low }

pub inserted_tree : (sets sets' : List Levels) (old new : List Branch) (at at' : Option ℕ) (page : ℕ) (levels : Levels) (t : Tree) → page < length sets → set_at sets page ≡ 0 → levels.0 ≢ 0 → sets' ≡ slice_set sets page levels
    → HasTree sets old at t → Builds sets' old new at' 0 (length sets) (insert page t) → HasRows sets' new at'
inserted_tree sets sets' old new at at' page levels t inside none some is h b =
    let absent : occurrences page t ≡ 0 = h.rows page inside ∙ cond-true _ _ _ (eq-eqb _ _ none) in
    let size : length sets' ≡ length sets = ap length is ∙ length-set sets page levels in
    let here : set_at sets' page ≡ levels.0 = ap (λ (xs : List Levels). set_at xs page) is ∙ ap (λ (v : Levels). v.0) (get_or-set_same sets page levels no_levels inside) in
    let other : (k : ℕ) → k ≢ page → set_at sets' k ≡ set_at sets k = λ k ne. ap (λ (xs : List Levels). set_at xs k) is ∙ ap (λ (v : Levels). v.0) (get_or-set_other sets page k levels no_levels ne) in (
      insert page t,
      record {
        few = omega (arith, h.few);
        same = b.size ∙ h.same ∙ sym size;
        root_is = b.top;
        stands = b.stands;
        ordered = subst (λ n. IsOrdered 0 n (insert page t)) (sym size) (ordered_insert page 0 (length sets) t (omega arith) inside h.ordered);
        balanced = (shape_insert page t h.balanced).0;
        rows = λ k low.
            let i = occurrences_insert k page t absent in
            elim (cases_eq k page) [
              | inl e ↦ (
                  let o : one k page ≡ 1 = ap (λ n. one n page) e ∙ one_same page in
                  let z : occurrences k t ≡ 0 = ap (λ n. occurrences n t) e ∙ absent in
                  let full : row_count sets' k ≡ 1 = cond-false _ _ _ (ne_eqb _ _ (λ f. some (sym here ∙ sym (ap (set_at sets') e) ∙ f))) in
                  omega arith)
              | inr ne ↦ (
                  let z : one k page ≡ 0 = rw (ne_eqb k page ne) refl in
                  let same : occurrences k (insert page t) ≡ occurrences k t = omega arith in
                  same ∙ h.rows k (omega (arith, size)) ∙ ap (λ (n : ℕ). let m : ℕ = if eqb n 0 then 0 else 1 in m) (sym (other k ne)))
            ];
      },
    )
