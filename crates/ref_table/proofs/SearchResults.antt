-- What a search of the tree finds, stated by the sets alone.
use Rattle.ref_table.specs.declared.branch.Branch.{Branch}
use Rattle.std.specs.Prelude.{IfSome, IfNone}
use Rattle.std.proofs.Common.{◌<◌, ◌≡◌, ℕ, Option, Some, None, ap, ◌∙◌, arith, inl, inr, List, length}
use Rattle.std.proofs.lemmas.Bool.{cases_eq, ne_eqb, cond-false}
use Rattle.std.proofs.lemmas.Nat.Bits.{bit_at_and, bit_at-lt, bit_at-zero, same_from_bits}
use Rattle.std.specs.Int.RustNames.{bit_and}
use Rattle.store_word.specs.Sets.{Meets}
use Rattle.store_word.specs.declared.levels.Levels.{Levels}
use Rattle.ref_table.specs.Branches.{HasTree}
use Rattle.ref_table.specs.Sets.{set_at, IsMatch, NoneMeets}
use Rattle.ref_table.specs.Tree.{Tree, occurrences}
use Rattle.ref_table.proofs.TreeIndex.{is_inside}
use Rattle.ref_table.proofs.Searches.{IsNextIn}

and_zero : (l : ℕ) → bit_and 0 l ≡ 0
and_zero l = same_from_bits (bit_and 0 l) 0 (λ i. let p = bit_at_and 0 l i in let z = bit_at-zero i in let w = bit_at-lt l i in omega (arith, p, z, w))

no_row_apart : (sets : List Levels) (k levels : ℕ) → set_at sets k ≡ 0 → ¬ Meets (set_at sets k) levels
no_row_apart sets k levels e m = m (ap (λ n. bit_and n levels) e ∙ and_zero levels)

-- what the search finds, said of the sets alone
pub found_matches : (sets : List Levels) (branches : List Branch) (at : Option ℕ) (from levels : ℕ) (t : Tree) (o : Option ℕ) → HasTree sets branches at t → IsNextIn sets from levels t o → IfSome o (IsMatch sets from levels)
found_matches sets branches at from levels t None h n = tt
found_matches sets branches at from levels t (Some q) h n = let there = n.1 in (n.0, is_inside sets branches at t h q there, n.2.0)

rowless_meets : (sets : List Levels) (branches : List Branch) (at : Option ℕ) (from levels k : ℕ) (t : Tree) → HasTree sets branches at t → k < length sets → (0 < occurrences k t → ¬ Meets (set_at sets k) levels) → ¬ Meets (set_at sets k) levels
rowless_meets sets branches at from levels k t h low f =
    elim (cases_eq (set_at sets k) 0) [
      | inl e ↦ no_row_apart sets k levels e
      | inr ne ↦ (let one_row = h.rows k low ∙ cond-false _ _ _ (ne_eqb _ _ ne) in f (omega arith))
    ]

pub found_lowest : (sets : List Levels) (branches : List Branch) (at : Option ℕ) (from levels : ℕ) (t : Tree) (o : Option ℕ) → HasTree sets branches at t → IsNextIn sets from levels t o → IfSome o (NoneMeets sets levels from)
found_lowest sets branches at from levels t None h n = tt
found_lowest sets branches at from levels t (Some q) h n =
    let inside = is_inside sets branches at t h q n.1 in
    λ k a low. rowless_meets sets branches at from levels k t h (omega arith) (n.2.1 k a low)

pub found_none : (sets : List Levels) (branches : List Branch) (at : Option ℕ) (from levels : ℕ) (t : Tree) (o : Option ℕ) → HasTree sets branches at t → IsNextIn sets from levels t o → IfNone o (NoneMeets sets levels from (length sets))
found_none sets branches at from levels t None h n = λ k a low. rowless_meets sets branches at from levels k t h low (n k a)
found_none sets branches at from levels t (Some q) h n = tt
