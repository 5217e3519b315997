-- How many rows there are after one has changed.
use Rattle.std.proofs.Common.{◌≡◌, ◌≢◌, ℕ, suc, zero, ◌+◌, ◌<◌, ◌≤◌, Bool, true, false, not, eqb, if◌then◌else◌, List, ◌∷◌, length, length-set, filter, slice_set, get_or-set_same, get_or-set_other, refl, ap, ◌∙◌, arith, inl, inr}
use Rattle.std.specs.List.{range_with_len}
use Rattle.std.proofs.lemmas.Bool.{cases_eq}
use Rattle.store_word.specs.declared.levels.Levels.{Levels}
use Rattle.ref_table.specs.Sets.{no_levels, set_at, has_row, rows_of}
use Rattle.ref_table.proofs.TreeIndex.{tally, tally_low}

length-filter-cons : (p : ℕ → Bool) (x : ℕ) (xs : List ℕ) → length (filter p (x ∷ xs)) ≡ tally (p x) + length (filter p xs)
length-filter-cons p x xs = elim (p x) as (λ b. length (if b then x ∷ filter p xs else filter p xs) ≡ tally b + length (filter p xs)) [ true ↦ omega arith | false ↦ omega arith ]

filter-same : (f g : ℕ → Bool) (q lo n : ℕ) → ((k : ℕ) → k ≢ q → f k ≡ g k) → q < lo → length (filter f (range_with_len lo n)) ≡ length (filter g (range_with_len lo n))
filter-same f g q lo zero same low = refl
filter-same f g q lo (suc n) same low =
    let a = length-filter-cons f lo (range_with_len (lo + 1) n) in
    let b = length-filter-cons g lo (range_with_len (lo + 1) n) in
    let c = filter-same f g q (lo + 1) n same (omega arith) in
    let d = ap tally (same lo (λ e. omega (arith, e))) in
    omega arith

-- two tests that differ at one number alone
filter-changed : (f g : ℕ → Bool) (q lo n : ℕ) → ((k : ℕ) → k ≢ q → f k ≡ g k) → lo ≤ q → q < lo + n
    → length (filter f (range_with_len lo n)) + tally (g q) ≡ length (filter g (range_with_len lo n)) + tally (f q)
filter-changed f g q lo zero same low high = absurd (omega arith)
filter-changed f g q lo (suc n) same low high =
    let a = length-filter-cons f lo (range_with_len (lo + 1) n) in
    let b = length-filter-cons g lo (range_with_len (lo + 1) n) in
    elim (cases_eq lo q) [
      | inl e ↦
          (let c = filter-same f g q (lo + 1) n same (omega arith) in
          let d = ap (λ k. tally (f k)) e in
          let h = ap (λ k. tally (g k)) e in
          omega arith)
      | inr ne ↦ (let c = filter-changed f g q (lo + 1) n same (omega arith) (omega arith) in let d = ap tally (same lo ne) in omega arith)
    ]

pub rows_changed : (sets : List Levels) (page : ℕ) (levels : Levels) → page < length sets
    → length (rows_of (slice_set sets page levels)) + tally (has_row sets page) ≡ length (rows_of sets) + tally (not (eqb levels.0 0))
rows_changed sets page levels low =
    let size : length (slice_set sets page levels) ≡ length sets = length-set sets page levels in
    let here : set_at (slice_set sets page levels) page ≡ levels.0 = ap (λ (v : Levels). v.0) (get_or-set_same sets page levels no_levels low) in
    let other : (k : ℕ) → k ≢ page → has_row (slice_set sets page levels) k ≡ has_row sets k =
    λ k ne. ap (λ (v : Levels). not (eqb v.0 0)) (get_or-set_other sets page k levels no_levels ne) in
    let changed = filter-changed (has_row (slice_set sets page levels)) (has_row sets) page 0 (length sets) other (omega arith) (omega arith) in
    ap (λ n. length (filter (has_row (slice_set sets page levels)) (range_with_len 0 n)) + tally (has_row sets page)) size
    ∙ changed ∙ ap (λ n. length (rows_of sets) + tally (not (eqb n 0))) here

pub rows_fit : (sets : List Levels) → length (rows_of sets) ≤ length sets
rows_fit sets = few (has_row sets) 0 (length sets)
  where
    few : (p : ℕ → Bool) (lo n : ℕ) → length (filter p (range_with_len lo n)) ≤ n
    few p lo zero = omega arith
    few p lo (suc n) = let a = length-filter-cons p lo (range_with_len (lo + 1) n) in let b = few p (lo + 1) n in let c = tally_low (p lo) in omega arith
