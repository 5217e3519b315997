-- Why a region is free when one is wanted.
use Rattle.std.proofs.Common.{◌≡◌, ◌≢◌, ℕ, zero, suc, ◌+◌, ◌*◌, ◌<◌, ◌≤◌, Some, length, refl, sym, ap, subst, arith, inl, inr}
use Rattle.std.specs.Prelude.{◌==◌, if◌then◌else◌, Contains, ◌⊎◌}
use Rattle.std.proofs.lemmas.Bool.{cases_eq, eq-eqb, ne_eqb}
use Rattle.index_lists.specs.Chains.{last_of}
use Rattle.lisp_graph.specs.Totals.{total}
use Rattle.lisp_graph.proofs.Totals.{total-lt, total-suc, total-zero}
use Rattle.area_space.proofs.Sums.{total-blocks, total-pairs, block-at}
use Rattle.area_space.proofs.RegionStates.{listed_or_free}
use Rattle.area_space.proofs.Chains.{packed_length, packed_full, covered}
use Rattle.area_space.specs.Room.{RoomRule, share, words_of_class, words_of_area, regions_of_class, regions_of_area}
use Rattle.area_space.specs.Sound.{IsTable}
use Rattle.area_space.specs.Sums.{block, both}
use Rattle.area_space.specs.Table.{Table, slot_of, levels_of, slots_of, areas_of, quota_of, used_of, chain, lists_of, live, IsUnclassed}

-- each chain has at most one region that isn't more than half full
block_sum : (len used : ℕ → ℕ) (h a : ℕ) → ((c : ℕ) → 2049 * len c ≤ used c + 2049) → 2049 * block (both len) h a ≤ block (both used) h a + 4098 * h
block_sum len used h a p = go h
  where
    go : (n : ℕ) → 2049 * total (λ l. both len (a * h + l)) n ≤ total (λ l. both used (a * h + l)) n + 4098 * n
    go zero = let x = total-zero (λ l. both len (a * h + l)) in let y = total-zero (λ l. both used (a * h + l)) in omega arith
    go (suc n) =
        let x = total-suc (λ l. both len (a * h + l)) n in
        let y = total-suc (λ l. both used (a * h + l)) n in
        let c = p (2 * (a * h + n)) in
        let d = p (2 * (a * h + n) + 1) in
        let i = go n in
        omega arith

-- one more region fits the area's share, if the last region of the chain is more than half full
pub fits_share : (t : Table) (area level : ℕ) → IsTable t → level < levels_of t
    → ((r : ℕ) → last_of (chain t (live (slot_of t area level))) ≡ Some r → 2048 < used_of t r)
    → words_of_area t area ≤ 2 * quota_of t area
    → regions_of_area t area + 1 ≤ share t area
fits_share t area level v low full few =
    let k = slot_of t area level in
    let len : ℕ → ℕ = λ c. if c == live k then regions_of_class t c + 1 else regions_of_class t c in
    let others : (c : ℕ) → c ≢ live k → len c ≡ regions_of_class t c = λ c ne. rw (ne_eqb c (live k) ne) refl in
    let here : len (live k) ≡ regions_of_class t (live k) + 1 = rw (eq-eqb (live k) (live k) refl) refl in
    let each : (c : ℕ) → 2049 * len c ≤ words_of_class t c + 2049 = λ c.
    elim (cases_eq c (live k)) [
      | inl e ↦
          let one : 2049 * regions_of_class t (live k) ≤ words_of_class t (live k) = packed_full t.used (chain t (live k)) (v.packed (live k)) full in
          subst (λ (d : ℕ). 2049 * len d ≤ words_of_class t d + 2049) (sym e) (omega arith)
      | inr ne ↦ let one = packed_length t.used (chain t c) (v.packed c) in let two = others c ne in omega arith
    ] in
    let sum = block_sum len (words_of_class t) (levels_of t) area each in
    let same : (m : ℕ) → m ≢ k → both (regions_of_class t) m ≡ both len m = λ m ne.
    let x = others (2 * m) (λ e. ne (omega arith)) in let y = others (2 * m + 1) (λ e. omega arith) in omega arith in
    let at = block-at (both (regions_of_class t)) (both len) (levels_of t) area level low same in
    let there : both len k ≡ both (regions_of_class t) k + 1 = (let y = others (2 * k + 1) (λ e. omega arith) in omega arith) in
    omega arith

-- the chains have fewer regions than there are
pub fewer_regions : (t : Table) (area : ℕ) → IsTable t → RoomRule t → area < areas_of t → regions_of_area t area + 1 ≤ share t area
    → total (regions_of_class t) (length t.chains) < t.regions
fewer_regions t area v room inside one =
    let size : total (regions_of_class t) (length t.chains) ≡ total (regions_of_class t) (2 * slots_of t) = ap (total (regions_of_class t)) v.chains_size in
    let pairs = total-pairs (regions_of_class t) (slots_of t) in
    let blocks = total-blocks (both (regions_of_class t)) (levels_of t) (areas_of t) in
    let below = total-lt (regions_of_area t) (share t) area (areas_of t) inside v.fitting (omega arith) in
    omega arith

-- so some region is free
pub some_free : (t : Table) (area : ℕ) → IsTable t → RoomRule t → area < areas_of t → regions_of_area t area + 1 ≤ share t area
    → ((region : ℕ) → region < t.regions → IsUnclassed t region → ⊥) → ⊥
some_free t area v room inside one none =
    let few = fewer_regions t area v room inside one in
    let many = covered t.chains t.regions (λ region low. elim (listed_or_free (lists_of t) region) [ inl found ↦ found | inr free ↦ absurd (none region low free) ]) in
    omega arith

-- the lowest of the regions below a number that are free, if any is
free_below : (t : Table) (n : ℕ) → ((region : ℕ) × (region < n) × IsUnclassed t region) ⊎ ((region : ℕ) → region < n → IsUnclassed t region → ⊥)
free_below t zero = inr (λ region low free. absurd (omega arith))
free_below t (suc n) =
    elim (free_below t n) [
      | inl (region, low, free) ↦ inl (region, omega arith, free)
      | inr none ↦ elim (listed_or_free (lists_of t) n) [
        | inl found ↦ inr (λ region low free. elim (cases_eq region n) [
          | inl e ↦ free found.0 (subst (Contains (chain t found.0)) (sym e) found.1)
          | inr ne ↦ none region (omega arith) free
        ])
        | inr free ↦ inl (n, omega arith, free)
      ]
    ]

-- which region that is
pub free_region : (t : Table) (area : ℕ) → IsTable t → RoomRule t → area < areas_of t → regions_of_area t area + 1 ≤ share t area
    → (region : ℕ) × (region < t.regions) × IsUnclassed t region
free_region t area v room inside one =
    elim (free_below t t.regions) [
      | inl found ↦ found
      | inr none ↦ absurd (some_free t area v room inside one none)
    ]
