-- Used words counted by region are those of the chains.
use Rattle.std.proofs.Common.{◌≡◌, ◌≢◌, ℕ, suc, ◌+◌, ◌*◌, ◌/◌, ◌%◌, ◌<◌, ◌⊎◌, inl, inr, Bool, true, false, ◌&&◌, ◌||◌, eqb, nat_eq, List, [], ◌∷◌, slice_index, refl, sym, ◌∙◌, ap, subst, arith}
use Rattle.std.specs.Prelude.{Contains}
use Rattle.std.specs.List.{list_any}
use Rattle.std.proofs.lemmas.Bool.{cases_eq, cases_Bool, eq-eqb, ne_eqb, eqb-true}
use Rattle.area_space.specs.index_lists.Members.{Lacks, IsApart}
use Rattle.area_space.proofs.index_lists.Members.{apart_from_distinct, has_from_contains, has_not_lacks}
use Rattle.area_space.specs.lisp_graph.Totals.{total, if_true}
use Rattle.area_space.proofs.lisp_graph.Totals.{total-cong, total-at}
use Rattle.area_space.specs.mem_port.Store.{Store}
use Rattle.area_space.specs.Table.{Table, levels_of, slot_of, live, stale, chain, used_of, IsUnclassed, IsLive, IsOld}
use Rattle.area_space.specs.Room.{words_in, words_of_class}
use Rattle.area_space.specs.Sound.{IsTable}
use Rattle.area_space.proofs.Slots.{slot_again}
use Rattle.lisp_meaning.specs.Image.{Region, used_words}
use Rattle.lisp_meaning.specs.Classes.{of_class, old_of}
use Rattle.lisp_meaning.proofs.sums.Charges.{total-none, total-one, total-swap}
use Rattle.lisp_ground.specs.Image.{Rest, region_at, image_of}
use Rattle.lisp_ground.proofs.regions.Owners.{listed, from_listed, region_cases}
use Rattle.lisp_ground.proofs.regions.Regions.{region_live, region_old, region_free}
use Rattle.lisp_ground.proofs.words.UsedWords.{used_is, used_where, used_words_as}
use Rattle.lisp_ground.proofs.regions.Slots.{slot_area, slot_level}

-- A list whose numbers are all different, counted by numbers

lacks_not_listed : (xs : List ℕ) (r : ℕ) → Lacks r xs → list_any (eqb r) xs ≡ false
lacks_not_listed xs r lacks = go (cases_Bool (list_any (eqb r) xs))
  where
    go : (list_any (eqb r) xs ≡ true) ⊎ (list_any (eqb r) xs ≡ false) → list_any (eqb r) xs ≡ false
    go (inl e) = let m = from_listed xs r e in absurd (has_not_lacks r xs (has_from_contains r xs m.0 m.1 m.2) lacks)
    go (inr e) = e

abbrev listed_words : List ℕ → List ℕ → ℕ → ℕ
listed_words used xs i = if_true (list_any (eqb i) xs) (slice_index used i)

pub words_counted : (used xs : List ℕ) (n : ℕ) → IsApart xs → ((r : ℕ) → Contains xs r → r < n) → total (listed_words used xs) n ≡ words_in used xs
words_counted used [] n apart below = total-none (listed_words used []) n (λ m l. refl)
words_counted used (x ∷ xs) n apart below =
    let rest = words_counted used xs n apart.1 (λ r m. below r (suc m.0, omega (arith, m.1), m.2)) in
    let low : x < n = below x (0, omega arith, refl) in
    let sum = total-at (listed_words used (x ∷ xs)) (listed_words used xs) x n low (λ m l ne. ap (λ (b : Bool). if_true (b || list_any (eqb m) xs) (slice_index used m)) (ne_eqb m x ne)) in
    let here : listed_words used (x ∷ xs) x ≡ slice_index used x = ap (λ (b : Bool). if_true (b || list_any (eqb x) xs) (slice_index used x)) (eq-eqb x x refl) in
    let none : listed_words used xs x ≡ 0 = ap (λ (b : Bool). if_true b (slice_index used x)) (lacks_not_listed xs x apart.0) in
    omega arith

module _ (t : Table) (v : IsTable t) where
  abbrev of_chain : ℕ → ℕ → Bool
  of_chain c i = list_any (eqb i) (chain t c)

  not_in : (c i : ℕ) → (Contains (chain t c) i → ⊥) → of_chain c i ≡ false
  not_in c i no_m = go (cases_Bool (of_chain c i))
    where
      go : (of_chain c i ≡ true) ⊎ (of_chain c i ≡ false) → of_chain c i ≡ false
      go (inl e) = absurd (no_m (from_listed (chain t c) i e))
      go (inr e) = e

  pub class_counted : (c : ℕ) → total (λ i. if_true (of_chain c i) (used_of t i)) t.regions ≡ words_of_class t c
  class_counted c = words_counted t.used (chain t c) t.regions (apart_from_distinct (chain t c) (v.sound.one_place c)) (λ r m. v.sound.within c r m)

  -- Live regions of an area and a level are those of its live chain

  live_other : (slot area level : ℕ) → level < levels_of t → (slot ≡ slot_of t area level → ⊥) → (nat_eq (slot / levels_of t) area && nat_eq (slot % levels_of t) level) ≡ false
  live_other slot area level low ne = go (cases_Bool (nat_eq (slot / levels_of t) area)) (cases_Bool (nat_eq (slot % levels_of t) level))
    where
      go : (nat_eq (slot / levels_of t) area ≡ true) ⊎ (nat_eq (slot / levels_of t) area ≡ false) → (nat_eq (slot % levels_of t) level ≡ true) ⊎ (nat_eq (slot % levels_of t) level ≡ false)
          → (nat_eq (slot / levels_of t) area && nat_eq (slot % levels_of t) level) ≡ false
      go (inr a) y = ap (λ (b : Bool). b && nat_eq (slot % levels_of t) level) a
      go (inl a) (inr l) = ap (λ (b : Bool). nat_eq (slot / levels_of t) area && b) l ∙ ap (λ (b : Bool). b && false) a
      go (inl a) (inl l) =
          let x : slot / levels_of t ≡ area = eqb-true (slot / levels_of t) area a in
          let y : slot % levels_of t ≡ level = eqb-true (slot % levels_of t) level l in
          absurd (ne (sym (slot_again (levels_of t) slot (omega arith)) ∙ (ap (λ (k : ℕ). k * levels_of t + slot % levels_of t) x ∙ ap (λ (k : ℕ). area * levels_of t + k) y)))

  same_slot : (slot area level : ℕ) → level < levels_of t → slot ≡ slot_of t area level → (nat_eq (slot / levels_of t) area && nat_eq (slot % levels_of t) level) ≡ true
  same_slot slot area level low e =
      ap (λ (b : Bool). b && nat_eq (slot % levels_of t) level) (eq-eqb (slot / levels_of t) area (ap (λ (k : ℕ). k / levels_of t) e ∙ slot_area t area level low))
      ∙ eq-eqb (slot % levels_of t) level (ap (λ (k : ℕ). k % levels_of t) e ∙ slot_level t area level low)

  live_test : (area level i : ℕ) → level < levels_of t → of_class area level (region_at t i) ≡ of_chain (live (slot_of t area level)) i
  live_test area level i low = by_chain (region_cases t i)
    where
      by_slot : (slot : ℕ) → Contains (chain t (live slot)) i → (slot ≡ slot_of t area level) ⊎ (slot ≢ slot_of t area level) → of_class area level (region_at t i) ≡ of_chain (live (slot_of t area level)) i
      by_slot slot m (inl e) =
          ap (of_class area level) (region_live t i slot v m) ∙ (same_slot slot area level low e
          ∙ sym (listed (chain t (live (slot_of t area level))) i (subst (λ (k : ℕ). Contains (chain t (live k)) i) e m)))
      by_slot slot m (inr ne) =
          ap (of_class area level) (region_live t i slot v m) ∙ (live_other slot area level low ne
          ∙ sym (not_in (live (slot_of t area level)) i (λ n. (let e = v.sound.one_list (live slot) (live (slot_of t area level)) i m n in ne (omega arith)))))

      by_chain : IsUnclassed t i ⊎ (IsLive t i ⊎ IsOld t i) → of_class area level (region_at t i) ≡ of_chain (live (slot_of t area level)) i
      by_chain (inl free) = ap (of_class area level) (region_free t i free) ∙ sym (not_in (live (slot_of t area level)) i (free (live (slot_of t area level))))
      by_chain (inr (inl m)) = by_slot m.0 m.1 (cases_eq m.0 (slot_of t area level))
      by_chain (inr (inr m)) =
          ap (of_class area level) (region_old t i m.0 v m.1)
          ∙ sym (not_in (live (slot_of t area level)) i (λ n. (let e = v.sound.one_list (stale m.0) (live (slot_of t area level)) i m.1 n in absurd (omega arith))))

  -- Old regions of an area are those of its old chains

  old_words : (area i : ℕ) → used_where t (old_of area) i ≡ total (λ l. if_true (of_chain (stale (slot_of t area l)) i) (used_of t i)) (levels_of t)
  old_words area i = ap (if_true (old_of area (region_at t i))) (used_is t i v) ∙ by_chain (region_cases t i)
    where
      nothing : (b : Bool) → b ≡ false → if_true b (used_of t i) ≡ 0
      nothing b e = ap (λ (c : Bool). if_true c (used_of t i)) e

      by_area : (slot : ℕ) → Contains (chain t (stale slot)) i → (slot / levels_of t ≡ area) ⊎ (slot / levels_of t ≢ area)
          → if_true (nat_eq (slot / levels_of t) area) (used_of t i) ≡ total (λ l. if_true (of_chain (stale (slot_of t area l)) i) (used_of t i)) (levels_of t)
      by_area slot m (inl e) =
          let again = slot_again (levels_of t) slot (omega arith) in
          let is : slot ≡ slot_of t area (slot % levels_of t) = sym again ∙ ap (λ (k : ℕ). k * levels_of t + slot % levels_of t) e in
          ap (λ (b : Bool). if_true b (used_of t i)) (eq-eqb (slot / levels_of t) area e)
          ∙ (ap (λ (b : Bool). if_true b (used_of t i)) (sym (listed (chain t (stale (slot_of t area (slot % levels_of t)))) i (subst (λ (k : ℕ). Contains (chain t (stale k)) i) is m)))
          ∙ sym (total-one (λ l. if_true (of_chain (stale (slot_of t area l)) i) (used_of t i)) (slot % levels_of t) (levels_of t) (omega arith)
          (λ l low ne. nothing (of_chain (stale (slot_of t area l)) i) (not_in (stale (slot_of t area l)) i (λ n.
          (let z = v.sound.one_list (stale slot) (stale (slot_of t area l)) i m n in
          let y : slot ≡ slot_of t area l = omega arith in
          ne (sym (slot_level t area l low) ∙ ap (λ (k : ℕ). k % levels_of t) (sym y))))))))
      by_area slot m (inr ne) =
          ap (λ (b : Bool). if_true b (used_of t i)) (ne_eqb (slot / levels_of t) area ne)
          ∙ sym (total-none (λ l. if_true (of_chain (stale (slot_of t area l)) i) (used_of t i)) (levels_of t) (λ l low.
          nothing (of_chain (stale (slot_of t area l)) i) (not_in (stale (slot_of t area l)) i (λ n.
          (let z = v.sound.one_list (stale slot) (stale (slot_of t area l)) i m n in
          let y : slot ≡ slot_of t area l = omega arith in
          ne (ap (λ (k : ℕ). k / levels_of t) y ∙ slot_area t area l low))))))

      none_there : ((l : ℕ) → Contains (chain t (stale (slot_of t area l))) i → ⊥) → total (λ l. if_true (of_chain (stale (slot_of t area l)) i) (used_of t i)) (levels_of t) ≡ 0
      none_there no_m = total-none (λ l. if_true (of_chain (stale (slot_of t area l)) i) (used_of t i)) (levels_of t) (λ l low. nothing (of_chain (stale (slot_of t area l)) i) (not_in (stale (slot_of t area l)) i (no_m l)))

      by_chain : IsUnclassed t i ⊎ (IsLive t i ⊎ IsOld t i) → if_true (old_of area (region_at t i)) (used_of t i) ≡ total (λ l. if_true (of_chain (stale (slot_of t area l)) i) (used_of t i)) (levels_of t)
      by_chain (inl free) = ap (λ (r : Region). if_true (old_of area r) (used_of t i)) (region_free t i free) ∙ sym (none_there (λ l. free (stale (slot_of t area l))))
      by_chain (inr (inl m)) = ap (λ (r : Region). if_true (old_of area r) (used_of t i)) (region_live t i m.0 v m.1)
          ∙ sym (none_there (λ l n. (let e = v.sound.one_list (live m.0) (stale (slot_of t area l)) i m.1 n in absurd (omega arith))))
      by_chain (inr (inr m)) = ap (λ (r : Region). if_true (old_of area r) (used_of t i)) (region_old t i m.0 v m.1) ∙ by_area m.0 m.1 (cases_eq (m.0 / levels_of t) area)

-- The used words of an image, by class

pub live_words_are : (s : Store) (t : Table) (rest : Rest) (area level : ℕ) → IsTable t → level < levels_of t → used_words (image_of s t rest) (of_class area level) ≡ words_of_class t (live (slot_of t area level))
live_words_are s t rest area level v low =
    used_words_as s t rest (of_class area level) v
    ∙ (total-cong (used_where t (of_class area level)) (λ i. if_true (list_any (eqb i) (chain t (live (slot_of t area level)))) (used_of t i)) t.regions
    (λ i l. ap (if_true (of_class area level (region_at t i))) (used_is t i v) ∙ ap (λ (b : Bool). if_true b (used_of t i)) (live_test t v area level i low))
    ∙ class_counted t v (live (slot_of t area level)))

pub old_words_are : (s : Store) (t : Table) (rest : Rest) (area : ℕ) → IsTable t → used_words (image_of s t rest) (old_of area) ≡ total (λ l. words_of_class t (stale (slot_of t area l))) (levels_of t)
old_words_are s t rest area v =
    let each : ℕ → ℕ → ℕ = λ i l. if_true (list_any (eqb i) (chain t (stale (slot_of t area l)))) (used_of t i) in
    used_words_as s t rest (old_of area) v
    ∙ (total-cong (used_where t (old_of area)) (λ i. total (λ l. if_true (list_any (eqb i) (chain t (stale (slot_of t area l)))) (used_of t i)) (levels_of t)) t.regions (λ i l. old_words t v area i)
    ∙ (total-swap (λ i l. if_true (list_any (eqb i) (chain t (stale (slot_of t area l)))) (used_of t i)) t.regions (levels_of t)
    ∙ total-cong (λ l. total (λ i. if_true (list_any (eqb i) (chain t (stale (slot_of t area l)))) (used_of t i)) t.regions) (λ l. words_of_class t (stale (slot_of t area l))) (levels_of t)
    (λ l low. class_counted t v (stale (slot_of t area l)))))
