-- Words placed at a used end and written, as the image has them.
use Rattle.std.proofs.Common.{◌≡◌, ◌≢◌, ℕ, ◌+◌, ◌*◌, ◌/◌, ◌%◌, ◌<◌, ◌≤◌, ◌⊎◌, inl, inr, Bool, true, false, ◌&&◌, nat_lt, nat_eq, refl, sym, ◌∙◌, ap, arith}
use Rattle.std.proofs.lemmas.Bool.{cases_eq, cases_lt, cases_Bool, lt-ltb, le-ltb, eq-eqb, eqb-true}
use Rattle.area_space.specs.store_word.Words.{null_word}
use Rattle.area_space.specs.lisp_graph.Totals.{if_true}
use Rattle.area_space.specs.mem_port.Store.{Store}
use Rattle.area_space.specs.Table.{Table, levels_of, slot_of, used_of}
use Rattle.area_space.specs.Sound.{IsTable}
use Rattle.area_space.specs.Places.{IsEnd}
use Rattle.area_space.proofs.UsedEnds.{end_in_chain, end_region}
use Rattle.lisp_meaning.specs.Image.{Live, Region, is_free, is_old, is_used, used_words}
use Rattle.lisp_meaning.specs.Classes.{Class, class_of, classes, of_class, old_of, in_class}
use Rattle.lisp_meaning.specs.Placed.{Placed}
use Rattle.lisp_ground.specs.Image.{no_rest, region_at, ground_image}
use Rattle.lisp_ground.specs.Writes.{Within, WritesWithin}
use Rattle.lisp_ground.proofs.regions.Regions.{region_is, region_live, region_of_slot}
use Rattle.lisp_ground.proofs.words.Words.{get_or_same}
use Rattle.lisp_ground.proofs.words.UsedWords.{used_is, is_used_as, used_where, used_words_changed}
use Rattle.lisp_ground.proofs.regions.Slots.{slot_area, slot_level}
use Rattle.lisp_ground.proofs.words.UsedEnds.{Extends, class_of_same, used_other, used_here, region_other}
use Rattle.lisp_ground.proofs.regions.HalfFullRegions.{image_packed}

-- old classes of an area
abbrev pub in_old_area : ℕ → Class → Bool
in_old_area area c = is_old c.standing && nat_eq c.area area

pub within_or_not : (b count a : ℕ) → Within b count a ⊎ (Within b count a → ⊥)
within_or_not b count a =
    elim (cases_lt a b) [
      | inl l ↦ inr (λ w. (let x = w.0 in omega arith))
      | inr from ↦ elim (cases_lt a (b + count)) [
        | inl l ↦ inl (from, l)
        | inr past ↦ inr (λ w. (let x = w.1 in omega arith))
      ]
    ]

-- whether a region of a class passes the test for a class
pub class_passes : (t : Table) (r area level : ℕ) → level < levels_of t → of_class area level (region_of_slot t r Live (slot_of t area level)) ≡ true
class_passes t r area level low =
    let a : nat_eq (slot_of t area level / levels_of t) area ≡ true = eq-eqb (slot_of t area level / levels_of t) area (slot_area t area level low) in
    let l : nat_eq (slot_of t area level % levels_of t) level ≡ true = eq-eqb (slot_of t area level % levels_of t) level (slot_level t area level low) in
    ap (λ (x : Bool). x && nat_eq (slot_of t area level % levels_of t) level) a ∙ l

pub class_fails : (t : Table) (r area level x y : ℕ) → level < levels_of t → ((x ≡ area) × (y ≡ level) → ⊥) → of_class x y (region_of_slot t r Live (slot_of t area level)) ≡ false
class_fails t r area level x y low ne = go (cases_Bool (nat_eq a x)) (cases_Bool (nat_eq l y))
  where
    a : ℕ
    a = slot_of t area level / levels_of t

    l : ℕ
    l = slot_of t area level % levels_of t

    go : (nat_eq (slot_of t area level / levels_of t) x ≡ true) ⊎ (nat_eq (slot_of t area level / levels_of t) x ≡ false)
        → (nat_eq (slot_of t area level % levels_of t) y ≡ true) ⊎ (nat_eq (slot_of t area level % levels_of t) y ≡ false)
        → of_class x y (region_of_slot t r Live (slot_of t area level)) ≡ false
    go (inr n) k = ap (λ (z : Bool). z && nat_eq (slot_of t area level % levels_of t) y) n
    go (inl n) (inr k) = ap (λ (z : Bool). nat_eq (slot_of t area level / levels_of t) x && z) k ∙ ap (λ (z : Bool). z && false) n
    go (inl n) (inl k) = absurd (ne (
      sym (eqb-true (slot_of t area level / levels_of t) x n) ∙ slot_area t area level low,
      sym (eqb-true (slot_of t area level % levels_of t) y k) ∙ slot_level t area level low,
    ))

module _ (s s' : Store) (t u : Table) (b count area level : ℕ)
    (v : IsTable t) (w : IsTable u) (low : level < levels_of t) (end : IsEnd t (slot_of t area level) b count) (x : Extends t u b count) (writes : WritesWithin s s' b count) where
  inside : b / 4096 < t.regions
  inside = end_region t (slot_of t area level) b count v end

  same_levels : levels_of u ≡ levels_of t
  same_levels = ap (λ (n : ℕ). n + 1) x.form.top

  here : region_at t (b / 4096) ≡ region_of_slot t (b / 4096) Live (slot_of t area level)
  here = region_live t (b / 4096) (slot_of t area level) v (end_in_chain t (slot_of t area level) b count end)

  same_class : (i : ℕ) → classes (ground_image s' u) i ≡ classes (ground_image s t) i
  same_class i = ap class_of (region_is s' u no_rest i w) ∙ (class_of_same t u i x.form.top x.chains ∙ sym (ap class_of (region_is s t no_rest i v)))

  used_at : (i : ℕ) → (i ≡ b / 4096) ⊎ (i ≢ b / 4096) → ((i ≡ b / 4096) × (used_of u i ≡ used_of t i + count)) ⊎ ((i ≢ b / 4096) × (used_of u i ≡ used_of t i))
  used_at i (inl e) = inl (e, ap (used_of u) e ∙ (used_here t u b count v x inside ∙ sym (ap (λ (k : ℕ). used_of t k + count) e)))
  used_at i (inr ne) = inr (ne, used_other t u b count v x i ne)

  -- which addresses are used
  unused : (a : ℕ) → b ≤ a → a < b + count → is_used (ground_image s t) a ≡ false
  unused a from to =
      let e = end.end in
      let f = end.fits in
      let r : a / 4096 ≡ b / 4096 = omega arith in
      let same : used_of t (a / 4096) ≡ used_of t (b / 4096) = ap (used_of t) r in
      is_used_as s t no_rest a v ∙ le-ltb a (4096 * (a / 4096) + used_of t (a / 4096)) (omega arith)

  used_in : (a : ℕ) → b ≤ a → a < b + count → is_used (ground_image s' u) a ≡ true
  used_in a from to =
      let e = end.end in
      let f = end.fits in
      let r : a / 4096 ≡ b / 4096 = omega arith in
      let more : used_of u (a / 4096) ≡ used_of t (b / 4096) + count = ap (used_of u) r ∙ used_here t u b count v x inside in
      is_used_as s' u no_rest a w ∙ lt-ltb a (4096 * (a / 4096) + used_of u (a / 4096)) (omega arith)

  used_out : (a : ℕ) → (Within b count a → ⊥) → is_used (ground_image s' u) a ≡ is_used (ground_image s t) a
  used_out a out = is_used_as s' u no_rest a w ∙ (by_region (used_at (a / 4096) (cases_eq (a / 4096) (b / 4096))) ∙ sym (is_used_as s t no_rest a v))
    where
      by_end : (a < b) ⊎ (b ≤ a) → a / 4096 ≡ b / 4096 → used_of u (a / 4096) ≡ used_of t (a / 4096) + count
          → nat_lt a (4096 * (a / 4096) + used_of u (a / 4096)) ≡ nat_lt a (4096 * (a / 4096) + used_of t (a / 4096))
      by_end (inl before) r more =
          let e = end.end in
          let same : used_of t (a / 4096) ≡ used_of t (b / 4096) = ap (used_of t) r in
          lt-ltb a (4096 * (a / 4096) + used_of u (a / 4096)) (omega arith) ∙ sym (lt-ltb a (4096 * (a / 4096) + used_of t (a / 4096)) (omega arith))
      by_end (inr from) r more =
          let e = end.end in
          let same : used_of t (a / 4096) ≡ used_of t (b / 4096) = ap (used_of t) r in
          let past : b + count ≤ a = elim (cases_lt a (b + count)) [ inl l ↦ absurd (out (from, l)) | inr p ↦ p ] in
          le-ltb a (4096 * (a / 4096) + used_of u (a / 4096)) (omega arith) ∙ sym (le-ltb a (4096 * (a / 4096) + used_of t (a / 4096)) (omega arith))

      by_region : ((a / 4096 ≡ b / 4096) × (used_of u (a / 4096) ≡ used_of t (a / 4096) + count)) ⊎ ((a / 4096 ≢ b / 4096) × (used_of u (a / 4096) ≡ used_of t (a / 4096)))
          → nat_lt a (4096 * (a / 4096) + used_of u (a / 4096)) ≡ nat_lt a (4096 * (a / 4096) + used_of t (a / 4096))
      by_region (inl y) = by_end (cases_lt a b) y.0 y.1
      by_region (inr y) = ap (λ (n : ℕ). nat_lt a (4096 * (a / 4096) + n)) y.1

  -- how many words are used, by class
  used_by : (q : Class → Bool) → used_words (ground_image s' u) (λ r. q (class_of r)) ≡ used_words (ground_image s t) (λ r. q (class_of r)) + if_true (q (class_of (region_at t (b / 4096)))) count
  used_by q =
      let sum = used_words_changed s s' t u no_rest no_rest (λ r. q (class_of r)) (b / 4096) v w x.form.regions inside (region_other t u b count v x) in
      let more : (region_at u (b / 4096)).used ≡ (region_at t (b / 4096)).used + count = used_is u (b / 4096) w ∙ (used_here t u b count v x inside ∙ ap (λ (n : ℕ). n + count) (sym (used_is t (b / 4096) v))) in
      let class = class_of_same t u (b / 4096) x.form.top x.chains in
      let new : used_where u (λ r. q (class_of r)) (b / 4096) ≡ if_true (q (class_of (region_at t (b / 4096)))) ((region_at t (b / 4096)).used + count) =
      ap (λ (c : Class). if_true (q c) (region_at u (b / 4096)).used) class ∙ ap (if_true (q (class_of (region_at t (b / 4096))))) more in
      let split = where_more (q (class_of (region_at t (b / 4096)))) (region_at t (b / 4096)).used count in
      omega arith
    where
      where_more : (c : Bool) (m n : ℕ) → if_true c (m + n) ≡ if_true c m + if_true c n
      where_more true m n = refl
      where_more false m n = refl

  used_class : used_words (ground_image s' u) (of_class area level) ≡ used_words (ground_image s t) (of_class area level) + count
  used_class = used_by (in_class area level 0) ∙ ap (λ (c : Bool). used_words (ground_image s t) (of_class area level) + if_true c count) (ap (of_class area level) here ∙ class_passes t (b / 4096) area level low)

  used_else : (y z : ℕ) → ((y ≡ area) × (z ≡ level) → ⊥) → used_words (ground_image s' u) (of_class y z) ≡ used_words (ground_image s t) (of_class y z)
  used_else y z ne =
      let e = used_by (in_class y z 0) in
      let none : if_true (of_class y z (region_at t (b / 4096))) count ≡ 0 = ap (λ (c : Bool). if_true c count) (ap (of_class y z) here ∙ class_fails t (b / 4096) area level y z low ne) in
      omega arith

  used_old : (y : ℕ) → used_words (ground_image s' u) (old_of y) ≡ used_words (ground_image s t) (old_of y)
  used_old y =
      let e = used_by (in_old_area y) in
      let none : if_true (old_of y (region_at t (b / 4096))) count ≡ 0 = ap (λ (r : Region). if_true (old_of y r) count) here in
      omega arith

  pub placed_image : Placed (ground_image s t) (ground_image s' u) b count area level
  placed_image = record {
    words = λ a out. get_or_same s'.words s.words a null_word (writes.others a out);
    unused = unused;
    used_in = used_in;
    used_out = used_out;
    near = λ j l. (let e = end.end in let f = end.fits in omega arith);
    class = λ a busy. same_class (a / 4096);
    class_there = same_class (b / 4096) ∙ (ap class_of (region_is s t no_rest (b / 4096) v) ∙ (ap class_of here ∙ class_of_slot));
    free = λ a e. ap (λ (c : Class). is_free c.standing) (sym (same_class (a / 4096))) ∙ e;
    used_class = used_class;
    used_else = used_else;
    used_old = used_old;
    chains = λ i l busy inner. image_packed s' u no_rest i w busy inner;
  }
    where
      class_of_slot : class_of (region_of_slot t (b / 4096) Live (slot_of t area level)) ≡ record { area = area; level = level; standing = Live }
      class_of_slot =
          let a : Class = record { area = slot_of t area level / levels_of t; level = slot_of t area level % levels_of t; standing = Live } in
          ap (λ (n : ℕ). record a { area = n }) (slot_area t area level low) ∙ ap (λ (n : ℕ). record a { area = area; level = n }) (slot_level t area level low)
