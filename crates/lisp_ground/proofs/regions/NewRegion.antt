-- A region that is opened, as the image has it: nothing is placed there yet.
use Rattle.std.proofs.Common.{◌≡◌, ◌≢◌, ℕ, ◌*◌, ◌/◌, ◌%◌, ◌<◌, inl, inr, Bool, true, false, List, length, get_or, refl, sym, ◌∙◌, ap, subst, arith, Option, Some, None}
use Rattle.std.specs.Prelude.{Contains}
use Rattle.std.proofs.lemmas.Bool.{cases_eq}
use Rattle.area_space.proofs.index_lists.ListUpdates.{Contains-push_back, Contains-push_new}
use Rattle.area_space.specs.store_word.Words.{Parts, null_word}
use Rattle.area_space.specs.lisp_graph.Totals.{if_true}
use Rattle.area_space.specs.mem_port.Store.{Store}
use Rattle.area_space.specs.Table.{Table, areas_of, levels_of, slot_of, live, chain, IsUnclassed}
use Rattle.area_space.specs.Sound.{IsTable}
use Rattle.area_space.specs.Places.{opened}
use Rattle.area_space.specs.Ground.{IsGround, NamesNoFree, with_level}
use Rattle.area_space.proofs.NewRegions.{slot_below, chain_opened, chain_opened_other, contains_opened}
use Rattle.lisp_meaning.specs.Image.{Live, Region, no_region, region, is_free, used_words}
use Rattle.lisp_meaning.specs.Classes.{Class, class_of, classes, of_class, old_of}
use Rattle.lisp_meaning.specs.Placed.{Placed, Charged}
use Rattle.lisp_ground.specs.Image.{no_rest, class_with, region_at, ground_image}
use Rattle.lisp_ground.specs.GroundInvariant.{GroundInvariant}
use Rattle.lisp_meaning.specs.Interpretation.{Interpretation}
use Rattle.lisp_ground.proofs.regions.Owners.{class_has, class_free, free_class, has_class}
use Rattle.lisp_ground.proofs.regions.Regions.{region_is, region_free, region_live, region_of_slot}
use Rattle.lisp_ground.proofs.words.UsedWords.{is_used_as, used_where, used_words_changed, used_is}
use Rattle.lisp_ground.proofs.regions.Slots.{slot_area, slot_level}
use Rattle.lisp_ground.proofs.words.UsedEnds.{region_same}
use Rattle.lisp_ground.proofs.regions.HalfFullRegions.{image_packed}
use Rattle.lisp_ground.proofs.invariant.Marks.{ground_marks}
use Rattle.lisp_ground.proofs.regions.RegionOpening.{kept_opened}
use Rattle.lisp_ground.proofs.invariant.OfImage.{kept_on_after}

module _ (s s' : Store) (t : Table) (r area level : ℕ)
    (v : IsTable t) (w : IsTable (opened t (live (slot_of t area level)) r)) (area_in : area < areas_of t) (low : level < levels_of t) (free : IsUnclassed t r) (words : s'.words ≡ s.words) where
  abbrev class : ℕ
  class = live (slot_of t area level)

  abbrev after : Table
  after = opened t (live (slot_of t area level)) r

  below : class < length t.chains
  below = let x = slot_below t area level area_in low in let y = v.chains_size in omega arith

  there : Contains (chain after class) r
  there = subst (λ (xs : List ℕ). Contains xs r) (sym (chain_opened t class r below)) (Contains-push_new r (chain t class))

  inside : r < t.regions
  inside = w.sound.within class r there

  -- no other region enters a chain
  back : (c i : ℕ) → i ≢ r → Contains (chain after c) i → Contains (chain t c) i
  back c i ne m =
      elim (cases_eq c class) [
        | inl e ↦ subst (λ (k : ℕ). Contains (chain t k) i) (sym e) (Contains-push_back i r (chain t class) (subst (λ (xs : List ℕ). Contains xs i) (ap (chain after) e ∙ chain_opened t class r below) m) ne)
        | inr other ↦ subst (λ (xs : List ℕ). Contains xs i) (chain_opened_other t class r c other) m
      ]

  class_other : (i : ℕ) → i ≢ r → class_with after i ≡ class_with t i
  class_other i ne = by_class_with (class_with t i) refl
    where
      by_class_with : (o : Option ℕ) → class_with t i ≡ o → class_with after i ≡ class_with t i
      by_class_with None e = free_class after i (λ c m. class_free t i e c (back c i ne m)) ∙ sym e
      by_class_with (Some c) e = has_class after i c w.sound (contains_opened t class r c i below (class_has t i c e)) ∙ sym e

  region_other : (i : ℕ) → i ≢ r → region_at after i ≡ region_at t i
  region_other i ne = region_same t after i refl (class_other i ne) refl

  before_here : region_at t r ≡ no_region
  before_here = region_free t r free

  here : region_at after r ≡ region_of_slot t r Live (slot_of t area level)
  here = region_live after r (slot_of t area level) w there

  address : r ≡ 4096 * r / 4096
  address = omega arith

  used_same : (passes : Region → Bool) → used_words (ground_image s' after) passes ≡ used_words (ground_image s t) passes
  used_same passes =
      let sum = used_words_changed s s' t after no_rest no_rest passes r v w refl inside region_other in
      let old : used_where t passes r ≡ 0 = ap (λ (x : Region). if_true (passes x) x.used) before_here ∙ nothing (passes no_region) in
      let new : used_where after passes r ≡ 0 = ap (if_true (passes (region_at after r))) (used_is after r w ∙ v.blank r free) ∙ nothing (passes (region_at after r)) in
      omega arith
    where
      nothing : (q : Bool) → if_true q 0 ≡ 0
      nothing true = refl
      nothing false = refl

  class_else : (i : ℕ) → i ≢ r → classes (ground_image s' after) i ≡ classes (ground_image s t) i
  class_else i ne = ap class_of (region_is s' after no_rest i w) ∙ (ap class_of (region_other i ne) ∙ sym (ap class_of (region_is s t no_rest i v)))

  class_here : classes (ground_image s' after) r ≡ record { area = area; level = level; standing = Live }
  class_here =
      let a : Class = record { area = slot_of t area level / levels_of t; level = slot_of t area level % levels_of t; standing = Live } in
      ap class_of (region_is s' after no_rest r w) ∙ (ap class_of here
      ∙ (ap (λ (n : ℕ). record a { area = n }) (slot_area t area level low) ∙ ap (λ (n : ℕ). record a { area = area; level = n }) (slot_level t area level low)))

  was_free : (a : ℕ) → is_free (region (ground_image s t) a).standing ≡ false → a / 4096 ≢ r
  was_free a busy e =
      let x : is_free (region (ground_image s t) a).standing ≡ true = ap (λ (q : Region). is_free q.standing) (region_is s t no_rest (a / 4096) v ∙ (ap (region_at t) e ∙ before_here)) in
      absurd cc

  still_free : (a : ℕ) → is_free (region (ground_image s' after) a).standing ≡ true → is_free (region (ground_image s t) a).standing ≡ true
  still_free a e =
      elim (cases_eq (a / 4096) r) [
        | inl at ↦ (let x : is_free (region (ground_image s' after) a).standing ≡ false = ap (λ (i : ℕ). is_free (classes (ground_image s' after) i).standing) at ∙ ap (λ (q : Class). is_free q.standing) class_here in absurd cc)
        | inr ne ↦ ap (λ (q : Class). is_free q.standing) (sym (class_else (a / 4096) ne)) ∙ e
      ]

  pub opened_placed : Placed (ground_image s t) (ground_image s' after) (4096 * r) 0 area level
  opened_placed = record {
    words = λ a out. ap (λ (ws : List Parts). get_or ws a null_word) words;
    unused = λ a from to. absurd (omega arith);
    used_in = λ a from to. absurd (omega arith);
    used_out = λ a out. is_used_as s' after no_rest a w ∙ sym (is_used_as s t no_rest a v);
    near = λ j l. absurd (omega arith);
    class = λ a busy. class_else (a / 4096) (was_free a busy);
    class_there = ap (classes (ground_image s' after)) (sym address) ∙ class_here;
    free = still_free;
    used_class = (let e = used_same (of_class area level) in omega arith);
    used_else = λ y z ne. used_same (of_class y z);
    used_old = λ y. used_same (old_of y);
    chains = λ i l busy inner. image_packed s' after no_rest i w busy inner;
  }

  pub opened_charged : Charged (ground_image s t) (ground_image s' after) area level 0
  opened_charged = record {
    live_class = omega arith;
    live_else = λ x y ne. refl;
    old = λ x y. refl;
    live_husks = λ x y. refl;
    old_husks = λ x y. refl;
  }

-- the ground represents the same objects
pub opened_kept_on : (s s' : Store) (t u : Table) (r area level : ℕ) (it : Interpretation)
    → GroundInvariant s t it → area < areas_of t → level < levels_of t → IsUnclassed t r → u ≡ opened t (live (slot_of t area level)) r → s' ≡ with_level s r level
    → IsTable u → IsGround s' u → NamesNoFree s' u → GroundInvariant s' u it
opened_kept_on s s' t u r area level it on area_in low free is level_is w ground named =
    let w_there : IsTable (opened t (live (slot_of t area level)) r) = subst IsTable is w in
    let words : s'.words ≡ s.words = ap (λ (x : Store). x.words) level_is in
    let there : GroundInvariant s' (opened t (live (slot_of t area level)) r) it =
    kept_on_after s s' t (opened t (live (slot_of t area level)) r) it it.map it.store it.aim on (record { regions = refl; top = refl; quotas = refl; kinds = refl }) w_there (subst (IsGround s') is ground) (subst (NamesNoFree s') is named)
    (kept_opened (ground_image s t) (ground_image s' (opened t (live (slot_of t area level)) r)) it on.kept (4096 * r) area level
    (opened_placed s s' t r area level on.table w_there area_in low free words) (opened_charged s s' t r area level on.table w_there area_in low free words) (ground_marks s' (opened t (live (slot_of t area level)) r) w_there (subst (NamesNoFree s') is named))) in
    subst (λ (x : Table). GroundInvariant s' x it) (sym is) there
