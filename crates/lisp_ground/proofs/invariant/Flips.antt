-- A flip, as the image has it.
use Rattle.std.proofs.Common.{◌≡◌, ℕ, suc, ◌+◌, ◌*◌, ◌/◌, ◌%◌, ◌<◌, ◌≤◌, ◌⊎◌, inl, inr, Bool, true, false, not, ◌&&◌, if◌then◌else◌, List, [], length, slice_index, slice_index_or, nat_lt, refl, sym, ◌∙◌, ap, subst, arith}
use Rattle.std.specs.Prelude.{Contains}
use Rattle.std.proofs.lemmas.Bool.{cases_lt}
use Rattle.std.proofs.lemmas.List.{length-map}
use Rattle.std.proofs.Math.ListN.{get_or-map}
use Rattle.area_space.specs.lisp_graph.declared.world.AreaKind.{AreaKind}
use Rattle.area_space.specs.lisp_graph.declared.world.AreaKind.TheVariants.{Static, Dynamic, Ephemeral}
use Rattle.area_space.specs.lisp_graph.declared.world.AreaRule.{AreaRule}
use Rattle.area_space.specs.lisp_graph.declared.command.Condemn.{Condemn}
use Rattle.area_space.specs.lisp_graph.declared.command.Condemn.TheVariants.{Full, Chosen}
use Rattle.area_space.specs.lisp_graph.Totals.{total, if_true}
use Rattle.area_space.proofs.lisp_graph.Totals.{total-cong}
use Rattle.area_space.specs.mem_port.Store.{Store}
use Rattle.area_space.specs.Table.{Table, areas_of, levels_of, slots_of, slot_of, live, stale, chain, IsUnclassed, IsLive, IsOld}
use Rattle.area_space.specs.Sound.{IsTable}
use Rattle.area_space.specs.Room.{words_of_class}
use Rattle.area_space.specs.Fresh.{kinds_in}
use Rattle.area_space.specs.Flips.{Slot, state_of, after_flip, turned, condemns_level, condemns, kind_is_static, Condemns}
use Rattle.area_space.proofs.RegionStates.{half_cases}
use Rattle.area_space.proofs.FlipSteps.{nothing_in}
use Rattle.area_space.proofs.NewRegions.{slot_below}
use Rattle.area_space.proofs.UsedWords.{condemned_live_words, condemned_old_words}
use Rattle.lisp_meaning.specs.State.{rule_of, no_rule, is_static}
use Rattle.lisp_meaning.specs.State as M
use Rattle.lisp_meaning.specs.Image.{Live, Old, Region, used_words}
use Rattle.lisp_meaning.specs.Classes.{class_of, of_class, old_of}
use Rattle.lisp_meaning.specs.TableChanges.{condemned_classes, condemned_class, TableFlipped}
use Rattle.lisp_meaning.specs.Marks.{Marks}
use Rattle.lisp_ground.specs.Image.{Rest, by_class, region_at, image_of}
use Rattle.lisp_ground.specs.GroundInvariant.{Agrees}
use Rattle.lisp_ground.proofs.regions.Owners.{region_cases}
use Rattle.lisp_ground.proofs.regions.Regions.{region_free}
use Rattle.lisp_ground.proofs.words.UsedWords.{is_used_as}
use Rattle.lisp_ground.proofs.regions.Slots.{slot_area, slot_level}
use Rattle.lisp_ground.proofs.regions.HalfFullRegions.{image_packed}
use Rattle.lisp_ground.proofs.words.UsedByRegion.{live_words_are, old_words_are}
use Rattle.lisp_ground.proofs.sums.Charges.{by_class_at, by_class_past}
use Rattle.lisp_ground.proofs.regions.Classes.{slot_past, slot_inside, words_past, charges_past, husks_past, class_live, class_old, classes_are, live_words_past}

-- Which slots are condemned

same_static : (x : AreaKind) → kind_is_static x ≡ is_static x
same_static Static = refl
same_static Dynamic = refl
same_static Ephemeral = refl

kind_is : (areas : List AreaRule) (area : ℕ) → slice_index_or (kinds_in areas) area Static ≡ (rule_of areas area).kind
kind_is areas area = get_or-map (λ (rule : AreaRule). rule.kind) areas area no_rule

same_level : (what : Condemn) (level : ℕ) → condemns_level what level ≡ M.condemns what level
same_level Full level = refl
same_level (Chosen levels) level = refl

pub slot_condemned : (t : Table) (top : ℕ) (areas : List AreaRule) (what : Condemn) (slot : ℕ) → Agrees t top areas → condemns t what slot ≡ condemned_classes areas what (slot / levels_of t) (slot % levels_of t)
slot_condemned t top areas what slot a =
    ap (λ (kinds : List AreaKind). not (kind_is_static (slice_index_or kinds (slot / levels_of t) Static)) && condemns_level what (slot % levels_of t)) a.kinds
    ∙ (ap (λ (b : Bool). not b && condemns_level what (slot % levels_of t)) (ap kind_is_static (kind_is areas (slot / levels_of t)) ∙ same_static (rule_of areas (slot / levels_of t)).kind)
    ∙ ap (λ (b : Bool). not (is_static (rule_of areas (slot / levels_of t)).kind) && b) (same_level what (slot % levels_of t)))

-- The numbers of one slot, after a flip

flipped_number : (b : Bool) (x y : Slot) (number : Slot → ℕ) → number (turned x) ≡ 0 → y ≡ after_flip b x → number y ≡ if_true (not b) (number x)
flipped_number true x y number none is = ap number is ∙ none
flipped_number false x y number none is = ap number is

gained_number : (b : Bool) (x y : Slot) (new old : Slot → ℕ) → new (turned x) ≡ old x → new x ≡ 0 → y ≡ after_flip b x → new y ≡ if_true b (old x)
gained_number true x y new old turns none is = ap new is ∙ turns
gained_number false x y new old turns none is = ap new is ∙ none

none_where : (b : Bool) → if_true b 0 ≡ 0
none_where true = refl
none_where false = refl

where_not : (b : Bool) (n : ℕ) → (if b then 0 else n) ≡ if_true (not b) n
where_not true n = refl
where_not false n = refl

module _ (s : Store) (t u : Table) (rest rest' : Rest) (what : Condemn) (top : ℕ) (areas : List AreaRule)
    (v : IsTable t) (w : IsTable u) (a : Agrees t top areas) (young : (region : ℕ) → IsOld t region → ⊥) (f : Condemns t u what) where
  same_top : u.top ≡ t.top
  same_top = ap (λ (x : Table). x.top) f.same

  same_slots : slots_of u ≡ slots_of t
  same_slots = ap slots_of f.same

  abbrev test : ℕ → ℕ → Bool
  test = condemned_classes areas what

  -- Classes of regions

  -- a region that was live is live or old
  live_after : (i slot : ℕ) → Contains (chain t (live slot)) i → (b : Bool) → condemns t what slot ≡ b
      → class_of (region_at u i) ≡ (if b then record { area = slot / levels_of t; level = slot % levels_of t; standing = Old } else record { area = slot / levels_of t; level = slot % levels_of t; standing = Live })
  live_after i slot m true e =
      let low = slot_inside t (live slot) slot i v (omega arith) m in
      let state : state_of u slot ≡ turned (state_of t slot) = f.slots slot low ∙ ap (λ (b : Bool). after_flip b (state_of t slot)) e in
      let there : Contains (chain u (stale slot)) i = subst (λ (xs : List ℕ). Contains xs i) (sym (ap (λ (x : Slot). x.old_chain) state)) m in
      class_old u i slot w there ∙ ap (λ (n : ℕ). record { area = slot / (n + 1); level = slot % (n + 1); standing = Old }) same_top
  live_after i slot m false e =
      let low = slot_inside t (live slot) slot i v (omega arith) m in
      let state : state_of u slot ≡ state_of t slot = f.slots slot low ∙ ap (λ (b : Bool). after_flip b (state_of t slot)) e in
      let there : Contains (chain u (live slot)) i = subst (λ (xs : List ℕ). Contains xs i) (sym (ap (λ (x : Slot). x.live_chain) state)) m in
      class_live u i slot w there ∙ ap (λ (n : ℕ). record { area = slot / (n + 1); level = slot % (n + 1); standing = Live }) same_top

  -- one that was free is free
  live_was : (b : Bool) (x : Slot) (r : ℕ) → Contains (after_flip b x).live_chain r → Contains x.live_chain r
  live_was true x r m = absurd (omega (arith, m.1))
  live_was false x r m = m

  old_was : (b : Bool) (x : Slot) (r : ℕ) → Contains (after_flip b x).old_chain r → Contains x.live_chain r ⊎ Contains x.old_chain r
  old_was true x r m = inl m
  old_was false x r m = inr m

  free_after : (i : ℕ) → IsUnclassed t i → IsUnclassed u i
  free_after i free class m = by_half (half_cases class)
    where
      low : class / 2 < slots_of t
      low = let l = slot_inside u class (class / 2) i w refl m in let e = same_slots in omega arith

      by_half : (class ≡ live (class / 2)) ⊎ (class ≡ stale (class / 2)) → ⊥
      by_half (inl e) =
          let there : Contains (chain u (live (class / 2))) i = subst (λ (k : ℕ). Contains (chain u k) i) e m in
          free (live (class / 2)) (live_was (condemns t what (class / 2)) (state_of t (class / 2)) i (subst (λ (x : Slot). Contains x.live_chain i) (f.slots (class / 2) low) there))
      by_half (inr e) =
          let there : Contains (chain u (stale (class / 2))) i = subst (λ (k : ℕ). Contains (chain u k) i) e m in
          elim (old_was (condemns t what (class / 2)) (state_of t (class / 2)) i (subst (λ (x : Slot). Contains x.old_chain i) (f.slots (class / 2) low) there)) [
            | inl was ↦ free (live (class / 2)) was
            | inr was ↦ free (stale (class / 2)) was
          ]

  condemned_live : (b : Bool) (area level : ℕ) → test area level ≡ b
      → condemned_class test (record { area = area; level = level; standing = Live }) ≡ (if b then record { area = area; level = level; standing = Old } else record { area = area; level = level; standing = Live })
  condemned_live b area level e = ap (λ (x : Bool). if x then record { area = area; level = level; standing = Old } else record { area = area; level = level; standing = Live }) e

  class_after : (i : ℕ) → class_of (region_at u i) ≡ condemned_class test (class_of (region_at t i))
  class_after i = by_chain (region_cases t i)
    where
      by_chain : IsUnclassed t i ⊎ (IsLive t i ⊎ IsOld t i) → class_of (region_at u i) ≡ condemned_class test (class_of (region_at t i))
      by_chain (inl free) = ap class_of (region_free u i (free_after i free)) ∙ sym (ap (λ (r : Region). condemned_class test (class_of r)) (region_free t i free))
      by_chain (inr (inl m)) =
          live_after i m.0 m.1 (condemns t what m.0) refl
          ∙ (sym (condemned_live (condemns t what m.0) (m.0 / levels_of t) (m.0 % levels_of t) (sym (slot_condemned t top areas what m.0 a)))
          ∙ sym (ap (condemned_class test) (class_live t i m.0 v m.1)))
      by_chain (inr (inr m)) = absurd (young i m)

  -- Numbers of classes

  no_old : (slot : ℕ) → chain t (stale slot) ≡ []
  no_old slot = nothing_in (chain t (stale slot)) (λ r m. young r (slot, m))

  no_old_charge : (slot : ℕ) → slice_index t.charges (stale slot) ≡ 0
  no_old_charge slot = let d = v.owing (stale slot) (no_old slot) in omega arith

  no_old_husk : (slot : ℕ) → slice_index t.husks (stale slot) ≡ 0
  no_old_husk slot = let d = v.owing (stale slot) (no_old slot) in omega arith

  -- what is tested of an area and a level is what the slot's condemning is
  slot_test : (area level : ℕ) → level < levels_of t → condemns t what (slot_of t area level) ≡ test area level
  slot_test area level low =
      slot_condemned t top areas what (slot_of t area level) a
      ∙ (ap (λ (n : ℕ). test n (slot_of t area level % levels_of t)) (slot_area t area level low)
      ∙ ap (test area) (slot_level t area level low))

  areas_same : areas_of t ≡ length areas
  areas_same = ap length a.quotas ∙ length-map areas (λ (rule : AreaRule). rule.quota)

  at_slot : (area level : ℕ) → area < areas_of t → level < levels_of t → state_of u (slot_of t area level) ≡ after_flip (test area level) (state_of t (slot_of t area level))
  at_slot area level area_in low = f.slots (slot_of t area level) (slot_below t area level area_in low) ∙ ap (λ (b : Bool). after_flip b (state_of t (slot_of t area level))) (slot_test area level low)

  -- the number of a live class is kept if it isn't condemned
  live_number : (number : Slot → ℕ) (old new : List ℕ) (area level : ℕ)
      → ((x : Slot) → number (turned x) ≡ 0) → ((slot : ℕ) → number (state_of t slot) ≡ slice_index old (live slot)) → ((slot : ℕ) → number (state_of u slot) ≡ slice_index new (live slot))
      → ((class : ℕ) → 2 * slots_of t ≤ class → slice_index old class ≡ 0) → ((class : ℕ) → 2 * slots_of t ≤ class → slice_index new class ≡ 0)
      → by_class u live new area level ≡ if_true (not (test area level)) (by_class t live old area level)
  live_number number old new area level none here there past past_too = ap (λ (n : ℕ). by_class (record t { top = n }) live new area level) same_top ∙ by_level (cases_lt level (levels_of t)) (cases_lt area (areas_of t))
    where
      by_level : (level < levels_of t) ⊎ (levels_of t ≤ level) → (area < areas_of t) ⊎ (areas_of t ≤ area) → by_class t live new area level ≡ if_true (not (test area level)) (by_class t live old area level)
      by_level (inr high) x = by_class_past t live new area level high ∙ (sym (none_where (not (test area level))) ∙ ap (if_true (not (test area level))) (sym (by_class_past t live old area level high)))
      by_level (inl low) (inl area_in) =
          by_class_at t live new area level low ∙ (sym (there (slot_of t area level))
          ∙ (flipped_number (test area level) (state_of t (slot_of t area level)) (state_of u (slot_of t area level)) number (none (state_of t (slot_of t area level))) (at_slot area level area_in low)
          ∙ ap (if_true (not (test area level))) (here (slot_of t area level) ∙ sym (by_class_at t live old area level low))))
      by_level (inl low) (inr area_past) =
          let far = slot_past t area level area_past in
          by_class_at t live new area level low ∙ (past_too (live (slot_of t area level)) (omega arith)
          ∙ (sym (none_where (not (test area level))) ∙ ap (if_true (not (test area level))) (sym (by_class_at t live old area level low ∙ past (live (slot_of t area level)) (omega arith)))))

  -- and goes to the old ones where they are
  old_number : (number gone : Slot → ℕ) (old new : List ℕ) (area level : ℕ)
      → ((x : Slot) → number (turned x) ≡ gone x) → ((slot : ℕ) → number (state_of t slot) ≡ 0) → ((slot : ℕ) → gone (state_of t slot) ≡ slice_index old (live slot)) → ((slot : ℕ) → number (state_of u slot) ≡ slice_index new (stale slot))
      → ((class : ℕ) → 2 * slots_of t ≤ class → slice_index old class ≡ 0) → ((class : ℕ) → 2 * slots_of t ≤ class → slice_index new class ≡ 0)
      → by_class u stale new area level ≡ if_true (test area level) (by_class t live old area level)
  old_number number gone old new area level turns none here there past past_too = ap (λ (n : ℕ). by_class (record t { top = n }) stale new area level) same_top ∙ by_level (cases_lt level (levels_of t)) (cases_lt area (areas_of t))
    where
      by_level : (level < levels_of t) ⊎ (levels_of t ≤ level) → (area < areas_of t) ⊎ (areas_of t ≤ area) → by_class t stale new area level ≡ if_true (test area level) (by_class t live old area level)
      by_level (inr high) x = by_class_past t stale new area level high ∙ (sym (none_where (test area level)) ∙ ap (if_true (test area level)) (sym (by_class_past t live old area level high)))
      by_level (inl low) (inl area_in) =
          by_class_at t stale new area level low ∙ (sym (there (slot_of t area level))
          ∙ (gained_number (test area level) (state_of t (slot_of t area level)) (state_of u (slot_of t area level)) number gone (turns (state_of t (slot_of t area level))) (none (slot_of t area level)) (at_slot area level area_in low)
          ∙ ap (if_true (test area level)) (here (slot_of t area level) ∙ sym (by_class_at t live old area level low))))
      by_level (inl low) (inr area_past) =
          let far = slot_past t area level area_past in
          by_class_at t stale new area level low ∙ (past_too (stale (slot_of t area level)) (omega arith)
          ∙ (sym (none_where (test area level)) ∙ ap (if_true (test area level)) (sym (by_class_at t live old area level low ∙ past (live (slot_of t area level)) (omega arith)))))

  -- Used words

  live_used : (area level : ℕ) → used_words (image_of s u rest') (of_class area level) ≡ if_true (not (test area level)) (used_words (image_of s t rest) (of_class area level))
  live_used area level = by_level (cases_lt level (levels_of t)) (cases_lt area (areas_of t))
    where
      low_too : level < levels_of t → level < levels_of u
      low_too l = let e = same_top in omega arith

      slot_too : slot_of u area level ≡ slot_of t area level
      slot_too = ap (λ (n : ℕ). area * (n + 1) + level) same_top

      by_level : (level < levels_of t) ⊎ (levels_of t ≤ level) → (area < areas_of t) ⊎ (areas_of t ≤ area) → used_words (image_of s u rest') (of_class area level) ≡ if_true (not (test area level)) (used_words (image_of s t rest) (of_class area level))
      by_level (inr high) x =
          live_words_past s u rest' area level w (let e = same_top in omega arith)
          ∙ (sym (none_where (not (test area level))) ∙ ap (if_true (not (test area level))) (sym (live_words_past s t rest area level v high)))
      by_level (inl low) (inl area_in) =
          live_words_are s u rest' area level w (low_too low) ∙ (ap (λ (k : ℕ). words_of_class u (live k)) slot_too
          ∙ (condemned_live_words t u what (slot_of t area level) f (slot_below t area level area_in low)
          ∙ (ap (λ (b : Bool). if b then 0 else words_of_class t (live (slot_of t area level))) (slot_test area level low)
          ∙ (where_not (test area level) (words_of_class t (live (slot_of t area level)))
          ∙ ap (if_true (not (test area level))) (sym (live_words_are s t rest area level v low))))))
      by_level (inl low) (inr area_past) =
          let far = slot_past t area level area_past in
          let far_too : 2 * slots_of u ≤ live (slot_of t area level) = (let e = same_slots in omega arith) in
          live_words_are s u rest' area level w (low_too low) ∙ (ap (λ (k : ℕ). words_of_class u (live k)) slot_too
          ∙ (words_past u (live (slot_of t area level)) w far_too
          ∙ (sym (none_where (not (test area level)))
          ∙ ap (if_true (not (test area level))) (sym (live_words_are s t rest area level v low ∙ words_past t (live (slot_of t area level)) v (omega arith))))))

  old_used : (area : ℕ) → used_words (image_of s u rest') (old_of area) ≡ total (λ level. if_true (test area level) (used_words (image_of s t rest) (of_class area level))) (suc top)
  old_used area =
      old_words_are s u rest' area w
      ∙ (ap (total (λ l. words_of_class u (stale (slot_of u area l)))) (let e = same_top in let x = a.levels in omega arith)
      ∙ total-cong (λ l. words_of_class u (stale (slot_of u area l))) (λ level. if_true (test area level) (used_words (image_of s t rest) (of_class area level))) (suc top) (λ l low. each l (let x = a.levels in omega arith) (cases_lt area (areas_of t))))
    where
      if_where : (b : Bool) (n : ℕ) → (if b then n else 0) ≡ if_true b n
      if_where true n = refl
      if_where false n = refl

      each : (l : ℕ) → l < levels_of t → (area < areas_of t) ⊎ (areas_of t ≤ area) → words_of_class u (stale (slot_of u area l)) ≡ if_true (test area l) (used_words (image_of s t rest) (of_class area l))
      each l low (inl area_in) =
          ap (λ (n : ℕ). words_of_class u (stale (area * (n + 1) + l))) same_top
          ∙ (condemned_old_words t u what (slot_of t area l) young f (slot_below t area l area_in low)
          ∙ (ap (λ (b : Bool). if b then words_of_class t (live (slot_of t area l)) else 0) (slot_test area l low)
          ∙ (if_where (test area l) (words_of_class t (live (slot_of t area l)))
          ∙ ap (if_true (test area l)) (sym (live_words_are s t rest area l v low)))))
      each l low (inr area_past) =
          let far = slot_past t area l area_past in
          let far_too : 2 * slots_of u ≤ stale (slot_of t area l) = (let e = same_slots in omega arith) in
          ap (λ (n : ℕ). words_of_class u (stale (area * (n + 1) + l))) same_top
          ∙ (words_past u (stale (slot_of t area l)) w far_too
          ∙ (sym (none_where (test area l))
          ∙ ap (if_true (test area l)) (sym (live_words_are s t rest area l v low ∙ words_past t (live (slot_of t area l)) v (omega arith)))))

  -- the live classes that are condemned have become old
  pub flipped_image : Marks (image_of s u rest') → TableFlipped (image_of s t rest) (image_of s u rest') top (condemned_classes areas what)
  flipped_image marks = record {
    words = λ b. refl;
    classes_old = λ i. classes_are s u rest' i w ∙ (class_after i ∙ ap (condemned_class test) (sym (classes_are s t rest i v)));
    used = λ b. is_used_as s u rest' b w ∙ (ap (λ (us : List ℕ). nat_lt b (4096 * (b / 4096) + slice_index us (b / 4096))) (ap (λ (x : Table). x.used) f.same) ∙ sym (is_used_as s t rest b v));
    live_words = live_used;
    old_words = old_used;
    live_charge = λ x y. live_number (λ (z : Slot). z.live_charge) t.charges u.charges x y (λ z. refl) (λ z. refl) (λ z. refl) (λ c past. charges_past t c v past) (λ c past. charges_past u c w (let e = same_slots in omega arith));
    old_charge = λ x y. old_number (λ (z : Slot). z.old_charge) (λ (z : Slot). z.live_charge) t.charges u.charges x y (λ z. refl) no_old_charge (λ z. refl) (λ z. refl) (λ c past. charges_past t c v past) (λ c past. charges_past u c w (let e = same_slots in omega arith));
    live_husks = λ x y. live_number (λ (z : Slot). z.live_husk) t.husks u.husks x y (λ z. refl) (λ z. refl) (λ z. refl) (λ c past. husks_past t c v past) (λ c past. husks_past u c w (let e = same_slots in omega arith));
    old_husks = λ x y. old_number (λ (z : Slot). z.old_husk) (λ (z : Slot). z.live_husk) t.husks u.husks x y (λ z. refl) no_old_husk (λ z. refl) (λ z. refl) (λ c past. husks_past t c v past) (λ c past. husks_past u c w (let e = same_slots in omega arith));
    chains = λ i l busy inner. image_packed s u rest' i w busy inner;
    marks = marks;
  }
