-- Old regions that become free, as the image has it.
use Rattle.std.proofs.Common.{◌≡◌, ℕ, ◌+◌, ◌*◌, ◌/◌, ◌%◌, ◌<◌, ◌≤◌, ◌⊎◌, inl, inr, Bool, true, false, if◌then◌else◌, List, [], length, get_or, slice_index, nat_lt, refl, sym, ◌∙◌, ap, subst, arith}
use Rattle.std.specs.Prelude.{Contains}
use Rattle.std.proofs.lemmas.Bool.{cases_lt, le-ltb}
use Rattle.area_space.specs.store_word.Words.{null_word}
use Rattle.area_space.specs.mem_port.Store.{Store}
use Rattle.area_space.specs.Table.{Table, areas_of, levels_of, slots_of, slot_of, live, stale, chain, IsUnclassed, IsLive, IsOld}
use Rattle.area_space.specs.Sound.{IsTable}
use Rattle.area_space.specs.Room.{words_of_class}
use Rattle.area_space.specs.Flips.{Slot, state_of}
use Rattle.area_space.specs.Frees.{emptied, Frees}
use Rattle.area_space.specs.Ground.{ClearsOld}
use Rattle.area_space.proofs.RegionStates.{half_cases}
use Rattle.area_space.proofs.NewRegions.{slot_below}
use Rattle.area_space.proofs.UsedWords.{freed_live_words, freed_old_words}
use Rattle.lisp_meaning.specs.Image.{Live, Region, is_old, is_used, used_words, word}
use Rattle.lisp_meaning.specs.Classes.{Class, class_of, classes, is_old_at, of_class, old_of}
use Rattle.lisp_meaning.specs.TableChanges.{free_class, freed, cleared, TableFreed}
use Rattle.lisp_meaning.specs.Marks.{Marks}
use Rattle.lisp_meaning.proofs.sums.Charges.{total-none}
use Rattle.lisp_ground.specs.Image.{Rest, by_class, region_at, image_of}
use Rattle.lisp_ground.proofs.regions.Owners.{region_cases}
use Rattle.lisp_ground.proofs.regions.Regions.{region_free}
use Rattle.lisp_ground.proofs.words.Words.{get_or_here, get_or_same}
use Rattle.lisp_ground.proofs.words.UsedWords.{is_used_as}
use Rattle.lisp_ground.proofs.regions.HalfFullRegions.{image_packed}
use Rattle.lisp_ground.proofs.words.UsedByRegion.{live_words_are, old_words_are}
use Rattle.lisp_ground.proofs.sums.Charges.{by_class_at, by_class_past, by_class_same}
use Rattle.lisp_ground.proofs.regions.Classes.{slot_past, slot_inside, words_past, charges_past, husks_past, class_live, class_old, classes_are, live_words_past}

module _ (s s' : Store) (t u : Table) (rest rest' : Rest) (v : IsTable t) (w : IsTable u) (size : length s.words ≡ 4096 * t.regions) (f : Frees t u) (c : ClearsOld s s' t t.regions) where
  same_top : u.top ≡ t.top
  same_top = ap (λ (x : Table). x.top) f.same

  same_slots : slots_of u ≡ slots_of t
  same_slots = ap slots_of f.same

  -- Classes of regions

  live_stays : (i slot : ℕ) → Contains (chain t (live slot)) i → class_of (region_at u i) ≡ class_of (region_at t i)
  live_stays i slot m =
      let low = slot_inside t (live slot) slot i v (omega arith) m in
      let there : Contains (chain u (live slot)) i = subst (λ (xs : List ℕ). Contains xs i) (sym (ap (λ (x : Slot). x.live_chain) (f.slots slot low))) m in
      class_live u i slot w there ∙ (ap (λ (n : ℕ). record { area = slot / (n + 1); level = slot % (n + 1); standing = Live }) same_top ∙ sym (class_live t i slot v m))

  -- a region in a chain after it was live
  live_only : (i class : ℕ) → Contains (chain u class) i → (slot : ℕ) × Contains (chain t (live slot)) i
  live_only i class m = by_half (half_cases class)
    where
      low : class / 2 < slots_of t
      low = let l = slot_inside u class (class / 2) i w refl m in let e = same_slots in omega arith

      by_half : (class ≡ live (class / 2)) ⊎ (class ≡ stale (class / 2)) → (slot : ℕ) × Contains (chain t (live slot)) i
      by_half (inl e) =
          let there : Contains (chain u (live (class / 2))) i = subst (λ (k : ℕ). Contains (chain u k) i) e m in
          (class / 2, subst (λ (x : Slot). Contains x.live_chain i) (f.slots (class / 2) low) there)
      by_half (inr e) =
          let there : Contains (chain u (stale (class / 2))) i = subst (λ (k : ℕ). Contains (chain u k) i) e m in
          let none : Contains [] i = subst (λ (x : Slot). Contains x.old_chain i) (f.slots (class / 2) low) there in
          absurd (omega (arith, none.1))

  free_stays : (i : ℕ) → IsUnclassed t i → IsUnclassed u i
  free_stays i free class m = let l = live_only i class m in free (live l.0) l.1

  old_goes : (i slot : ℕ) → Contains (chain t (stale slot)) i → IsUnclassed u i
  old_goes i slot m class n = let l = live_only i class n in let e = v.sound.one_list (live l.0) (stale slot) i l.1 m in absurd (omega arith)

  class_after : (i : ℕ) → class_of (region_at u i) ≡ freed (λ j. class_of (region_at t j)) i
  class_after i = by_chain (region_cases t i)
    where
      by_standing : (c : Class) (b : Bool) → is_old c.standing ≡ b → (if is_old c.standing then free_class else c) ≡ (if b then free_class else c)
      by_standing c b e = ap (λ (x : Bool). if x then free_class else c) e

      by_chain : IsUnclassed t i ⊎ (IsLive t i ⊎ IsOld t i) → class_of (region_at u i) ≡ freed (λ j. class_of (region_at t j)) i
      by_chain (inl free) =
          ap class_of (region_free u i (free_stays i free))
          ∙ (sym (ap class_of (region_free t i free)) ∙ sym (by_standing (class_of (region_at t i)) false (ap (λ (r : Region). is_old r.standing) (region_free t i free))))
      by_chain (inr (inl m)) =
          live_stays i m.0 m.1
          ∙ sym (by_standing (class_of (region_at t i)) false (ap (λ (x : Class). is_old x.standing) (class_live t i m.0 v m.1)))
      by_chain (inr (inr m)) =
          ap class_of (region_free u i (old_goes i m.0 m.1))
          ∙ sym (by_standing (class_of (region_at t i)) true (ap (λ (x : Class). is_old x.standing) (class_old t i m.0 v m.1)))

  class_image : (i : ℕ) → classes (image_of s' u rest') i ≡ freed (classes (image_of s t rest)) i
  class_image i =
      classes_are s' u rest' i w ∙ (class_after i
      ∙ ap (λ (x : Class). if is_old x.standing then free_class else x) (sym (classes_are s t rest i v)))

  -- an address is old if its region is in an old chain
  old_chain_of : (a : ℕ) → is_old_at (classes (image_of s t rest)) a ≡ true → IsOld t (a / 4096)
  old_chain_of a e = by_chain (region_cases t (a / 4096))
    where
      old : is_old (class_of (region_at t (a / 4096))).standing ≡ true
      old = sym (ap (λ (x : Class). is_old x.standing) (classes_are s t rest (a / 4096) v)) ∙ e

      by_chain : IsUnclassed t (a / 4096) ⊎ (IsLive t (a / 4096) ⊎ IsOld t (a / 4096)) → IsOld t (a / 4096)
      by_chain (inl free) = let o = old in let x = ap (λ (r : Region). is_old r.standing) (region_free t (a / 4096) free) in absurd cc
      by_chain (inr (inl m)) = let o = old in let x = ap (λ (y : Class). is_old y.standing) (class_live t (a / 4096) m.0 v m.1) in absurd cc
      by_chain (inr (inr m)) = m

  not_old_chain : (a : ℕ) → is_old_at (classes (image_of s t rest)) a ≡ false → IsOld t (a / 4096) → ⊥
  not_old_chain a e m =
      let x = ap (λ (y : Class). is_old y.standing) (classes_are s t rest (a / 4096) v ∙ class_old t (a / 4096) m.0 v m.1) in
      cc

  -- Words

  cleared_word : (a : ℕ) → (b : Bool) → is_old_at (classes (image_of s t rest)) a ≡ b → get_or s'.words a null_word ≡ (if b then null_word else get_or s.words a null_word)
  cleared_word a true e =
      let m = old_chain_of a e in
      let r = v.sound.within (stale m.0) (a / 4096) m.1 in
      get_or_here s'.words a null_word null_word (c.null a m r (omega arith))
  cleared_word a false e = get_or_same s'.words s.words a null_word (c.others a (λ low old. not_old_chain a e old))

  words_image : (a : ℕ) → word (image_of s' u rest') a ≡ cleared (classes (image_of s t rest)) (word (image_of s t rest)) a
  words_image a = cleared_word a (is_old_at (classes (image_of s t rest)) a) refl

  -- Used words

  used_live : (a : ℕ) → is_old_at (classes (image_of s t rest)) a ≡ false → is_used (image_of s' u rest') a ≡ is_used (image_of s t rest) a
  used_live a e =
      is_used_as s' u rest' a w
      ∙ (ap (λ (n : ℕ). nat_lt a (4096 * (a / 4096) + n)) (f.kept (a / 4096) (not_old_chain a e)).0
      ∙ sym (is_used_as s t rest a v))

  used_old : (a : ℕ) → is_old_at (classes (image_of s t rest)) a ≡ true → is_used (image_of s' u rest') a ≡ false
  used_old a e =
      is_used_as s' u rest' a w
      ∙ (ap (λ (n : ℕ). nat_lt a (4096 * (a / 4096) + n)) (f.gone (a / 4096) (old_chain_of a e)).0
      ∙ le-ltb a (4096 * (a / 4096) + 0) (omega arith))

  low_too : (level : ℕ) → level < levels_of t → level < levels_of u
  low_too level l = let e = same_top in omega arith

  live_words : (x y : ℕ) → used_words (image_of s' u rest') (of_class x y) ≡ used_words (image_of s t rest) (of_class x y)
  live_words x y = by_level (cases_lt y (levels_of t)) (cases_lt x (areas_of t))
    where
      by_level : (y < levels_of t) ⊎ (levels_of t ≤ y) → (x < areas_of t) ⊎ (areas_of t ≤ x) → used_words (image_of s' u rest') (of_class x y) ≡ used_words (image_of s t rest) (of_class x y)
      by_level (inr high) z = live_words_past s' u rest' x y w (let e = same_top in omega arith) ∙ sym (live_words_past s t rest x y v high)
      by_level (inl low) (inl area_in) =
          live_words_are s' u rest' x y w (low_too y low)
          ∙ (ap (λ (n : ℕ). words_of_class u (live (x * (n + 1) + y))) same_top
          ∙ (freed_live_words t u (slot_of t x y) v f (slot_below t x y area_in low)
          ∙ sym (live_words_are s t rest x y v low)))
      by_level (inl low) (inr area_past) =
          let far = slot_past t x y area_past in
          live_words_are s' u rest' x y w (low_too y low)
          ∙ (ap (λ (n : ℕ). words_of_class u (live (x * (n + 1) + y))) same_top
          ∙ (words_past u (live (slot_of t x y)) w (let e = same_slots in omega arith)
          ∙ sym (live_words_are s t rest x y v low ∙ words_past t (live (slot_of t x y)) v (omega arith))))

  old_words : (x : ℕ) → used_words (image_of s' u rest') (old_of x) ≡ 0
  old_words x = old_words_are s' u rest' x w ∙ total-none (λ l. words_of_class u (stale (slot_of u x l))) (levels_of u) (λ l low. each l (cases_lt x (areas_of u)) low)
    where
      each : (l : ℕ) → (x < areas_of u) ⊎ (areas_of u ≤ x) → l < levels_of u → words_of_class u (stale (slot_of u x l)) ≡ 0
      each l (inl area_in) low = freed_old_words t u (slot_of u x l) f (let z = slot_below u x l area_in low in let e = same_slots in omega arith)
      each l (inr area_past) low = let far = slot_past u x l area_past in words_past u (stale (slot_of u x l)) w (omega arith)

  -- Numbers of classes

  live_number : (number : Slot → ℕ) (old new : List ℕ) (x y : ℕ) → ((z : Slot) → number (emptied z) ≡ number z)
      → ((slot : ℕ) → number (state_of t slot) ≡ slice_index old (live slot)) → ((slot : ℕ) → number (state_of u slot) ≡ slice_index new (live slot))
      → ((class : ℕ) → 2 * slots_of t ≤ class → slice_index old class ≡ 0) → ((class : ℕ) → 2 * slots_of t ≤ class → slice_index new class ≡ 0)
      → by_class u live new x y ≡ by_class t live old x y
  live_number number old new x y stays here there past past_too = by_class_same t u live old new x y same_top (λ low. at (cases_lt (slot_of t x y) (slots_of t)))
    where
      at : (slot_of t x y < slots_of t) ⊎ (slots_of t ≤ slot_of t x y) → slice_index new (live (slot_of t x y)) ≡ slice_index old (live (slot_of t x y))
      at (inl l) = sym (there (slot_of t x y)) ∙ (ap number (f.slots (slot_of t x y) l) ∙ (stays (state_of t (slot_of t x y)) ∙ here (slot_of t x y)))
      at (inr far) = past_too (live (slot_of t x y)) (omega arith) ∙ sym (past (live (slot_of t x y)) (omega arith))

  old_number : (number : Slot → ℕ) (new : List ℕ) (x y : ℕ) → ((z : Slot) → number (emptied z) ≡ 0) → ((slot : ℕ) → number (state_of u slot) ≡ slice_index new (stale slot))
      → ((class : ℕ) → 2 * slots_of t ≤ class → slice_index new class ≡ 0) → by_class u stale new x y ≡ 0
  old_number number new x y none there past_too = by_level (cases_lt y (levels_of u)) (cases_lt (slot_of u x y) (slots_of t))
    where
      by_level : (y < levels_of u) ⊎ (levels_of u ≤ y) → (slot_of u x y < slots_of t) ⊎ (slots_of t ≤ slot_of u x y) → by_class u stale new x y ≡ 0
      by_level (inr high) z = by_class_past u stale new x y high
      by_level (inl low) (inl l) = by_class_at u stale new x y low ∙ (sym (there (slot_of u x y)) ∙ (ap number (f.slots (slot_of u x y) l) ∙ none (state_of t (slot_of u x y))))
      by_level (inl low) (inr far) = by_class_at u stale new x y low ∙ past_too (stale (slot_of u x y)) (omega arith)

  -- old regions are free and empty
  pub freed_image : Marks (image_of s' u rest') → TableFreed (image_of s t rest) (image_of s' u rest')
  freed_image marks = record {
    words = words_image;
    classes_free = class_image;
    used_live = used_live;
    used_old = used_old;
    live_words = live_words;
    old_words = old_words;
    live_charge = λ x y. live_number (λ (z : Slot). z.live_charge) t.charges u.charges x y (λ z. refl) (λ slot. refl) (λ slot. refl) (λ k past. charges_past t k v past) (λ k past. charges_past u k w (let e = same_slots in omega arith));
    old_charge = λ x y. old_number (λ (z : Slot). z.old_charge) u.charges x y (λ z. refl) (λ slot. refl) (λ k past. charges_past u k w (let e = same_slots in omega arith));
    live_husks = λ x y. live_number (λ (z : Slot). z.live_husk) t.husks u.husks x y (λ z. refl) (λ slot. refl) (λ slot. refl) (λ k past. husks_past t k v past) (λ k past. husks_past u k w (let e = same_slots in omega arith));
    old_husks = λ x y. old_number (λ (z : Slot). z.old_husk) u.husks x y (λ z. refl) (λ slot. refl) (λ k past. husks_past u k w (let e = same_slots in omega arith));
    chains = λ i l busy inner. image_packed s' u rest' i w busy inner;
    marks = marks;
  }
