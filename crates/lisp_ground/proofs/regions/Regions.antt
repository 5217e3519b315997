-- The regions of a ground's image.
use Rattle.std.proofs.Common.{◌≡◌, ℕ, ◌+◌, ◌*◌, ◌/◌, ◌%◌, ◌≤◌, ◌==◌, Bool, true, false, if◌then◌else◌, length, get_or, map, refl, sym, ◌∙◌, ap, arith, inl, inr, Option, Some, None}
use Rattle.std.specs.Prelude.{Contains}
use Rattle.std.specs.List.{range_with_len}
use Rattle.std.proofs.lemmas.Bool.{cases_lt, eq-eqb, ne_eqb}
use Rattle.std.proofs.lemmas.List.{get_or_past}
use Rattle.std.proofs.lemmas.List.FromFn.{get_or-map-range_with_len, length-map-range_with_len}
use Rattle.area_space.specs.mem_port.Store.{Store}
use Rattle.area_space.specs.Table.{Table, levels_of, live, stale, chain, used_of, IsUnclassed}
use Rattle.area_space.specs.Sound.{IsTable}
use Rattle.lisp_meaning.specs.Image.{Standing, Live, Old, is_free, Region, no_region}
use Rattle.lisp_ground.specs.Image.{Rest, class_with, standing_of, region_in, region_at, image_of}
use Rattle.lisp_ground.proofs.regions.Owners.{has_class, free_class, class_free}

pub regions_count : (s : Store) (t : Table) (rest : Rest) → length (image_of s t rest).regions ≡ t.regions
regions_count s t rest = length-map-range_with_len (region_at t) 0 t.regions

-- a region past the last is in no chain
pub past_free : (t : Table) (r : ℕ) → IsTable t → t.regions ≤ r → IsUnclassed t r
past_free t r v past c m = let l = v.sound.within c r m in absurd (omega arith)

-- a region of the image is what its chain says
pub region_is : (s : Store) (t : Table) (rest : Rest) (r : ℕ) → IsTable t → get_or (image_of s t rest).regions r no_region ≡ region_at t r
region_is s t rest r v =
    elim (cases_lt r t.regions) [
      | inl l ↦ get_or-map-range_with_len (region_at t) 0 t.regions r r no_region l (omega arith)
      | inr past ↦
          let size = regions_count s t rest in
          get_or_past (map (region_at t) (range_with_len 0 t.regions)) r no_region (omega arith)
          ∙ sym (ap (region_in t r) (free_class t r (past_free t r v past)))
    ]

-- that of a free one
pub region_free : (t : Table) (r : ℕ) → IsUnclassed t r → region_at t r ≡ no_region
region_free t r free = ap (region_in t r) (free_class t r free)

pub live_even : (slot : ℕ) → standing_of (live slot) ≡ Live
live_even slot = ap (λ (x : Bool). if x then Live else Old) (eq-eqb (2 * slot % 2) 0 (omega arith))

pub stale_odd : (slot : ℕ) → standing_of (stale slot) ≡ Old
stale_odd slot = ap (λ (x : Bool). if x then Live else Old) (ne_eqb ((2 * slot + 1) % 2) 0 (λ e. omega arith))

-- a region of an area and a level
abbrev pub region_of_slot : Table → ℕ → Standing → ℕ → Region
region_of_slot t r standing slot = record { standing = standing; area = slot / levels_of t; level = slot % levels_of t; used = used_of t r }

in_slot : (t : Table) (r c slot : ℕ) (x : Standing) → standing_of c ≡ x → c / 2 ≡ slot → region_in t r (Some c) ≡ region_of_slot t r x slot
in_slot t r c slot x standing half =
    ap (λ (y : Standing). record (region_of_slot t r x (c / 2)) { standing = y }) standing ∙ ap (region_of_slot t r x) half

pub region_live : (t : Table) (r slot : ℕ) → IsTable t → Contains (chain t (live slot)) r → region_at t r ≡ region_of_slot t r Live slot
region_live t r slot v m = ap (region_in t r) (has_class t r (live slot) v.sound m) ∙ in_slot t r (live slot) slot Live (live_even slot) (omega arith)

pub region_old : (t : Table) (r slot : ℕ) → IsTable t → Contains (chain t (stale slot)) r → region_at t r ≡ region_of_slot t r Old slot
region_old t r slot v m = ap (region_in t r) (has_class t r (stale slot) v.sound m) ∙ in_slot t r (stale slot) slot Old (stale_odd slot) (omega arith)

-- Whether a region of the image is free, live or old shows in which chain it is

standing_in : (t : Table) (r : ℕ) (o : Option ℕ) → is_free (region_in t r o).standing ≡ true → o ≡ None
standing_in t r None e = refl
standing_in t r (Some c) e = absurd (by_half (c % 2 == 0) e)
  where
    by_half : (b : Bool) → is_free (if b then Live else Old) ≡ true → ⊥
    by_half true h = cc
    by_half false h = cc

pub free_region : (t : Table) (r : ℕ) → is_free (region_at t r).standing ≡ true → IsUnclassed t r
free_region t r e = class_free t r (standing_in t r (class_with t r) e)

pub not_free_region : (t : Table) (r : ℕ) → (IsUnclassed t r → ⊥) → is_free (region_at t r).standing ≡ false
not_free_region t r ne = by_class (class_with t r) refl
  where
    by_half : (b : Bool) → is_free (if b then Live else Old) ≡ false
    by_half true = refl
    by_half false = refl

    by_class : (o : Option ℕ) → class_with t r ≡ o → is_free (region_in t r (class_with t r)).standing ≡ false
    by_class None e = absurd (ne (class_free t r e))
    by_class (Some c) e = ap (λ (x : Option ℕ). is_free (region_in t r x).standing) e ∙ by_half (c % 2 == 0)
