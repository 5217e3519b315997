-- Numbers by class past the last class, and regions of the classes.
use Rattle.std.proofs.Common.{◌≡◌, ℕ, ◌*◌, ◌/◌, ◌%◌, ◌<◌, ◌≤◌, ◌⊎◌, inl, inr, Bool, true, false, ◌&&◌, nat_eq, [], slice_index, refl, ◌∙◌, ap, arith, mul-le-mul_right}
use Rattle.std.specs.Prelude.{Contains}
use Rattle.std.proofs.lemmas.Bool.{cases_Bool, eqb-true}
use Rattle.std.proofs.lemmas.List.{get_or_past}
use Rattle.area_space.proofs.index_lists.ListUpdates.{list_in}
use Rattle.area_space.specs.lisp_graph.Totals.{if_true}
use Rattle.area_space.specs.mem_port.Store.{Store}
use Rattle.area_space.specs.Table.{Table, areas_of, levels_of, slots_of, slot_of, live, stale, chain, lists_of, IsUnclassed, IsLive, IsOld}
use Rattle.area_space.specs.Room.{words_in, words_of_class}
use Rattle.area_space.specs.Sound.{IsTable}
use Rattle.lisp_meaning.specs.Image.{Live, Old, used_words}
use Rattle.lisp_meaning.specs.Classes.{class_of, classes, of_class}
use Rattle.lisp_meaning.proofs.sums.Charges.{total-none}
use Rattle.lisp_ground.specs.Image.{Rest, region_at, image_of}
use Rattle.lisp_ground.proofs.regions.Owners.{region_cases}
use Rattle.lisp_ground.proofs.regions.Regions.{region_is, region_free, region_live, region_old}
use Rattle.lisp_ground.proofs.words.UsedWords.{used_where, used_words_as}

pub slot_past : (t : Table) (area level : ℕ) → areas_of t ≤ area → slots_of t ≤ slot_of t area level
slot_past t area level past = let x = mul-le-mul_right (levels_of t) past in omega arith

pub slot_inside : (t : Table) (class slot r : ℕ) → IsTable t → class / 2 ≡ slot → Contains (chain t class) r → slot < slots_of t
slot_inside t class slot r v half m =
    let l = list_in (lists_of t) class r m in
    let s = v.chains_size in
    omega arith

-- a class past the last has no region and no charge

pub chain_past : (t : Table) (class : ℕ) → IsTable t → 2 * slots_of t ≤ class → chain t class ≡ []
chain_past t class v past = let s = v.chains_size in get_or_past t.chains class [] (omega arith)

pub words_past : (t : Table) (class : ℕ) → IsTable t → 2 * slots_of t ≤ class → words_of_class t class ≡ 0
words_past t class v past = ap (words_in t.used) (chain_past t class v past)

pub charges_past : (t : Table) (class : ℕ) → IsTable t → 2 * slots_of t ≤ class → slice_index t.charges class ≡ 0
charges_past t class v past = let s = v.charges_size in get_or_past t.charges class 0 (omega arith)

pub husks_past : (t : Table) (class : ℕ) → IsTable t → 2 * slots_of t ≤ class → slice_index t.husks class ≡ 0
husks_past t class v past = let s = v.husks_size in get_or_past t.husks class 0 (omega arith)

-- The class of a region of the image

pub class_live : (t : Table) (r slot : ℕ) → IsTable t → Contains (chain t (live slot)) r → class_of (region_at t r) ≡ record { area = slot / levels_of t; level = slot % levels_of t; standing = Live }
class_live t r slot v m = ap class_of (region_live t r slot v m)

pub class_old : (t : Table) (r slot : ℕ) → IsTable t → Contains (chain t (stale slot)) r → class_of (region_at t r) ≡ record { area = slot / levels_of t; level = slot % levels_of t; standing = Old }
class_old t r slot v m = ap class_of (region_old t r slot v m)

pub classes_are : (s : Store) (t : Table) (rest : Rest) (r : ℕ) → IsTable t → classes (image_of s t rest) r ≡ class_of (region_at t r)
classes_are s t rest r v = ap class_of (region_is s t rest r v)

-- no region has a level past the greatest
pub live_words_past : (s : Store) (t : Table) (rest : Rest) (area level : ℕ) → IsTable t → levels_of t ≤ level → used_words (image_of s t rest) (of_class area level) ≡ 0
live_words_past s t rest area level v past = used_words_as s t rest (of_class area level) v ∙ total-none (used_where t (of_class area level)) t.regions (λ i l. ap (λ (b : Bool). if_true b (region_at t i).used) (fails i))
  where
    high : (slot : ℕ) → (nat_eq (slot % levels_of t) level ≡ true) ⊎ (nat_eq (slot % levels_of t) level ≡ false) → nat_eq (slot % levels_of t) level ≡ false
    high slot (inl e) = let same = eqb-true (slot % levels_of t) level e in absurd (omega arith)
    high slot (inr e) = e

    both_false : (a b : Bool) → b ≡ false → (a && b) ≡ false
    both_false true b e = e
    both_false false b e = refl

    by_chain : (i : ℕ) → IsUnclassed t i ⊎ (IsLive t i ⊎ IsOld t i) → of_class area level (region_at t i) ≡ false
    by_chain i (inl free) = ap (of_class area level) (region_free t i free)
    by_chain i (inr (inl m)) = ap (of_class area level) (region_live t i m.0 v m.1)
        ∙ both_false (nat_eq (m.0 / levels_of t) area) (nat_eq (m.0 % levels_of t) level) (high m.0 (cases_Bool (nat_eq (m.0 % levels_of t) level)))
    by_chain i (inr (inr m)) = ap (of_class area level) (region_old t i m.0 v m.1)

    fails : (i : ℕ) → of_class area level (region_at t i) ≡ false
    fails i = by_chain i (region_cases t i)
