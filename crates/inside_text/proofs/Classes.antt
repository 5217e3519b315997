-- The class of a region, as a walk over the chains finds it.
use Rattle.std.proofs.Common.{◌≡◌, ℕ, zero, suc, ◌+◌, ◌*◌, ◌/◌, ◌%◌, ◌<◌, Bool, true, false, List, [], ◌∷◌, ◌++◌, Some, None, refl, ap, subst, ◌∙◌, arith, inl, inr}
use Rattle.std.specs.Prelude.{Contains, slice_index_or, ◌==◌}
use Rattle.std.proofs.lemmas.Bool.{cases_eq, eq-eqb, ne_eqb}
use Rattle.std.proofs.lemmas.Nat.{div-mul-add, mod-mul-add}
use Rattle.area_space.specs.index_lists.Members.{Has}
use Rattle.area_space.proofs.index_lists.Members.{contains_from_has, has_from_contains}
use Rattle.area_space.specs.Table.{Table, IsUnclassed, chain, class_from as number_of, class_number, levels_of, slot_of, used_of}
use Rattle.area_space.specs.Sound.{IsTable}
use Rattle.area_space.specs.declared.classes.Class.{Class}
use Rattle.std.specs.List.{flat_map, range_with_len}
use Rattle.lisp_heap.specs.HeapView.{HeapView}
use Rattle.inside_text.specs.InsideText.{lines_of_class, owned_line, region_lines, word_line}
use Rattle.inside_text.specs.Regions.{class_at, class_from, is_in}

pub in_has : (xs : List ℕ) (x : ℕ) → Has x xs → is_in xs x ≡ true
in_has [] x h = absurd h
in_has (y ∷ ys) x h =
    elim (cases_eq y x) [
      | inl e ↦ rw (eq-eqb y x e) refl
      | inr ne ↦ rw (ne_eqb y x ne) (in_has ys x (h ne))
    ]

pub not_in : (xs : List ℕ) (x : ℕ) → (Has x xs → ⊥) → is_in xs x ≡ false
not_in [] x h = refl
not_in (y ∷ ys) x h = rw (ne_eqb y x (λ e. h (λ ne. absurd (ne e)))) (not_in ys x (λ m. h (λ _. m)))

class_free : (region c : ℕ) (chains : List (List ℕ)) → ((k : ℕ) → Contains (slice_index_or chains k []) region → ⊥) → class_from region c chains ≡ None
unfolding class_from
class_free region c [] free = refl
class_free region c (xs ∷ chains) free =
    rw (not_in xs region (λ h. free 0 (contains_from_has region xs h))) (class_free region (c + 1) chains (λ k m. free (suc k) m))

class_found : (region c k : ℕ) (chains : List (List ℕ)) → Contains (slice_index_or chains k []) region → ((j : ℕ) → Contains (slice_index_or chains j []) region → j ≡ k) → class_from region c chains ≡ Some (c + k)
unfolding class_from
class_found region c k [] m once = absurd (let low = m.1 in omega arith)
class_found region c zero (xs ∷ chains) m once =
    rw (in_has xs region (has_from_contains region xs m.0 m.1 m.2)) (ap Some (let e : c ≡ c + 0 = omega arith in e))
class_found region c (suc k) (xs ∷ chains) m once =
    rw (not_in xs region (λ h. absurd (let e = once 0 (contains_from_has region xs h) in omega (arith, e))))
    (class_found region (c + 1) k chains m (λ j n. let e = once (suc j) n in omega (arith, e)) ∙ ap Some (let e : c + 1 + k ≡ c + suc k = omega arith in e))

pub none_at : (t : Table) (region : ℕ) → IsUnclassed t region → class_at t region ≡ None
none_at t region free = class_free region 0 t.chains free

pub some_at : (t : Table) (region class : ℕ) → IsTable t → Contains (chain t class) region → class_at t region ≡ Some class
some_at t region class sound m = class_found region 0 class t.chains m (λ j n. sound.sound.one_list j class region n m) ∙ ap Some (let e : 0 + class ≡ class = omega arith in e)

-- what the number of a class determines

half : (old : Bool) (slot : ℕ) → number_of old slot / 2 ≡ slot
half true slot = omega arith
half false slot = omega arith

pub area_is : (t : Table) (class : Class) → class.level < levels_of t → class_number t class / 2 / levels_of t ≡ class.area
area_is t class low = ap (λ (slot : ℕ). slot / levels_of t) (half class.stale (slot_of t class.area class.level)) ∙ div-mul-add class.area (levels_of t) class.level low

pub level_is : (t : Table) (class : Class) → class.level < levels_of t → class_number t class / 2 % levels_of t ≡ class.level
level_is t class low = ap (λ (slot : ℕ). slot % levels_of t) (half class.stale (slot_of t class.area class.level)) ∙ mod-mul-add class.area (levels_of t) class.level low

pub old_is : (old : Bool) (slot : ℕ) → (number_of old slot % 2 == 1) ≡ old
old_is true slot = eq-eqb _ _ (let e : (2 * slot + 1) % 2 ≡ 1 = omega arith in e)
old_is false slot = ne_eqb _ _ (λ e. absurd (let z : (2 * slot) % 2 ≡ 0 = omega arith in omega (arith, e, z)))

-- if the table says for an address that its region has no class, it has none
pub none_here : (t t' : Table) (at region : ℕ) → t' ≡ t → at / 4096 ≡ region → IsUnclassed t' (at / 4096) → class_at t region ≡ None
none_here t t' at region same here free = subst (λ (x : Table). class_at x region ≡ None) same (subst (λ (r : ℕ). class_at t' r ≡ None) here (none_at t' (at / 4096) free))

pub some_here : (t t' : Table) (at region : ℕ) (class : Class) → t' ≡ t → at / 4096 ≡ region → IsTable t' → Contains (chain t' (class_number t' class)) (at / 4096) → class_at t region ≡ Some (class_number t class)
some_here t t' at region class same here sound m =
    subst (λ (x : Table). class_at x region ≡ Some (class_number x class)) same (subst (λ (r : ℕ). class_at t' r ≡ Some (class_number t' class)) here (some_at t' (at / 4096) (class_number t' class) sound m))

-- its line is that of its area and its level
pub owned : (t : Table) (region : ℕ) (class : Class) → class.level < levels_of t
    → owned_line t region (class_number t class / 2 / levels_of t) (class_number t class / 2 % levels_of t) (class_number t class % 2 == 1) ≡ owned_line t region class.area class.level class.stale
owned t region class low =
    ap (λ (area : ℕ). owned_line t region area (class_number t class / 2 % levels_of t) (class_number t class % 2 == 1)) (area_is t class low)
    ∙ ap (λ (level : ℕ). owned_line t region class.area level (class_number t class % 2 == 1)) (level_is t class low)
    ∙ ap (λ (old : Bool). owned_line t region class.area class.level old) (old_is class.stale (slot_of t class.area class.level))

-- the lines of a region that isn't free
pub lines_owned : (heap : HeapView) (t : Table) (at region : ℕ) (class : Class) → t ≡ heap.table → at / 4096 ≡ region → IsTable t → Contains (chain t (class_number t class)) (at / 4096) → class.level < levels_of t
    → region_lines heap region ≡ owned_line t region class.area class.level class.stale ++ flat_map (word_line heap) (range_with_len (4096 * region) (used_of heap.table region))
lines_owned heap t at region class same here sound m low =
    ap (lines_of_class heap region) (some_here heap.table t at region class same here sound m)
    ∙ ap (λ (w : List ℕ). w ++ flat_map (word_line heap) (range_with_len (4096 * region) (used_of heap.table region)))
    (subst (λ (x : Table). owned_line x region (class_number x class / 2 / levels_of x) (class_number x class / 2 % levels_of x) (class_number x class % 2 == 1) ≡ owned_line t region class.area class.level class.stale) same (owned t region class low))

pub lines_free : (heap : HeapView) (t : Table) (at region : ℕ) → t ≡ heap.table → at / 4096 ≡ region → IsUnclassed t (at / 4096) → region_lines heap region ≡ []
lines_free heap t at region same here free = ap (lines_of_class heap region) (none_here heap.table t at region same here free)
