-- The table of the classes, by number.
use Rattle.std.proofs.Common.{◌≡◌, ℕ, ◌+◌, ◌/◌, ◌%◌, List, [], ◌∷◌, ◌++◌, length, refl, sym, ◌∙◌, subst, arith, inl, inr}
use Rattle.std.specs.Prelude.{slice_index_or, nat_eq, true, false, Bool}
use Rattle.std.proofs.lemmas.Bool.{cases_eq, eq-eqb, ne_eqb}
use Rattle.std.proofs.lemmas.List.{length-append, get_or_append_left}
use Rattle.std.proofs.Math.Seq.{get_or-append_seam}
use Rattle.area_space.proofs.Slots.{slot_again}
use Rattle.area_space.specs.declared.classes.Class.{Class}
use Rattle.area_space.specs.Inside.{class_by, HasClasses}
use Rattle.area_space.specs.Table.{Table, levels_of, class_from, class_number, slot_of}

pub classes_none : (levels : ℕ) → HasClasses [] levels 0
classes_none levels = record { size = refl; each = λ number other low. absurd (omega arith) }

pub classes_more : (classes : List Class) (levels count : ℕ) → HasClasses classes levels count → HasClasses (classes ++ class_by levels count ∷ []) levels (count + 1)
classes_more classes levels count h =
    let size = h.size in
    record {
      size = omega (arith, length-append classes (class_by levels count ∷ []));
      each = λ number other low.
          elim (cases_eq number count) [
            | inl e ↦
                let at : slice_index_or (classes ++ class_by levels count ∷ []) (length classes) other ≡ class_by levels count = get_or-append_seam classes (class_by levels count) [] other in
                subst (λ (k : ℕ). slice_index_or (classes ++ class_by levels count ∷ []) k other ≡ class_by levels k) (sym e) (subst (λ (k : ℕ). slice_index_or (classes ++ class_by levels count ∷ []) k other ≡ class_by levels count) size at)
            | inr ne ↦ get_or_append_left classes (class_by levels count ∷ []) other number (omega arith) ∙ h.each number other (omega arith)
          ];
    }

-- a class has its number
pub class_again : (t : Table) (number : ℕ) → class_number t (class_by (levels_of t) number) ≡ number
class_again t number =
    let slot : slot_of t (number / 2 / levels_of t) (number / 2 % levels_of t) ≡ number / 2 = slot_again (levels_of t) (number / 2) (omega arith) in
    let from : (b : Bool) → nat_eq (number % 2) 1 ≡ b → class_from b (number / 2) ≡ number → class_number t (class_by (levels_of t) number) ≡ number = λ b e h. rw (e, slot) h in
    elim (cases_eq (number % 2) 1) [
      | inl e ↦ from true (eq-eqb (number % 2) 1 e) (omega arith)
      | inr ne ↦ from false (ne_eqb (number % 2) 1 ne) (omega arith)
    ]
