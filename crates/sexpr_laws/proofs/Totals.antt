-- What the printed objects are charged together.
use Rattle.std.proofs.Common.{◌≡◌, ℕ, zero, suc, ◌+◌, ◌<◌, ◌≤◌, List, [], ◌∷◌, ◌++◌, length, take, true, inl, inr, refl, ap, sym, ◌∙◌, subst, arith}
use Rattle.std.specs.Prelude.{sum_by}
use Rattle.std.proofs.lemmas.List.{take_all}
use Rattle.std.proofs.lemmas.List.Sums.{sum_by-cons, sum_by_more, sum_by_push}
use Rattle.file_modes.specs.lisp_graph.Graph.{no_object, object_at}
use Rattle.file_modes.specs.lisp_graph.declared.object.Object.{Object}
use Rattle.file_modes.specs.sexpr_print.Places.{is_among}
use Rattle.file_modes.proofs.world_text.reading_laws.AreaLaws.{before_or_last}
use Rattle.file_modes.proofs.dump_laws.LineLengths.{total}
use Rattle.file_modes.proofs.dump_laws.KeyNumbers.{Within, numbered_front, numbered_last}
use Rattle.sexpr_laws.proofs.Counts.{Distinct, sum_within}
use Rattle.sexpr_laws.proofs.Sizes.{charges}

-- the names below a number
abbrev pub names_below : ℕ → List ℕ
names_below zero = []
names_below (suc count) = names_below count ++ count ∷ []

below_among : (count name : ℕ) → name < count → is_among (names_below count) name ≡ true
below_among zero name below = absurd (omega arith)
below_among (suc count) name below = elim (before_or_last name count (omega arith)) [
  | inl before ↦ numbered_front (names_below count) (count ∷ []) name (below_among count name before)
  | inr last ↦ subst (λ n. is_among (names_below count ++ count ∷ []) n ≡ true) (sym last) (numbered_last (names_below count) count)
]

charges_below : (objects : List Object) (count : ℕ) → count ≤ length objects → charges objects (names_below count) ≡ total (take count objects)
charges_below objects zero within = refl
charges_below objects (suc count) within =
    let e : count + 1 ≡ suc count = omega arith in
    let f = sum_by_more (λ (o : Object). o.charge) objects count no_object (omega arith) in
    sum_by_push (λ n. (object_at objects n).charge) (names_below count) count
    ∙ ap (λ k. k + (object_at objects count).charge) (charges_below objects count (omega arith))
    ∙ sym f
    ∙ ap (λ n. total (take n objects)) e

-- different objects are charged no more than all
pub charges_within : (objects : List Object) (names : List ℕ) → Distinct names → ((name : ℕ) → is_among names name ≡ true → name < length objects) → charges objects names ≤ total objects
charges_within objects names distinct below =
    let all = sum_within (λ n. (object_at objects n).charge) names (names_below (length objects)) distinct (λ name is. below_among (length objects) name (below name is)) in
    omega (arith, all, charges_below objects (length objects) (omega arith), ap total (take_all (length objects) objects (omega arith)))

ones : (names : List ℕ) → sum_by (λ (n : ℕ). 1) names ≡ length names
ones [] = refl
ones (name ∷ names) = sum_by-cons (λ (n : ℕ). 1) name names ∙ ap (λ k. 1 + k) (ones names) ∙ omega arith

-- names that occur once are no more than the names of a list that has each of them
pub fewer_names : (names all : List ℕ) → Distinct names → Within names all → length names ≤ length all
fewer_names names all distinct within = omega (arith, sum_within (λ (n : ℕ). 1) names all distinct within, ones names, ones all)
