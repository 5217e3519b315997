-- How often objects are referred to, and sums over lists of names.
use Rattle.std.proofs.Common.{◌≡◌, ℕ, ◌+◌, ◌≤◌, ◌⊎◌, List, [], ◌∷◌, ◌++◌, Bool, true, false, inl, inr, refl, ap, sym, ◌∙◌, subst, arith}
use Rattle.std.specs.Prelude.{◌==◌, ◌||◌, cond, count_by, flat_map, sum_by}
use Rattle.std.proofs.lemmas.Bool.Decides.{nat_tests}
use Rattle.std.proofs.lemmas.List.Sums.{sum_by-append, sum_by-cons}
use Rattle.file_modes.specs.lisp_graph.Graph.{Graph, is_ref, object_at}
use Rattle.file_modes.specs.lisp_graph.declared.object.Value.{Value}
use Rattle.file_modes.specs.sexpr_print.Places.{held, is_among, parts}
use Rattle.file_modes.proofs.dump_laws.KeyNumbers.{Within, key_same, numbered_append}

-- References

-- how many of these values refer to the object
abbrev pub refs : ℕ → List Value → ℕ
refs name values = count_by (is_ref name) values

-- 1 if the value refers to the object, and otherwise 0
abbrev pub one_ref : ℕ → Value → ℕ
one_ref name value = cond (is_ref name value) 1 0

pub refs_cons : (name : ℕ) (value : Value) (values : List Value) → refs name (value ∷ values) ≡ one_ref name value + refs name values
refs_cons name value values = sum_by-cons (λ v. cond (is_ref name v) 1 0) value values

pub refs_append : (name : ℕ) (first others : List Value) → refs name (first ++ others) ≡ refs name first + refs name others
refs_append name first others = sum_by-append (λ v. cond (is_ref name v) 1 0) first others

flat_refs : (f : ℕ → List Value) (name : ℕ) (names : List ℕ) → refs name (flat_map f names) ≡ sum_by (λ n. refs name (f n)) names
flat_refs f name [] = refl
flat_refs f name (first ∷ names) = refs_append name (f first) (flat_map f names) ∙ ap (λ k. refs name (f first) + k) (flat_refs f name names) ∙ sym (sum_by-cons (λ n. refs name (f n)) first names)

-- what an object holds
abbrev pub parts_at : Graph → ℕ → List Value
parts_at graph name = parts (object_at graph.objects name).body

pub held_refs : (graph : Graph) (name : ℕ) (names : List ℕ) → refs name (held graph names) ≡ refs name graph.registers + sum_by (λ n. refs name (parts_at graph n)) names
held_refs graph name names = refs_append name graph.registers (flat_map (parts_at graph) names) ∙ ap (λ k. refs name graph.registers + k) (flat_refs (parts_at graph) name names)

pub held_push : (graph : Graph) (name last : ℕ) (names : List ℕ) → refs name (held graph (names ++ last ∷ [])) ≡ refs name (held graph names) + refs name (parts_at graph last)
held_push graph name last names =
    omega (
      arith,
      held_refs graph name (names ++ last ∷ []),
      held_refs graph name names,
      sum_by-append (λ n. refs name (parts_at graph n)) names (last ∷ []),
    )

-- Names that occur once

pub same_name : (one two : ℕ) → (one == two) ≡ true → one ≡ two
same_name one two same = grind (arith, nat_tests)

pub or_cases : (a b : Bool) → (a || b) ≡ true → (a ≡ true) ⊎ (b ≡ true)
or_cases true b is = inl refl
or_cases false b is = inr is

pub or_left : (a b : Bool) → a ≡ true → (a || b) ≡ true
or_left true b is = refl
or_left false b is = absurd (cc (is))

pub or_right : (a b : Bool) → b ≡ true → (a || b) ≡ true
or_right true b is = refl
or_right false b is = is

pub or_none : (a b : Bool) → (a || b) ≡ false → (a ≡ false) × (b ≡ false)
or_none true b is = absurd (cc (is))
or_none false b is = (refl, is)

pub true_false : (b : Bool) → (b ≡ true) ⊎ (b ≡ false)
true_false true = inl refl
true_false false = inr refl

-- each name occurs in the list once
abbrev pub Distinct : List ℕ → Type 0
Distinct [] = Unit {0}
Distinct (name ∷ names) = (is_among names name ≡ false) × Distinct names

distinct_last : (names : List ℕ) (one last : ℕ) → is_among names one ≡ false → (last == one) ≡ false → is_among (names ++ last ∷ []) one ≡ false
distinct_last names one last fresh differs =
    let e : ((one == last) || false) ≡ false = let d : (one == last) ≡ false = grind (arith, nat_tests, differs) in ap (λ b. b || false) d in
    numbered_append names (last ∷ []) one ∙ ap (λ b. b || ((one == last) || false)) fresh ∙ e

pub distinct_push : (names : List ℕ) (name : ℕ) → Distinct names → is_among names name ≡ false → Distinct (names ++ name ∷ [])
distinct_push [] name distinct fresh = (refl, tt)
distinct_push (one ∷ names) name distinct fresh =
    let parts = or_none (name == one) (is_among names name) fresh in
    (distinct_last names one name distinct.0 parts.0, distinct_push names name distinct.1 parts.1)

-- Sums over fewer names

-- a name that occurs in the list, and those before and after it
pub record Picked (name : ℕ) (names : List ℕ) : Type 0 where
  pub before : List ℕ
  pub behind : List ℕ
  pub is : names ≡ before ++ name ∷ behind

pub pick : (name : ℕ) (names : List ℕ) → is_among names name ≡ true → Picked name names
pick name [] is = absurd (cc (is))
pick name (one ∷ names) is = elim (or_cases (name == one) (is_among names name) is) [
  | inl here ↦ record { before = []; behind = names; is = ap (λ n. n ∷ names) (sym (same_name name one here)) }
  | inr later ↦ let rest = pick name names later in record { before = one ∷ rest.before; behind = rest.behind; is = ap (λ (l : List ℕ). one ∷ l) rest.is }
]

left_among : (before behind : List ℕ) (name other : ℕ) → is_among (before ++ name ∷ behind) other ≡ true → (other == name) ≡ false → is_among (before ++ behind) other ≡ true
left_among before behind name other is differs =
    numbered_append before behind other ∙ ap (λ b. is_among before other || b) (sym (ap (λ b. b || is_among behind other) differs)) ∙ sym (numbered_append before (name ∷ behind) other) ∙ is

-- names that occur once have no greater sum than a list that has each of them
pub sum_within : (f : ℕ → ℕ) (names all : List ℕ) → Distinct names → Within names all → sum_by f names ≤ sum_by f all
sum_within f [] all distinct within = omega arith
sum_within f (name ∷ names) all distinct within =
    let at = pick name all (within name (or_left (name == name) (is_among names name) (key_same name))) in
    let rest : Within names (at.before ++ at.behind) = λ other is.
    left_among at.before at.behind name other (subst (λ (l : List ℕ). is_among l other ≡ true) at.is (within other (or_right (other == name) (is_among names other) is)))
    (elim (true_false (other == name)) [
      | inl same ↦ let e : is_among names name ≡ true = subst (λ n. is_among names n ≡ true) (same_name other name same) is in absurd (cc (e, distinct.0))
      | inr differs ↦ differs
    ]) in
    omega (
      arith,
      sum_by-cons f name names,
      ap (sum_by f) at.is,
      sum_by-append f at.before (name ∷ at.behind),
      sum_by-cons f name at.behind,
      sum_by-append f at.before at.behind,
      sum_within f names (at.before ++ at.behind) distinct.1 rest,
    )
