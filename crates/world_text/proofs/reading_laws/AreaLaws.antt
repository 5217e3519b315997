-- Areas, with one more at the end.
use Rattle.std.proofs.Common.{◌≡◌, ℕ, zero, suc, ◌+◌, ◌<◌, ◌≤◌, ◌⊎◌, List, [], ◌∷◌, ◌++◌, length, Bool, true, false, Option, Some, None, inl, inr, refl, ap, ◌∙◌, arith, length-append}
use Rattle.std.specs.Prelude.{◌==◌, bytes_eq, cond, not, if◌then◌else◌, nat_lt, slice_get}
use Rattle.std.specs.List.{position_or_len}
use Rattle.std.specs.Option.{option_map_or}
use Rattle.std.proofs.lemmas.Bool.Decides.{nat_tests}
use Rattle.std.proofs.lemmas.List.Folds.{position_or_len_push}
use Rattle.lisp_graph.specs.Name.{is_name}
use Rattle.lisp_graph.specs.declared.world.AreaRule.{AreaRule}
use Rattle.world_text.specs.reading.Numbers.{area_of}
use Rattle.world_text.specs.writing.Spelling.{name_of}
use Rattle.world_text.specs.reading.Limits.{AreNamed}
use Rattle.world_text.proofs.reading_laws.ValueLaws.{eq_bytes}
use Rattle.world_text.proofs.reading_laws.WordLemmas.{some_is}

pub before_or_last : (i n : ℕ) → i < n + 1 → (i < n) ⊎ (i ≡ n)
before_or_last i n within = either (nat_lt i n) refl
  where
    either : (b : Bool) → nat_lt i n ≡ b → (i < n) ⊎ (i ≡ n)
    either true below = inl (grind (arith, nat_tests, below))
    either false below = inr (grind (arith, nat_tests, below))

pub get_front : {A : Type 0} (xs ys : List A) (i : ℕ) → i < length xs → slice_get (xs ++ ys) i ≡ slice_get xs i
get_front [] ys i within = absurd (omega arith)
get_front (x ∷ xs) ys zero within = refl
get_front (x ∷ xs) ys (suc i) within = get_front xs ys i (omega arith)

pub get_last : {A : Type 0} (xs : List A) (x : A) → slice_get (xs ++ x ∷ []) (length xs) ≡ Some x
get_last [] x = refl
get_last (y ∷ xs) x = get_last xs x

name_front : (areas : List AreaRule) (rule : AreaRule) (area : ℕ) → area < length areas → name_of (areas ++ rule ∷ []) area ≡ name_of areas area
name_front areas rule area within = ap (λ (o : Option AreaRule). option_map_or (λ one. one.name) o []) (get_front areas (rule ∷ []) area within)

name_last : (areas : List AreaRule) (rule : AreaRule) → name_of (areas ++ rule ∷ []) (length areas) ≡ rule.name
name_last areas rule = ap (λ (o : Option AreaRule). option_map_or (λ one. one.name) o []) (get_last areas rule)

abbrev named_as : List ℕ → AreaRule → Bool
named_as word rule = bytes_eq rule.name word

at_place : (place size : ℕ) → place < size → (if nat_lt place size then Some place else None) ≡ Some place
at_place place size within = let e : nat_lt place size ≡ true = grind (arith, nat_tests) in rw e refl

found_front : (areas : List AreaRule) (rule : AreaRule) (word : List ℕ) (area : ℕ) → area_of areas word ≡ Some area → area_of (areas ++ rule ∷ []) word ≡ Some area
found_front areas rule word area is =
    let p = position_or_len (named_as word) areas in
    let found = some_is (nat_lt p (length areas)) p area is in
    let within : p < length areas = grind (arith, nat_tests, found.0) in
    let other : (p == length areas) ≡ false = grind (arith, nat_tests) in
    let same : position_or_len (named_as word) (areas ++ rule ∷ []) ≡ p = position_or_len_push (named_as word) areas rule ∙ rw other refl in
    let more : length (areas ++ rule ∷ []) ≡ length areas + 1 = length-append areas (rule ∷ []) in
    rw (same, more) (at_place p (length areas + 1) (omega arith) ∙ ap Some found.1)

none_is : (b : Bool) (place : ℕ) → (if b then Some place else None) ≡ None → b ≡ false
none_is true place is = absurd (cc (is))
none_is false place is = refl

-- a position in a list is at most its length
place_at : (areas : List AreaRule) (word : List ℕ) → position_or_len (named_as word) areas ≤ length areas
place_at [] word = omega arith
place_at (rule ∷ rules) word = place_more (named_as word rule) (position_or_len (named_as word) rules) (length rules) (place_at rules word)
  where
    place_more : (b : Bool) (place size : ℕ) → place ≤ size → cond (not b) (1 + place) 0 ≤ suc size
    place_more true place size up = omega arith
    place_more false place size up = omega arith

found_last : (areas : List AreaRule) (rule : AreaRule) → area_of areas rule.name ≡ None → area_of (areas ++ rule ∷ []) rule.name ≡ Some (length areas)
found_last areas rule is =
    let word : List ℕ = rule.name in
    let p = position_or_len (named_as word) areas in
    let past = none_is (nat_lt p (length areas)) p is in
    let up = place_at areas word in
    let end : p ≡ length areas = grind (arith, nat_tests, past, up) in
    let same : (p == length areas) ≡ true = grind (arith, nat_tests, end) in
    let last : position_or_len (named_as word) (areas ++ rule ∷ []) ≡ length areas + 0 = position_or_len_push (named_as word) areas rule ∙ rw (same, eq_bytes word) refl in
    let more : length (areas ++ rule ∷ []) ≡ length areas + 1 = length-append areas (rule ∷ []) in
    let zero : length areas + 0 ≡ length areas = omega arith in
    rw (last, more, zero) (at_place (length areas) (length areas + 1) (omega arith))

-- areas with a new one are found by their names
pub named_push : (areas : List AreaRule) (rule : AreaRule) → AreNamed areas → is_name rule.name ≡ true → area_of areas rule.name ≡ None → AreNamed (areas ++ rule ∷ [])
named_push areas rule named formed fresh = record {
  names = λ area within. elim (before_or_last area (length areas) (omega (arith, within, length-append areas (rule ∷ [])))) [
    | inl front ↦ rw (name_front areas rule area front) (named.names area front)
    | inr last ↦ rw (last, name_last areas rule) formed
  ];
  found = λ area within. elim (before_or_last area (length areas) (omega (arith, within, length-append areas (rule ∷ [])))) [
    | inl front ↦ rw (name_front areas rule area front) (found_front areas rule (name_of areas area) area (named.found area front))
    | inr last ↦ rw (last, name_last areas rule) (found_last areas rule fresh)
  ];
}
