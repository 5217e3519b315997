-- The area whose name a text begins with.
use Rattle.std.proofs.Common.{◌≡◌, ℕ, ◌<◌, ◌-◌, List, ◌++◌, length, length-drop, take, drop, get_or, Bool, true, false, Some, refl, ap, sym, ◌∙◌, subst, arith}
use Rattle.std.specs.Prelude.{◌==◌, ◌&&◌, bytes_eq, nat_lt, slice_index}
use Rattle.std.specs.List.{position_or_len}
use Rattle.std.proofs.lemmas.Bool.Decides.{nat_tests}
use Rattle.std.proofs.lemmas.List.{take-append-drop, take_all}
use Rattle.std.proofs.lemmas.List.Sums.{fails_before_first, passes_at_first, position_or_len_is}
use Rattle.lisp_graph.specs.Name.{is_name}
use Rattle.lisp_graph.specs.declared.world.AreaRule.{AreaRule}
use Rattle.world_text.specs.reading.Numbers.{area_of}
use Rattle.world_text.specs.reading.Leading.{LeadsArea, begins_with, first_begun}
use Rattle.world_text.proofs.reading_laws.ValueLaws.{eq_bytes, name_word, other_bytes, same_bytes}
use Rattle.world_text.proofs.reading_laws.WordLemmas.{some_is}

both_true : (b c d : Bool) → (b && c && d) ≡ true → (b ≡ true) × (d ≡ true)
both_true true true true is = (refl, refl)
both_true true true false is = absurd (cc (is))
both_true true false d is = absurd (cc (is))
both_true false c d is = absurd (cc (is))

-- the word is a front of the text, and the text goes on
pub front_is : (word text : List ℕ) → begins_with word text ≡ true → (length word < length text) × (text ≡ word ++ drop (length word) text)
front_is word text begins =
    let both = both_true (nat_lt (length word) (length text)) (slice_index text (length word) == 32) (bytes_eq word (take (length word) text)) begins in
    let same = same_bytes word (take (length word) text) both.1 in
    (grind (arith, nat_tests, both.0), sym (take-append-drop (length word) text) ∙ ap (λ (front : List ℕ). front ++ drop (length word) text) (sym same))

-- the area at the first name that the text begins with
pub area_begins : (areas : List AreaRule) (text : List ℕ) (area : ℕ) (default : AreaRule) → first_begun areas text ≡ Some area
    → (area < length areas) × (begins_with (get_or areas area default).name text ≡ true)
area_begins areas text area default is =
    let p : AreaRule → Bool = λ rule. begins_with rule.name text in
    let found = some_is (nat_lt (position_or_len p areas) (length areas)) (position_or_len p areas) area is in
    let within : position_or_len p areas < length areas = grind (arith, nat_tests, found.0) in
    let P : ℕ → Type 0 = λ at. (at < length areas) × (begins_with (get_or areas at default).name text ≡ true) in
    subst P found.1 (within, passes_at_first p areas default within)

-- no earlier area has this name
pub area_leads : (areas : List AreaRule) (text : List ℕ) (area : ℕ) (default : AreaRule) → first_begun areas text ≡ Some area
    → is_name (get_or areas area default).name ≡ true → LeadsArea areas text area (drop (length (get_or areas area default).name) text)
area_leads areas text area default is formed =
    let p : AreaRule → Bool = λ rule. begins_with rule.name text in
    let name : List ℕ = (get_or areas area default).name in
    let named : AreaRule → Bool = λ rule. bytes_eq rule.name name in
    let begins = area_begins areas text area default is in
    let place = some_is (nat_lt (position_or_len p areas) (length areas)) (position_or_len p areas) area is in
    let other : (k : ℕ) → k < area → named (get_or areas k default) ≡ false =
    λ k before.
    let fails : begins_with (get_or areas k default).name text ≡ false = fails_before_first p areas k default (omega (arith, place.1)) in
    other_bytes (get_or areas k default).name name
    (λ same. let e : begins_with (get_or areas k default).name text ≡ begins_with name text = ap (λ (word : List ℕ). begins_with word text) same in absurd (cc (fails, e, begins.1))) in
    let first : position_or_len named areas ≡ area = position_or_len_is named areas area default (omega (arith, begins.0)) other (λ within. eq_bytes name) in
    let within : nat_lt area (length areas) ≡ true = grind (arith, nat_tests, begins.0) in
    let found : area_of areas name ≡ Some area = rw first (rw within refl) in
    record {
      name = name;
      word = name_word name formed;
      found = found;
      is = (front_is name text begins.1).1;
    }

-- the area, as its name is read
pub area_read : (areas rules : List AreaRule) (text : List ℕ) (area : ℕ) (default rule : AreaRule) (name : List ℕ) → first_begun areas text ≡ Some area
    → rules ≡ areas → rule ≡ get_or rules area default → name ≡ rule.name → is_name rule.name ≡ true
    → (length name < length text) × LeadsArea areas text area (take (length text - length name) (drop (length name) text))
area_read areas rules text area default rule name is same at named formed =
    let there : rule.name ≡ (get_or areas area default).name = ap (λ (one : AreaRule). one.name) (at ∙ ap (λ (l : List AreaRule). get_or l area default) same) in
    let e : name ≡ (get_or areas area default).name = named ∙ there in
    let P : List ℕ → Type 0 = λ word. (begins_with word text ≡ true) × LeadsArea areas text area (drop (length word) text) in
    let both = subst P (sym e) ((area_begins areas text area default is).1, area_leads areas text area default is (subst (λ (word : List ℕ). is_name word ≡ true) there formed)) in
    let within = (front_is name text both.0).0 in
    let whole : take (length text - length name) (drop (length name) text) ≡ drop (length name) text =
    take_all (length text - length name) (drop (length name) text) (omega (arith, length-drop (length name) text)) in
    (within, subst (λ (rest : List ℕ). LeadsArea areas text area rest) (sym whole) both.1)
