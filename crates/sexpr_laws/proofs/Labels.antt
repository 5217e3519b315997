-- The places of names in a list, and the labels of the shared ones.
use Rattle.std.proofs.Common.{◌≡◌, ℕ, suc, ◌+◌, ◌<◌, ◌≤◌, ◌⊎◌, List, [], ◌∷◌, ◌++◌, length, take, get_or, Bool, true, false, Some, None, inl, inr, refl, ap, sym, ◌∙◌, subst, arith, append-nil}
use Rattle.std.specs.Prelude.{◌==◌, ◌||◌, cond, not, count_by, if◌then◌else◌, nat_eq}
use Rattle.std.specs.List.{position_or_len}
use Rattle.std.proofs.lemmas.Bool.Decides.{nat_tests}
use Rattle.std.proofs.lemmas.List.Sums.{sum_by-cons}
use Rattle.file_modes.specs.sexpr_text.Labels.{name_of}
use Rattle.file_modes.specs.sexpr_print.Places.{is_among}
use Rattle.file_modes.specs.sexpr_print.Printing.{label_of}
use Rattle.file_modes.proofs.dump_laws.KeyNumbers.{key_same}
use Rattle.sexpr_laws.proofs.Counts.{or_none, same_name, true_false}

-- Places

-- the place of a name
abbrev pub place_of : List ℕ → ℕ → ℕ
place_of names name = position_or_len (λ other. name == other) names

pub place_here : (one : ℕ) (names : List ℕ) (name : ℕ) → (name == one) ≡ true → place_of (one ∷ names) name ≡ 0
place_here one names name same = ap (λ b. cond (not b) (1 + place_of names name) 0) same

pub place_later : (one : ℕ) (names : List ℕ) (name : ℕ) → (name == one) ≡ false → place_of (one ∷ names) name ≡ suc (place_of names name)
place_later one names name differs = ap (λ b. cond (not b) (1 + place_of names name) 0) differs ∙ omega arith

pub place_front : (names others : List ℕ) (name : ℕ) → is_among names name ≡ true → place_of (names ++ others) name ≡ place_of names name
place_front [] others name is = absurd (cc (is))
place_front (one ∷ names) others name is = elim (or_cases_first (name == one) (is_among names name) is) [
  | inl same ↦ place_here one (names ++ others) name same ∙ sym (place_here one names name same)
  | inr later ↦ place_later one (names ++ others) name later.0 ∙ ap suc (place_front names others name later.1) ∙ sym (place_later one names name later.0)
]
  where
    or_cases_first : (a b : Bool) → (a || b) ≡ true → (a ≡ true) ⊎ ((a ≡ false) × (b ≡ true))
    or_cases_first true b here = inl refl
    or_cases_first false b here = inr (refl, here)

pub place_last : (names : List ℕ) (name : ℕ) → is_among names name ≡ false → place_of (names ++ name ∷ []) name ≡ length names
place_last [] name fresh = place_here name [] name (key_same name)
place_last (one ∷ names) name fresh =
    let parts = or_none (name == one) (is_among names name) fresh in
    place_later one (names ++ name ∷ []) name parts.0 ∙ ap suc (place_last names name parts.1)

-- a name is at its place
pub record StandsAt (names : List ℕ) (name : ℕ) : Type 0 where
  pub below : place_of names name < length names
  pub is : (default : ℕ) → get_or names (place_of names name) default ≡ name

pub place_at : (names : List ℕ) (name : ℕ) → is_among names name ≡ true → StandsAt names name
place_at [] name is = absurd (cc (is))
place_at (one ∷ names) name is = elim (true_false (name == one)) [
  | inl same ↦
      let e : place_of (one ∷ names) name ≡ 0 = place_here one names name same in
      record { below = omega (arith, e); is = λ default. ap (λ n. get_or (one ∷ names) n default) e ∙ sym (same_name name one same) }
  | inr differs ↦
      let e : place_of (one ∷ names) name ≡ suc (place_of names name) = place_later one names name differs in
      let rest = place_at names name (sym (ap (λ b. b || is_among names name) differs) ∙ is) in
      record { below = omega (arith, e, rest.below); is = λ default. ap (λ n. get_or (one ∷ names) n default) e ∙ rest.is default }
]

-- Labels

-- the labels of the shared ones of these names, from this label and this place on
abbrev pub labels_from : (ℕ → Bool) → ℕ → ℕ → List ℕ → List (ℕ × ℕ)
labels_from shared label place [] = []
labels_from shared label place (name ∷ names) =
    if shared name then (label, place) ∷ labels_from shared (label + 1) (place + 1) names else labels_from shared label (place + 1) names

abbrev pub labels_of : (ℕ → Bool) → List ℕ → List (ℕ × ℕ)
labels_of shared names = labels_from shared 0 0 names

count_cons : (shared : ℕ → Bool) (name : ℕ) (names : List ℕ) → count_by shared (name ∷ names) ≡ cond (shared name) 1 0 + count_by shared names
count_cons shared name names = sum_by-cons (λ n. cond (shared n) 1 0) name names

count_yes : (shared : ℕ → Bool) (name : ℕ) (names : List ℕ) → shared name ≡ true → count_by shared (name ∷ names) ≡ 1 + count_by shared names
count_yes shared name names is = count_cons shared name names ∙ ap (λ b. cond b 1 0 + count_by shared names) is

count_not : (shared : ℕ → Bool) (name : ℕ) (names : List ℕ) → shared name ≡ false → count_by shared (name ∷ names) ≡ count_by shared names
count_not shared name names is = count_cons shared name names ∙ ap (λ b. cond b 1 0 + count_by shared names) is ∙ omega arith

labels_yes : (shared : ℕ → Bool) (label place name : ℕ) (names : List ℕ) → shared name ≡ true → labels_from shared label place (name ∷ names) ≡ (label, place) ∷ labels_from shared (label + 1) (place + 1) names
labels_yes shared label place name names is = ap (λ b. if b then (label, place) ∷ labels_from shared (label + 1) (place + 1) names else labels_from shared label (place + 1) names) is

labels_not : (shared : ℕ → Bool) (label place name : ℕ) (names : List ℕ) → shared name ≡ false → labels_from shared label place (name ∷ names) ≡ labels_from shared label (place + 1) names
labels_not shared label place name names is = ap (λ b. if b then (label, place) ∷ labels_from shared (label + 1) (place + 1) names else labels_from shared label (place + 1) names) is

-- one more name
pub labels_push : (shared : ℕ → Bool) (label place : ℕ) (names : List ℕ) (name : ℕ)
    → labels_from shared label place (names ++ name ∷ []) ≡ labels_from shared label place names ++ (if shared name then (label + count_by shared names, place + length names) ∷ [] else [])
labels_push shared label place [] name =
    let e : label + 0 ≡ label = omega arith in
    let f : place + 0 ≡ place = omega arith in
    ap (λ l. if shared name then (l, place) ∷ [] else []) (sym e) ∙ ap (λ p. if shared name then (label + 0, p) ∷ [] else []) (sym f)
labels_push shared label place (one ∷ names) name = elim (true_false (shared one)) [
  | inl is ↦
      let e : label + 1 + count_by shared names ≡ label + count_by shared (one ∷ names) = omega (arith, count_yes shared one names is) in
      let f : place + 1 + length names ≡ place + suc (length names) = omega arith in
      labels_yes shared label place one (names ++ name ∷ []) is
      ∙ ap (λ (l : List (ℕ × ℕ)). (label, place) ∷ l) (labels_push shared (label + 1) (place + 1) names name ∙ last e f (labels_from shared (label + 1) (place + 1) names))
      ∙ ap (λ (l : List (ℕ × ℕ)). l ++ (if shared name then (label + count_by shared (one ∷ names), place + suc (length names)) ∷ [] else [])) (sym (labels_yes shared label place one names is))
  | inr isn ↦
      let e : label + count_by shared names ≡ label + count_by shared (one ∷ names) = omega (arith, count_not shared one names isn) in
      let f : place + 1 + length names ≡ place + suc (length names) = omega arith in
      labels_not shared label place one (names ++ name ∷ []) isn
      ∙ labels_push shared label (place + 1) names name
      ∙ last e f (labels_from shared label (place + 1) names)
      ∙ ap (λ (l : List (ℕ × ℕ)). l ++ (if shared name then (label + count_by shared (one ∷ names), place + suc (length names)) ∷ [] else [])) (sym (labels_not shared label place one names isn))
]
  where
    last : {a b c d : ℕ} → a ≡ b → c ≡ d → (front : List (ℕ × ℕ)) → front ++ (if shared name then (a, c) ∷ [] else []) ≡ front ++ (if shared name then (b, d) ∷ [] else [])
    last e f front = rw (e, f) refl

pub labels_grow : (shared : ℕ → Bool) (names : List ℕ) (name : ℕ) → shared name ≡ true → labels_of shared (names ++ name ∷ []) ≡ labels_of shared names ++ (count_by shared names, length names) ∷ []
labels_grow shared names name is =
    let e : 0 + count_by shared names ≡ count_by shared names = omega arith in
    let f : 0 + length names ≡ length names = omega arith in
    labels_push shared 0 0 names name
    ∙ ap (λ b. labels_of shared names ++ (if b then (0 + count_by shared names, 0 + length names) ∷ [] else [])) is
    ∙ ap (λ n. labels_of shared names ++ (n, 0 + length names) ∷ []) e
    ∙ ap (λ n. labels_of shared names ++ (count_by shared names, n) ∷ []) f

pub labels_stay : (shared : ℕ → Bool) (names : List ℕ) (name : ℕ) → shared name ≡ false → labels_of shared (names ++ name ∷ []) ≡ labels_of shared names
labels_stay shared names name is =
    labels_push shared 0 0 names name
    ∙ ap (λ b. labels_of shared names ++ (if b then (0 + count_by shared names, 0 + length names) ∷ [] else [])) is
    ∙ append-nil (labels_of shared names)

-- a label is new if it is at least the number of the labels that were given
labels_new : (shared : ℕ → Bool) (label place : ℕ) (names : List ℕ) (other : ℕ) → label + count_by shared names ≤ other → name_of (labels_from shared label place names) other ≡ None
labels_new shared label place [] other past = refl
labels_new shared label place (one ∷ names) other past = elim (true_false (shared one)) [
  | inl is ↦
      let differs : nat_eq other label ≡ false = let k = count_yes shared one names is in let below : label < other = omega (arith, k, past) in grind (arith, nat_tests, below) in
      ap (λ (l : List (ℕ × ℕ)). name_of l other) (labels_yes shared label place one names is)
      ∙ ap (λ b. cond b (Some place) (name_of (labels_from shared (label + 1) (place + 1) names) other)) differs
      ∙ labels_new shared (label + 1) (place + 1) names other (omega (arith, count_yes shared one names is, past))
  | inr isn ↦
      ap (λ (l : List (ℕ × ℕ)). name_of l other) (labels_not shared label place one names isn)
      ∙ labels_new shared label (place + 1) names other (omega (arith, count_not shared one names isn, past))
]

pub label_new : (shared : ℕ → Bool) (names : List ℕ) → name_of (labels_of shared names) (count_by shared names) ≡ None
label_new shared names = labels_new shared 0 0 names (count_by shared names) (omega arith)

-- the label of a shared name leads to its place
label_here : (shared : ℕ → Bool) (one : ℕ) (names : List ℕ) (name : ℕ) → (name == one) ≡ true → label_of shared (one ∷ names) name ≡ 0
label_here shared one names name same = ap (λ n. count_by shared (take n (one ∷ names))) (place_here one names name same)

label_later : (shared : ℕ → Bool) (one : ℕ) (names : List ℕ) (name : ℕ) → (name == one) ≡ false → label_of shared (one ∷ names) name ≡ cond (shared one) 1 0 + label_of shared names name
label_later shared one names name differs =
    ap (λ n. count_by shared (take n (one ∷ names))) (place_later one names name differs) ∙ count_cons shared one (take (place_of names name) names)

labels_known : (shared : ℕ → Bool) (label place : ℕ) (names : List ℕ) (name : ℕ) → is_among names name ≡ true → shared name ≡ true
    → name_of (labels_from shared label place names) (label + label_of shared names name) ≡ Some (place + place_of names name)
labels_known shared label place [] name among is = absurd (cc (among))
labels_known shared label place (one ∷ names) name among is = elim (true_false (name == one)) [
  | inl same ↦
      let has : shared one ≡ true = subst (λ n. shared n ≡ true) (same_name name one same) is in
      let e : label + label_of shared (one ∷ names) name ≡ label = omega (arith, label_here shared one names name same) in
      let f : place + place_of (one ∷ names) name ≡ place = omega (arith, place_here one names name same) in
      ap (λ (l : List (ℕ × ℕ)). name_of l (label + label_of shared (one ∷ names) name)) (labels_yes shared label place one names has)
      ∙ ap (λ n. cond (nat_eq n label) (Some place) (name_of (labels_from shared (label + 1) (place + 1) names) n)) e
      ∙ ap (λ b. cond b (Some place) (name_of (labels_from shared (label + 1) (place + 1) names) label)) (key_same label)
      ∙ ap Some (sym f)
  | inr differs ↦
      let there : is_among names name ≡ true = sym (ap (λ b. b || is_among names name) differs) ∙ among in
      let f : place + 1 + place_of names name ≡ place + place_of (one ∷ names) name = omega (arith, place_later one names name differs) in
      elim (true_false (shared one)) [
        | inl has ↦
            let k : cond {A = ℕ} (shared one) 1 0 ≡ 1 = ap (λ b. cond {A = ℕ} b 1 0) has in
            let e : label + label_of shared (one ∷ names) name ≡ label + 1 + label_of shared names name = omega (arith, label_later shared one names name differs) in
            let past : nat_eq (label + label_of shared (one ∷ names) name) label ≡ false = let below : label < label + label_of shared (one ∷ names) name = omega (arith, e) in not_same (label + label_of shared (one ∷ names) name) label below in
            ap (λ (l : List (ℕ × ℕ)). name_of l (label + label_of shared (one ∷ names) name)) (labels_yes shared label place one names has)
            ∙ ap (λ b. cond b (Some place) (name_of (labels_from shared (label + 1) (place + 1) names) (label + label_of shared (one ∷ names) name))) past
            ∙ ap (name_of (labels_from shared (label + 1) (place + 1) names)) e
            ∙ labels_known shared (label + 1) (place + 1) names name there is
            ∙ ap Some f
        | inr isn ↦
            let k : cond {A = ℕ} (shared one) 1 0 ≡ 0 = ap (λ b. cond {A = ℕ} b 1 0) isn in
            let e : label + label_of shared (one ∷ names) name ≡ label + label_of shared names name = omega (arith, label_later shared one names name differs) in
            ap (λ (l : List (ℕ × ℕ)). name_of l (label + label_of shared (one ∷ names) name)) (labels_not shared label place one names isn)
            ∙ ap (name_of (labels_from shared label (place + 1) names)) e
            ∙ labels_known shared label (place + 1) names name there is
            ∙ ap Some f
      ]
]
  where
    not_same : (n m : ℕ) → m < n → nat_eq n m ≡ false
    not_same n m below = grind (arith, nat_tests)

pub label_known : (shared : ℕ → Bool) (names : List ℕ) (name : ℕ) → is_among names name ≡ true → shared name ≡ true → name_of (labels_of shared names) (label_of shared names name) ≡ Some (place_of names name)
label_known shared names name among is =
    let e : 0 + label_of shared names name ≡ label_of shared names name = omega arith in
    ap (name_of (labels_of shared names)) (sym e) ∙ labels_known shared 0 0 names name among is ∙ ap Some (omega arith)
