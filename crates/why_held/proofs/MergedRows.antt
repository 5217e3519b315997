-- The lines of rows with those that are reached are the lines with the counts of what is reached.
use Rattle.std.proofs.Common.{◌≡◌, ℕ, zero, suc, ◌<◌, ◌⊎◌, inl, inr, Bool, true, false, ◌==◌, if◌then◌else◌, refl, sym, ◌∙◌, ap, ap₂, subst, arith, List, [], ◌∷◌, ◌++◌, length, get_or, Option, Some, None, All, AllPairs, Any}
use Rattle.std.proofs.lemmas.Bool.{and_from, and_parts, cases_Bool, cases_eq, eqb-true, eq-eqb, lt-ltb, ltb-true}
use Rattle.std.proofs.lemmas.List.Elements.{All-head, All-tail}
use Rattle.lisp_graph.specs.declared.world.AreaRule.{AreaRule}
use Rattle.why_held.specs.declared.rows.CensusRow.{CensusRow}
use Rattle.why_held.specs.declared.rows.Counted.{Counted}
use Rattle.why_held.specs.Census.{IsBefore, IsRow, charge_of, count_of, is_code_before, same_code}
use Rattle.why_held.specs.CensusText.{AddUp, AddsUp, CountsAll, IsPart, behind, census_line, census_lines, found, line_with, lines_with, same_kind}
use Rattle.why_held.proofs.TallyRows.{charge_none, same_code_is}

-- Kinds of rows

code_irreflexive : (x : Option ℕ) → is_code_before x x ≡ true → ⊥
code_irreflexive None e = cc
code_irreflexive (Some a) e = let l = ltb-true a a e in omega arith

code_transitive : (x y z : Option ℕ) → is_code_before x y ≡ true → is_code_before y z ≡ true → is_code_before x z ≡ true
code_transitive x None z e f = absurd (none_before x e)
  where
    none_before : (o : Option ℕ) → is_code_before o None ≡ true → ⊥
    none_before None g = cc
    none_before (Some a) g = cc
code_transitive x (Some b) None e f = absurd cc
code_transitive None (Some b) (Some c) e f = refl
code_transitive (Some a) (Some b) (Some c) e f = let l = ltb-true a b e in let m = ltb-true b c f in lt-ltb a c (omega arith)

before_irreflexive : (row other : CensusRow) → row.area ≡ other.area → row.code ≡ other.code → IsBefore row other → ⊥
before_irreflexive row other a c (inl l) = omega arith
before_irreflexive row other a c (inr b) = code_irreflexive other.code (ap (λ (x : Option ℕ). is_code_before x other.code) (sym c) ∙ b.1)

before_transitive : (x y z : CensusRow) → IsBefore x y → IsBefore y z → IsBefore x z
before_transitive x y z (inl l) (inl m) = inl (omega arith)
before_transitive x y z (inl l) (inr b) = inl (let e = b.0 in omega arith)
before_transitive x y z (inr a) (inl m) = inl (let e = a.0 in omega arith)
before_transitive x y z (inr a) (inr b) = inr (a.0 ∙ b.0, code_transitive x.code y.code z.code a.1 b.1)

-- Lists of rows

-- a row of the kind is among them
abbrev Has : ℕ → Option ℕ → List CensusRow → Type 0
Has area code [] = ⊥
Has area code (row ∷ rows) = ((row.area ≡ area) × (row.code ≡ code)) ⊎ Has area code rows

has_any : (area : ℕ) (code : Option ℕ) (rows : List CensusRow) → Any (λ row. (row.area ≡ area) × (row.code ≡ code)) rows → Has area code rows
has_any area code [] a = let l = a.2 in absurd (omega arith)
has_any area code (row ∷ rows) a = go a.0 a.1 a.2 a.3 a.4 (has_any area code rows)
  where
    go : (k : ℕ) (x : CensusRow) → k < length (row ∷ rows) → get_or (row ∷ rows) k x ≡ x → (x.area ≡ area) × (x.code ≡ code) → (Any (λ r. (r.area ≡ area) × (r.code ≡ code)) rows → Has area code rows) → Has area code (row ∷ rows)
    go zero x l e h rest = inl (ap (λ (r : CensusRow). r.area) e ∙ h.0, ap (λ (r : CensusRow). r.code) e ∙ h.1)
    go (suc k) x l e h rest = inr (rest (k, x, omega arith, e, h))

-- each of them follows the row
abbrev After : CensusRow → List CensusRow → Type 0
After row [] = Unit {0}
After row (next ∷ rows) = IsBefore row next × After row rows

abbrev Ascend : List CensusRow → Type 0
Ascend [] = Unit {0}
Ascend (row ∷ rows) = After row rows × Ascend rows

after_pairs : (row : CensusRow) (rows : List CensusRow) → ((j : ℕ) (d : CensusRow) → j < length rows → IsBefore row (get_or rows j d)) → After row rows
after_pairs row [] h = tt
after_pairs row (next ∷ rows) h = (h 0 next (omega arith), after_pairs row rows (λ j d l. h (suc j) d (omega arith)))

ascend_pairs : (rows : List CensusRow) → AllPairs IsBefore rows → Ascend rows
ascend_pairs [] h = tt
ascend_pairs (row ∷ rows) h = (after_pairs row rows (λ j d l. h 0 (suc j) d (omega arith) (omega arith)), ascend_pairs rows (λ i j d l m. h (suc i) (suc j) d (omega arith) (omega arith)))

-- a row that follows another isn't of its kind
after_has : (row : CensusRow) (rows : List CensusRow) (area : ℕ) (code : Option ℕ) → After row rows → Has area code rows → (row.area ≡ area) × (row.code ≡ code) → ⊥
after_has row [] area code after has same = has
after_has row (next ∷ rows) area code after (inl is) same = before_irreflexive row next (same.0 ∙ sym is.0) (same.1 ∙ sym is.1) after.0
after_has row (next ∷ rows) area code after (inr has) same = after_has row rows area code after.1 has same

-- a row before another precedes those that follow that one
after_before : (row next : CensusRow) (rows : List CensusRow) → IsBefore row next → After next rows → After row rows
after_before row next [] b after = tt
after_before row next (other ∷ rows) b after = (before_transitive row next other b after.0, after_before row next rows b after.1)

before_has : (row : CensusRow) (rows : List CensusRow) (next : CensusRow) → After row rows → Has next.area next.code rows → IsBefore row next
before_has row [] next after has = absurd has
before_has row (other ∷ rows) next after (inl is) = go after.0
  where
    go : IsBefore row other → IsBefore row next
    go (inl l) = inl (let e = is.0 in omega arith)
    go (inr b) = inr (b.0 ∙ is.0, ap (is_code_before row.code) (sym is.1) ∙ b.1)
before_has row (other ∷ rows) next after (inr has) = before_has row rows next after.1 has

abbrev AllHave : List CensusRow → List CensusRow → Type 0
AllHave [] rows = Unit {0}
AllHave (row ∷ others) rows = Has row.area row.code rows × AllHave others rows

abbrev AllRows : List Counted → List CensusRow → Type 0
AllRows counted [] = Unit {0}
AllRows counted (row ∷ rows) = IsRow counted row × AllRows counted rows

all_rows : (counted : List Counted) (rows : List CensusRow) → All (IsRow counted) rows → AllRows counted rows
all_rows counted [] all = tt
all_rows counted (row ∷ rows) all = (All-head (IsRow counted) row rows all, all_rows counted rows (All-tail (IsRow counted) row rows all))

-- Rows and those that are reached

-- what is counted of the kinds of these rows has its rows among the reached ones, and these are of no other kinds
record Matches (counted : List Counted) (rows reached : List CensusRow) : Type 0 where
  ordered : Ascend rows
  ascend : Ascend reached
  right : AllRows counted reached
  whole : (area : ℕ) (code : Option ℕ) → Has area code rows → 0 < count_of counted area code → Has area code reached
  within : AllHave reached rows

same_is : (row other : CensusRow) → same_kind row other ≡ true → (row.area ≡ other.area) × (row.code ≡ other.code)
same_is row other e = let p = and_parts (row.area == other.area) (same_code row.code other.code) e in (eqb-true row.area other.area p.0, same_code_is row.code other.code p.1)

code_same_as : (x y : Option ℕ) → x ≡ y → same_code x y ≡ true
code_same_as x y e = let P : Option ℕ → Type 0 = λ o. same_code x o ≡ true in subst P e (itself x)
  where
    itself : (o : Option ℕ) → same_code o o ≡ true
    itself None = refl
    itself (Some a) = eq-eqb a a refl

is_same : (row other : CensusRow) → (row.area ≡ other.area) × (row.code ≡ other.code) → same_kind row other ≡ true
is_same row other e = and_from (row.area == other.area) (same_code row.code other.code) (eq-eqb row.area other.area e.0) (code_same_as row.code other.code e.1)

-- rows of other kinds than the first row are of the kinds of the rows after it
have_behind : (row : CensusRow) (rows reached : List CensusRow) → AllHave reached (row ∷ rows) → (Has row.area row.code reached → ⊥) → AllHave reached rows
have_behind row rows [] all none = tt
have_behind row rows (first ∷ others) all none = (go all.0, have_behind row rows others all.1 (λ h. none (inr h)))
  where
    go : Has first.area first.code (row ∷ rows) → Has first.area first.code rows
    go (inl is) = absurd (none (inl (sym is.0, sym is.1)))
    go (inr has) = has

module _ (counted : List Counted) (row : CensusRow) (rows : List CensusRow) where
  -- the next that is reached is of the row's kind
  took : (first : CensusRow) (others : List CensusRow) → Matches counted (row ∷ rows) (first ∷ others) → same_kind row first ≡ true → Matches counted rows others
  took first others m e = record {
    ordered = m.ordered.1;
    ascend = m.ascend.1;
    right = m.right.1;
    whole = λ area code has some. go area code has (m.whole area code (inr has) some);
    within = have_behind row rows others m.within.1 (λ has. after_has first others row.area row.code m.ascend.0 has (let s = same_is row first e in (sym s.0, sym s.1)));
  }
    where
      go : (area : ℕ) (code : Option ℕ) → Has area code rows → Has area code (first ∷ others) → Has area code others
      go area code has (inl is) = (let s = same_is row first e in absurd (after_has row rows area code m.ordered.0 has (s.0 ∙ is.0, s.1 ∙ is.1)))
      go area code has (inr there) = there

  -- no row that is reached is of the row's kind
  none_of : (reached : List CensusRow) → Matches counted (row ∷ rows) reached → found row reached ≡ None → Has row.area row.code reached → ⊥
  none_of [] m e has = has
  none_of (first ∷ others) m e has = go (cases_Bool (same_kind row first)) has
    where
      go : (same_kind row first ≡ true) ⊎ (same_kind row first ≡ false) → Has row.area row.code (first ∷ others) → ⊥
      go (inl s) h = (let x : found row (first ∷ others) ≡ Some first = ap (λ (b : Bool). if b then Some first else None) s in cc)
      go (inr s) (inl is) = (let x = is_same row first (sym is.0, sym is.1) in cc)
      go (inr s) (inr h) = behind_first m.within.0
        where
          behind_first : Has first.area first.code (row ∷ rows) → ⊥
          behind_first (inl is) = (let x = is_same row first (is.0, is.1) in cc)
          behind_first (inr there) =
              let before = before_has row rows first m.ordered.0 there in
              after_has row others row.area row.code (after_before row first others before m.ascend.0) h (refl, refl)

  passed : (reached : List CensusRow) → Matches counted (row ∷ rows) reached → (Has row.area row.code reached → ⊥) → Matches counted rows reached
  passed reached m none = record {
    ordered = m.ordered.1;
    ascend = m.ascend;
    right = m.right;
    whole = λ area code has some. m.whole area code (inr has) some;
    within = have_behind row rows reached m.within none;
  }

  none_counted : (reached : List CensusRow) → Matches counted (row ∷ rows) reached → (Has row.area row.code reached → ⊥) → count_of counted row.area row.code ≡ 0
  none_counted reached m none = elim (cases_eq (count_of counted row.area row.code) 0) [
    | inl e ↦ e
    | inr ne ↦ absurd (none (m.whole row.area row.code (inl (refl, refl)) (omega arith)))
  ]

line_of : List AreaRule → List Counted → CensusRow → List ℕ
line_of areas counted row = census_line areas row (count_of counted row.area row.code) (charge_of counted row.area row.code)

merged : (areas : List AreaRule) (counted : List Counted) (rows reached : List CensusRow) → Matches counted rows reached → lines_with areas rows reached ≡ census_lines areas counted rows
merged areas counted [] reached m = refl
merged areas counted (row ∷ rows) reached m = go reached m (found row reached) refl (merged areas counted rows)
  where
    go : (reached : List CensusRow) → Matches counted (row ∷ rows) reached → (o : Option CensusRow) → found row reached ≡ o → ((others : List CensusRow) → Matches counted rows others → lines_with areas rows others ≡ census_lines areas counted rows)
        → lines_with areas (row ∷ rows) reached ≡ census_lines areas counted (row ∷ rows)
    go reached m None e rest =
        let none = none_of counted row rows reached m e in
        let zero_is = none_counted counted row rows reached m none in
        let charge_is = charge_none counted row.area row.code zero_is in
        ap (λ (o : Option CensusRow). line_with areas row o ++ lines_with areas rows (behind o reached)) e
        ∙ ap₂ (λ (n c : ℕ). census_line areas row n c ++ lines_with areas rows reached) (sym zero_is) (sym charge_is)
        ∙ ap (λ (xs : List ℕ). census_line areas row (count_of counted row.area row.code) (charge_of counted row.area row.code) ++ xs) (rest reached (passed counted row rows reached m none))
    go [] m (Some x) e rest = absurd cc
    go (first ∷ others) m (Some x) e rest = at (cases_Bool (same_kind row first))
      where
        at : (same_kind row first ≡ true) ⊎ (same_kind row first ≡ false) → lines_with areas (row ∷ rows) (first ∷ others) ≡ census_lines areas counted (row ∷ rows)
        at (inr s) = (let y : found row (first ∷ others) ≡ None = ap (λ (b : Bool). if b then Some first else None) s in absurd cc)
        at (inl s) =
            let y : found row (first ∷ others) ≡ Some first = ap (λ (b : Bool). if b then Some first else None) s in
            let k = same_is row first s in
            let n : first.count ≡ count_of counted row.area row.code = m.right.0.count ∙ ap₂ (λ (a : ℕ) (c : Option ℕ). count_of counted a c) (sym k.0) (sym k.1) in
            let c : first.charge ≡ charge_of counted row.area row.code = m.right.0.charge ∙ ap₂ (λ (a : ℕ) (o : Option ℕ). charge_of counted a o) (sym k.0) (sym k.1) in
            ap (λ (o : Option CensusRow). line_with areas row o ++ lines_with areas rows (behind o (first ∷ others))) y
            ∙ ap₂ (λ (p q : ℕ). census_line areas row p q ++ lines_with areas rows others) n c
            ∙ ap (λ (xs : List ℕ). census_line areas row (count_of counted row.area row.code) (charge_of counted row.area row.code) ++ xs) (rest others (took counted row rows first others m s))

-- what is reached is no more than there is
abbrev AllFewer : List Counted → List CensusRow → Type 0
AllFewer counted [] = Unit {0}
AllFewer counted (row ∷ rows) = CountsAll counted row × AllFewer counted rows

all_fewer : (counted : List Counted) (rows : List CensusRow) → All (CountsAll counted) rows → AllFewer counted rows
all_fewer counted [] all = tt
all_fewer counted (row ∷ rows) all = (All-head (CountsAll counted) row rows all, all_fewer counted rows (All-tail (CountsAll counted) row rows all))

added : (counted : List Counted) (rows reached : List CensusRow) → Matches counted rows reached → AllFewer counted rows → AddUp rows reached
added counted [] reached m fewer = tt
added counted (row ∷ rows) reached m fewer = go reached m (found row reached) refl (λ others n. added counted rows others n fewer.1)
  where
    go : (reached : List CensusRow) → Matches counted (row ∷ rows) reached → (o : Option CensusRow) → found row reached ≡ o → ((others : List CensusRow) → Matches counted rows others → AddUp rows others) → AddUp (row ∷ rows) reached
    go reached m None e rest =
        let P : Option CensusRow → Type 0 = λ o. AddsUp row o × AddUp rows (behind o reached) in
        subst P (sym e) (tt, rest reached (passed counted row rows reached m (none_of counted row rows reached m e)))
    go [] m (Some x) e rest = absurd cc
    go (first ∷ others) m (Some x) e rest = at (cases_Bool (same_kind row first))
      where
        at : (same_kind row first ≡ true) ⊎ (same_kind row first ≡ false) → AddUp (row ∷ rows) (first ∷ others)
        at (inr s) = (let y : found row (first ∷ others) ≡ None = ap (λ (b : Bool). if b then Some first else None) s in absurd cc)
        at (inl s) =
            let P : Option CensusRow → Type 0 = λ o. AddsUp row o × AddUp rows (behind o (first ∷ others)) in
            let y : found row (first ∷ others) ≡ Some first = ap (λ (b : Bool). if b then Some first else None) s in
            let k = same_is row first s in
            let n : first.count ≡ count_of counted row.area row.code = m.right.0.count ∙ ap₂ (λ (a : ℕ) (c : Option ℕ). count_of counted a c) (sym k.0) (sym k.1) in
            let c : first.charge ≡ charge_of counted row.area row.code = m.right.0.charge ∙ ap₂ (λ (a : ℕ) (o : Option ℕ). charge_of counted a o) (sym k.0) (sym k.1) in
            let low = fewer.0.count in
            let light = fewer.0.charge in
            subst P (sym y) ((omega arith, omega arith), rest others (took counted row rows first others m s))

all_have : (counted : List Counted) (rows reached : List CensusRow) → ((area : ℕ) (code : Option ℕ) → 0 < count_of counted area code → Has area code rows) → AllRows counted reached → AllHave reached rows
all_have counted rows [] whole right = tt
all_have counted rows (first ∷ others) whole right = (whole first.area first.code (let a = right.0.some in let b = right.0.count in omega arith), all_have counted rows others whole right.1)

matching : (counted : List Counted) (rows reached : List CensusRow) → IsPart counted rows reached → Matches counted rows reached
matching counted rows reached part =
    let right = all_rows counted reached part.census.each in
    record {
      ordered = ascend_pairs rows part.ordered;
      ascend = ascend_pairs reached part.census.ordered;
      right = right;
      whole = λ area code has some. has_any area code reached (part.census.whole area code some);
      within = all_have counted rows reached (λ area code some. has_any area code rows (part.whole area code some)) right;
    }

pub part_lines : (areas : List AreaRule) (counted : List Counted) (rows reached : List CensusRow) → IsPart counted rows reached → lines_with areas rows reached ≡ census_lines areas counted rows
part_lines areas counted rows reached part = merged areas counted rows reached (matching counted rows reached part)

pub part_adds_up : (counted : List Counted) (rows reached : List CensusRow) → IsPart counted rows reached → AddUp rows reached
part_adds_up counted rows reached part = added counted rows reached (matching counted rows reached part) (all_fewer counted rows part.fewer)
