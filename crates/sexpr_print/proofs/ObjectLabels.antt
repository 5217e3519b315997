-- The labels of printed objects.
use Rattle.std.proofs.Common.{◌≡◌, ℕ, zero, suc, ◌+◌, ◌<◌, Bool, true, false, refl, sym, ◌∙◌, ap, subst, arith, List, [], ◌∷◌, ◌++◌, length, take, cond, Some, None, length-append}
use Rattle.std.specs.Prelude.{count_by, slice_set, slice_index, ◌==◌, ◌||◌, if◌then◌else◌, not}
use Rattle.std.specs.List.{list_any, position_or_len}
use Rattle.std.proofs.lemmas.Bool.{eqb-true, eq-eqb}
use Rattle.std.proofs.lemmas.List.{length-set, get_or-set_same, get_or-set_other}
use Rattle.std.proofs.lemmas.List.Sums.{sum_by-set}
use Rattle.sexpr_print.specs.Places.{is_among}
use Rattle.sexpr_print.specs.Printing.{label_of}
use Rattle.sexpr_print.specs.declared.sharing.References.{References}
use Rattle.sexpr_print.specs.Marks.{AreLabelled, Marks, entry_label, is_unmarked, label_in, marks_of, shared_in}
use Rattle.sexpr_print.proofs.ReferenceCounts.{count_push}

-- Names after others

among_more : (names : List ℕ) (name other : ℕ) → is_among (names ++ name ∷ []) other ≡ (is_among names other || other == name)
among_more [] name other = elim (other == name) as (λ b. (b || false) ≡ b) [ true ↦ refl | false ↦ refl ]
among_more (one ∷ names) name other = elim (other == one) as (λ b. (b || is_among (names ++ name ∷ []) other) ≡ ((b || is_among names other) || other == name)) [ true ↦ refl | false ↦ among_more names name other ]

-- what precedes the first one that passes is unchanged
first_kept_if : {A : Type 0} (x : A) (xs ys : List A) (n m : ℕ) (b found : Bool) → (found ≡ true → take n ys ≡ take m xs) → (b || found) ≡ true → take (cond (not b) (1 + n) 0) (x ∷ ys) ≡ take (cond (not b) (1 + m) 0) (x ∷ xs)
first_kept_if x xs ys n m true found same any = refl
first_kept_if {A} x xs ys n m false found same any =
    let e : (k : ℕ) → 1 + k ≡ suc k = λ k. omega arith in
    ap (λ k. take k (x ∷ ys)) (e n) ∙ ap (λ (l : List A). x ∷ l) (same any) ∙ ap (λ k. take k (x ∷ xs)) (sym (e m))

first_kept : {A : Type 0} (p : A → Bool) (xs back : List A) → list_any p xs ≡ true → take (position_or_len p (xs ++ back)) (xs ++ back) ≡ take (position_or_len p xs) xs
first_kept p [] back any = absurd cc
first_kept p (x ∷ xs) back any = first_kept_if x xs (xs ++ back) (position_or_len p (xs ++ back)) (position_or_len p xs) (p x) (list_any p xs) (first_kept p xs back) any

-- all others precede the first one that passes
first_new_if : {A : Type 0} (x : A) (xs ys : List A) (n : ℕ) (b found : Bool) → (found ≡ false → take n ys ≡ xs) → (b || found) ≡ false → take (cond (not b) (1 + n) 0) (x ∷ ys) ≡ x ∷ xs
first_new_if x xs ys n true found same none = absurd cc
first_new_if {A} x xs ys n false found same none =
    let e : 1 + n ≡ suc n = omega arith in
    ap (λ k. take k (x ∷ ys)) e ∙ ap (λ (l : List A). x ∷ l) (same none)

first_here : {A : Type 0} (y : A) (b : Bool) → b ≡ true → take (cond (not b) (1 + 0) 0) (y ∷ []) ≡ []
first_here y true here = refl
first_here y false here = absurd cc

first_new : {A : Type 0} (p : A → Bool) (xs : List A) (y : A) → p y ≡ true → list_any p xs ≡ false → take (position_or_len p (xs ++ y ∷ [])) (xs ++ y ∷ []) ≡ xs
first_new p [] y here none = first_here y (p y) here
first_new p (x ∷ xs) y here none = first_new_if x xs (xs ++ y ∷ []) (position_or_len p (xs ++ y ∷ [])) (p x) (list_any p xs) (first_new p xs y here) none

label_kept : (shared : ℕ → Bool) (names back : List ℕ) (name : ℕ) → is_among names name ≡ true → label_of shared (names ++ back) name ≡ label_of shared names name
label_kept shared names back name among = ap (count_by shared) (first_kept (λ other. name == other) names back among)

label_new : (shared : ℕ → Bool) (names : List ℕ) (name : ℕ) → is_among names name ≡ false → label_of shared (names ++ name ∷ []) name ≡ count_by shared names
label_new shared names name among = ap (count_by shared) (first_new (λ other. name == other) names name (eq-eqb name name refl) among)

-- Marks with one more name

if_of : (b : Bool) (n : ℕ) → b ≡ true → (if b then Some n else None) ≡ Some n
if_of true n e = refl
if_of false n e = absurd cc

if_none : (b : Bool) (n : ℕ) → b ≡ false → (if b then Some n else None) ≡ None
if_none false n e = refl
if_none true n e = absurd cc

if_not : (b : Bool) (n : ℕ) → (if b then Some n else None) ≡ None → b ≡ false
if_not false n e = refl
if_not true n e = absurd cc

pub not_among : (marks : Marks) (name : ℕ) → label_in marks name ≡ None → is_among marks.names name ≡ false
not_among marks name is = if_not (is_among marks.names name) (label_of (shared_in marks.counts) marks.names name) is

or_true : (b : Bool) → (b || true) ≡ true
or_true true = refl
or_true false = refl

or_false : (b : Bool) → (b || false) ≡ b
or_false true = refl
or_false false = refl

given_new : (counts : List References) (names : List ℕ) (name : ℕ) → is_among names name ≡ false → label_in (marks_of counts (names ++ name ∷ [])) name ≡ Some (count_by (shared_in counts) names)
given_new counts names name fresh =
    if_of (is_among (names ++ name ∷ []) name) (label_of (shared_in counts) (names ++ name ∷ []) name)
    (among_more names name name ∙ ap (λ b. is_among names name || b) (eq-eqb name name refl) ∙ or_true (is_among names name))
    ∙ ap Some (label_new (shared_in counts) names name fresh)

given_old : (counts : List References) (names : List ℕ) (name other : ℕ) (b : Bool) → (other == name) ≡ false → is_among names other ≡ b → label_in (marks_of counts (names ++ name ∷ [])) other ≡ label_in (marks_of counts names) other
given_old counts names name other true differs among =
    if_of (is_among (names ++ name ∷ []) other) (label_of (shared_in counts) (names ++ name ∷ []) other)
    (among_more names name other ∙ ap (λ b. is_among names other || b) differs ∙ or_false (is_among names other) ∙ among)
    ∙ ap Some (label_kept (shared_in counts) names (name ∷ []) other among)
    ∙ sym (if_of (is_among names other) (label_of (shared_in counts) names other) among)
given_old counts names name other false differs among =
    if_none (is_among (names ++ name ∷ []) other) (label_of (shared_in counts) (names ++ name ∷ []) other)
    (among_more names name other ∙ ap (λ b. is_among names other || b) differs ∙ or_false (is_among names other) ∙ among)
    ∙ sym (if_none (is_among names other) (label_of (shared_in counts) names other) among)

-- The marks with one more

given_next : (counts : List References) (names entries : List ℕ) (label name other : ℕ) → AreLabelled (marks_of counts names) entries label → is_among names name ≡ false → name < length entries → other < length entries
    → (b : Bool) → (other == name) ≡ b → entry_label (slice_index (slice_set entries name (suc label)) other) ≡ label_in (marks_of counts (names ++ name ∷ [])) other
given_next counts names entries label name other are fresh within below true same =
    let e : other ≡ name = eqb-true other name same in
    let P : ℕ → Type 0 = λ n. entry_label (slice_index (slice_set entries name (suc label)) n) ≡ label_in (marks_of counts (names ++ name ∷ [])) n in
    subst P (sym e) (ap entry_label (get_or-set_same entries name (suc label) 0 within) ∙ ap Some are.next ∙ sym (given_new counts names name fresh))
given_next counts names entries label name other are fresh within below false differs =
    ap entry_label (get_or-set_other entries name other (suc label) 0 (λ e. absurd (let h : (other == name) ≡ true = eq-eqb other name e in cc)))
    ∙ are.given other below
    ∙ sym (given_old counts names name other (is_among names other) differs refl)

unmarked : (entry : ℕ) → entry_label entry ≡ None → is_unmarked entry ≡ true
unmarked zero e = refl
unmarked (suc label) e = absurd cc

room_next : (entries : List ℕ) (name label : ℕ) → name < length entries → entry_label (slice_index entries name) ≡ None → count_by is_unmarked (slice_set entries name (suc label)) + 1 ≡ count_by is_unmarked entries
room_next entries name label within free =
    let e : count_by is_unmarked (slice_set entries name (suc label)) + cond (is_unmarked (slice_index entries name)) 1 0 ≡ count_by is_unmarked entries + 0 = sum_by-set (λ entry. cond (is_unmarked entry) 1 0) entries name (suc label) 0 within in
    let u = ap (λ (b : Bool). cond {A = ℕ} b 1 0) (unmarked (slice_index entries name) free) in
    omega (arith, e, u)

labelled_next : (counts : List References) (names entries : List ℕ) (label name : ℕ) → AreLabelled (marks_of counts names) entries label → name < length counts → label_in (marks_of counts names) name ≡ None
    → AreLabelled (marks_of counts (names ++ name ∷ [])) (slice_set entries name (suc label)) (label + cond (shared_in counts name) 1 0)
labelled_next counts names entries label name are within first =
    let fresh = not_among (marks_of counts names) name first in
    let below : name < length entries = omega (arith, are.size) in
    let size : length (slice_set entries name (suc label)) ≡ length entries = length-set entries name (suc label) in
    let less = room_next entries name label below (are.given name below ∙ first) in
    let more : length (names ++ name ∷ []) ≡ length names + 1 = length-append names (name ∷ []) in
    record {
      few = omega (arith, size, are.few);
      size = size ∙ are.size;
      given = λ other inside. given_next counts names entries label name other are fresh below (omega (arith, size)) (other == name) refl;
      next = ap (λ n. n + cond (shared_in counts name) 1 0) are.next ∙ sym (count_push (shared_in counts) names name (shared_in counts name) refl);
      room = omega (arith, more, less, are.room);
    }

pub labelled_more : (counts : List References) (names new_names entries new_entries : List ℕ) (label entry next name : ℕ) → AreLabelled (marks_of counts names) entries label → name < length counts
    → label_in (marks_of counts names) name ≡ None → new_names ≡ names ++ name ∷ [] → entry ≡ suc label → new_entries ≡ slice_set entries name entry → next ≡ label + cond (shared_in counts name) 1 0
    → AreLabelled (marks_of counts new_names) new_entries next
labelled_more counts names new_names entries new_entries label entry next name are within first named more set stepped =
    let P : List ℕ → List ℕ → ℕ → Type 0 = λ ns es n. AreLabelled (marks_of counts ns) es n in
    let Q : List ℕ → Type 0 = λ ns. P ns new_entries next in
    let R : List ℕ → Type 0 = λ es. P (names ++ name ∷ []) es next in
    let S : ℕ → Type 0 = λ n. P (names ++ name ∷ []) (slice_set entries name (suc label)) n in
    subst Q (sym named) (subst R (sym (set ∙ ap (slice_set entries name) more)) (subst S (sym stepped) (labelled_next counts names entries label name are within first)))
