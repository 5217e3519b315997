-- Counting references.
use Rattle.std.proofs.Common.{◌≡◌, ℕ, zero, suc, ◌+◌, ◌<◌, Bool, true, false, refl, sym, ◌∙◌, ap, subst, arith, List, [], ◌∷◌, ◌++◌, length, take, append_assoc, cond}
use Rattle.std.specs.Prelude.{count_by, flat_map, replicate, slice_set, slice_get, slice_index_or, nat_lt, ◌==◌, Some}
use Rattle.std.proofs.lemmas.Bool.{eqb-true, eq-eqb}
use Rattle.std.proofs.lemmas.Bool.Decides.{nat_tests}
use Rattle.std.proofs.lemmas.List.{append-nil, length-set, get_or-set_same, get_or-set_other, take_more, get_or-replicate, length-replicate}
use Rattle.std.proofs.lemmas.List.Sums.{sum_by-append}
use Rattle.lisp_graph.specs.Graph.{is_ref}
use Rattle.lisp_graph.specs.declared.object.Value.{Value}
use Rattle.lisp_graph.specs.declared.object.Value.TheVariants.{Fix, Nil, Ref}
use Rattle.sexpr_print.specs.declared.sharing.References.{References}
use Rattle.sexpr_print.specs.declared.sharing.References.TheVariants.{No}
use Rattle.sexpr_print.specs.Sharing.{AreCounted, Counts, is_many, one_more, references, references_at}

pub count_append : {A : Type 0} (p : A → Bool) (xs ys : List A) → count_by p (xs ++ ys) ≡ count_by p xs + count_by p ys
count_append p xs ys = sum_by-append (λ x. cond (p x) 1 0) xs ys

pub count_one : {A : Type 0} (p : A → Bool) (x : A) → count_by p (x ∷ []) ≡ cond (p x) 1 0
count_one p x = omega arith

pub count_cons : {A : Type 0} (p : A → Bool) (x : A) (xs : List A) → count_by p (x ∷ xs) ≡ cond (p x) 1 0 + count_by p xs
count_cons p x xs = count_append p (x ∷ []) xs ∙ ap (λ n. n + count_by p xs) (count_one p x)

pub count_push : {A : Type 0} (p : A → Bool) (xs : List A) (x : A) (b : Bool) → p x ≡ b → count_by p (xs ++ x ∷ []) ≡ count_by p xs + cond b 1 0
count_push p xs x b is = count_append p xs (x ∷ []) ∙ ap (λ n. count_by p xs + n) (count_one p x ∙ ap (λ (c : Bool). cond c 1 0) is)

count_no : {A : Type 0} (p : A → Bool) (xs : List A) (x : A) → p x ≡ false → count_by p (xs ++ x ∷ []) ≡ count_by p xs
count_no p xs x absent = let e : count_by p (xs ++ x ∷ []) ≡ count_by p xs + 0 = count_push p xs x false absent in omega (arith, e)

count_yes : {A : Type 0} (p : A → Bool) (xs : List A) (x : A) → p x ≡ true → count_by p (xs ++ x ∷ []) ≡ suc (count_by p xs)
count_yes p xs x present = let e : count_by p (xs ++ x ∷ []) ≡ count_by p xs + 1 = count_push p xs x true present in omega (arith, e)

more_than : (n : ℕ) → references (suc n) ≡ one_more (references n)
more_than zero = refl
more_than (suc zero) = refl
more_than (suc (suc n)) = refl

pub many_means : (n : ℕ) → is_many (references n) ≡ nat_lt 1 n
many_means zero = refl
many_means (suc zero) = refl
many_means (suc (suc n)) = sym (grind (arith, nat_tests))

-- Counts

pub counts_none : (counts : List References) → Counts [] counts counts
counts_none counts = record {
  more = λ values are. (let P : List Value → Type 0 = λ vs. AreCounted vs counts in subst P (sym (append-nil values)) are);
  size = refl;
}

pub counts_then : (front back : List Value) (one two three : List References) → Counts front one two → Counts back two three → Counts (front ++ back) one three
counts_then front back one two three first second = record {
  more = λ values are. (let P : List Value → Type 0 = λ vs. AreCounted vs three in subst P (append_assoc values front back) (second.more (values ++ front) (first.more values are)));
  size = second.size ∙ first.size;
}

counts_plain : (value : Value) (counts : List References) → ((name : ℕ) → is_ref name value ≡ false) → Counts (value ∷ []) counts counts
counts_plain value counts absent = record {
  more = λ values are name within. are name within ∙ ap references (sym (count_no (is_ref name) values value (absent name)));
  size = refl;
}

pub counts_other : (value : Value) (counts : List References) → ((name : ℕ) → value ≡ Ref name → ⊥) → Counts (value ∷ []) counts counts
counts_other (Fix number) counts absent = counts_plain (Fix number) counts (λ name. refl)
counts_other Nil counts absent = counts_plain Nil counts (λ name. refl)
counts_other (Ref to) counts absent = absurd (absent to refl)

counted_at : (to : ℕ) (counts : List References) (values : List Value) (name : ℕ) → to < length counts → AreCounted values counts → name < length counts → (b : Bool) → (to == name) ≡ b
    → references_at (slice_set counts to (one_more (references_at counts to))) name ≡ references (count_by (is_ref name) (values ++ Ref to ∷ []))
counted_at to counts values name below are within true same =
    let e : to ≡ name = eqb-true to name same in
    let P : ℕ → Type 0 = λ n. references_at (slice_set counts to (one_more (references_at counts to))) n ≡ references (count_by (is_ref n) (values ++ Ref to ∷ [])) in
    subst P e
    (get_or-set_same counts to (one_more (references_at counts to)) No below
    ∙ ap one_more (are to below)
    ∙ sym (more_than (count_by (is_ref to) values))
    ∙ ap references (sym (count_yes (is_ref to) values (Ref to) (eq-eqb to to refl))))
counted_at to counts values name below are within false other =
    get_or-set_other counts to name (one_more (references_at counts to)) No (λ e. absurd (let h : (to == name) ≡ true = eq-eqb to name (sym e) in cc))
    ∙ are name within
    ∙ ap references (sym (count_no (is_ref name) values (Ref to) other))

pub counts_ref : (value : Value) (to : ℕ) (old new : List References) → value ≡ Ref to → to < length old → new ≡ slice_set old to (one_more (references_at old to)) → Counts (value ∷ []) old new
counts_ref value to old new is below set =
    let P : Value → Type 0 = λ v. Counts (v ∷ []) old new in
    let Q : List References → Type 0 = λ n. Counts (Ref to ∷ []) old n in
    subst P (sym is)
    (subst Q (sym set)
    (record {
      more = λ values are name within.
          counted_at to old values name below are (let e : length (slice_set old to (one_more (references_at old to))) ≡ length old = length-set old to (one_more (references_at old to)) in omega (arith, e)) (to == name) refl;
      size = length-set old to (one_more (references_at old to));
    }))

-- The next of some values

pub counts_next : (values : List Value) (index : ℕ) (value fill : Value) (first old new : List References) → index < length values → value ≡ slice_index_or values index fill
    → Counts (take index values) first old → Counts (value ∷ []) old new → Counts (take (index + 1) values) first new
counts_next values index value fill first old new within is before one =
    let P : List Value → Type 0 = λ vs. Counts vs first new in
    let e : take (index + 1) values ≡ take index values ++ value ∷ [] = take_more values index fill within ∙ ap (λ v. take index values ++ v ∷ []) (sym is) in
    subst P (sym e) (counts_then (take index values) (value ∷ []) first old new before one)

-- The next of some objects, each of which holds these values

pub flat_one : {A B : Type 0} (f : A → List B) (xs : List A) (x : A) → flat_map f (xs ++ x ∷ []) ≡ flat_map f xs ++ f x
flat_one f [] x = append-nil (f x)
flat_one f (y ∷ ys) x = ap (λ l. f y ++ l) (flat_one f ys x) ∙ sym (append_assoc (f y) (flat_map f ys) (f x))

pub take_get : {A : Type 0} (xs : List A) (index : ℕ) (x : A) → slice_get xs index ≡ Some x → take (index + 1) xs ≡ take index xs ++ x ∷ []
take_get [] index x is = absurd cc
take_get (y ∷ ys) zero x is = let e : y ≡ x = cc in ap (λ z. z ∷ []) e
take_get (y ∷ ys) (suc index) x is = let e : suc index + 1 ≡ suc (index + 1) = omega arith in ap (λ n. take n (y ∷ ys)) e ∙ ap (λ l. y ∷ l) (take_get ys index x is)

pub counts_object : (holds : ℕ → List Value) (names : List ℕ) (number name : ℕ) (first old new : List References) → slice_get names number ≡ Some name
    → Counts (flat_map holds (take number names)) first old → Counts (holds name) old new → Counts (flat_map holds (take (number + 1) names)) first new
counts_object holds names number name first old new is before one =
    let P : List Value → Type 0 = λ vs. Counts vs first new in
    let e : flat_map holds (take (number + 1) names) ≡ flat_map holds (take number names) ++ holds name = ap (flat_map holds) (take_get names number name is) ∙ flat_one holds (take number names) name in
    subst P (sym e) (counts_then (flat_map holds (take number names)) (holds name) first old new before one)

-- Counting from the first value on

nothing_counted : (count : ℕ) → AreCounted [] (replicate count No)
nothing_counted count name within = get_or-replicate count name No No (let e : length (replicate count No) ≡ count = length-replicate count No in omega (arith, e))

pub counted_all : (values : List Value) (count : ℕ) (first last : List References) → first ≡ replicate count No → Counts values first last → AreCounted values last
counted_all values count first last is counts = counts.more [] (let P : List References → Type 0 = λ f. AreCounted [] f in subst P (sym is) (nothing_counted count))
