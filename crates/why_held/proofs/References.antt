-- Which values, parts and objects refer to an object.
use Rattle.std.proofs.Common.{◌≡◌, ℕ, zero, suc, ◌<◌, ◌⊎◌, inl, inr, Bool, true, false, ◌||◌, refl, sym, ◌∙◌, ap, subst, arith, List, [], ◌∷◌, ◌++◌, length, get_or, Contains}
use Rattle.std.proofs.lemmas.Bool.{cases_lt, eqb-true, eq-eqb, or_cases, or_left, or_right}
use Rattle.std.proofs.lemmas.List.{get_or_past}
use Rattle.lisp_graph.specs.declared.object.Value.{Value}
use Rattle.lisp_graph.specs.declared.object.Value.TheVariants.{Fix, Nil, Ref}
use Rattle.lisp_graph.specs.declared.object.Body.{Body}
use Rattle.lisp_graph.specs.declared.object.Body.TheVariants.{Cons, Block}
use Rattle.lisp_graph.specs.declared.object.Object.{Object}
use Rattle.lisp_graph.specs.Graph.{RefersBelow, body_refers, is_ref, object_at, refers_in, value_at}
use Rattle.why_held.specs.declared.chain.Part.{Part}
use Rattle.why_held.specs.declared.chain.Part.TheVariants.{Root, Car, Cdr, Field}
use Rattle.why_held.specs.Chains.{register_value, value_in}
use Rattle.why_held.specs.Search.{all_parts, parts_of}

-- A value

pub ref_of : (n : ℕ) (v : Value) → is_ref n v ≡ true → v ≡ Ref n
ref_of n (Ref m) e = ap Ref (eqb-true m n e)
ref_of n Nil e = absurd cc
ref_of n (Fix i) e = absurd cc

pub is_ref-same : (n : ℕ) → is_ref n (Ref n) ≡ true
is_ref-same n = eq-eqb n n refl

pub is_ref-of : (n : ℕ) (v : Value) → v ≡ Ref n → is_ref n v ≡ true
is_ref-of n v e = ap (is_ref n) e ∙ is_ref-same n

pub ref_below : (n count : ℕ) (v : Value) → is_ref n v ≡ true → RefersBelow count v → n < count
ref_below n count v e below = subst (RefersBelow count) (ref_of n v e) below

-- A list of values

pub refers_in-nil : (n : ℕ) → refers_in n [] ≡ false
unfolding refers_in
refers_in-nil n = refl

pub refers_in-cons : (n : ℕ) (v : Value) (vs : List Value) → refers_in n (v ∷ vs) ≡ (is_ref n v || refers_in n vs)
unfolding refers_in
refers_in-cons n v vs = refl

pub refers_none : (n : ℕ) → refers_in n [] ≡ true → ⊥
refers_none n e = let x = refers_in-nil n in absurd cc

pub refers_head : (n : ℕ) (v : Value) (vs : List Value) → is_ref n v ≡ true → refers_in n (v ∷ vs) ≡ true
refers_head n v vs e = refers_in-cons n v vs ∙ or_left (is_ref n v) (refers_in n vs) e

pub refers_tail : (n : ℕ) (v : Value) (vs : List Value) → refers_in n vs ≡ true → refers_in n (v ∷ vs) ≡ true
refers_tail n v vs e = refers_in-cons n v vs ∙ or_right (is_ref n v) (refers_in n vs) e

pub refers_cases : (n : ℕ) (v : Value) (vs : List Value) → refers_in n (v ∷ vs) ≡ true → (is_ref n v ≡ true) ⊎ (refers_in n vs ≡ true)
refers_cases n v vs e = or_cases (is_ref n v) (refers_in n vs) (sym (refers_in-cons n v vs) ∙ e)

pub refers_one : (n : ℕ) (v : Value) → refers_in n (v ∷ []) ≡ true → is_ref n v ≡ true
refers_one n v e = elim (refers_cases n v [] e) [ inl x ↦ x | inr x ↦ absurd (refers_none n x) ]

pub refers_left : (n : ℕ) (vs ws : List Value) → refers_in n vs ≡ true → refers_in n (vs ++ ws) ≡ true
refers_left n [] ws e = absurd (refers_none n e)
refers_left n (v ∷ vs) ws e = elim (refers_cases n v vs e) [ inl x ↦ refers_head n v (vs ++ ws) x | inr x ↦ refers_tail n v (vs ++ ws) (refers_left n vs ws x) ]

pub refers_right : (n : ℕ) (vs ws : List Value) → refers_in n ws ≡ true → refers_in n (vs ++ ws) ≡ true
refers_right n [] ws e = e
refers_right n (v ∷ vs) ws e = refers_tail n v (vs ++ ws) (refers_right n vs ws e)

pub refers_split : (n : ℕ) (vs ws : List Value) → refers_in n (vs ++ ws) ≡ true → (refers_in n vs ≡ true) ⊎ (refers_in n ws ≡ true)
refers_split n [] ws e = inr e
refers_split n (v ∷ vs) ws e = elim (refers_cases n v (vs ++ ws) e) [
  | inl x ↦ inl (refers_head n v vs x)
  | inr x ↦ elim (refers_split n vs ws x) [ inl y ↦ inl (refers_tail n v vs y) | inr y ↦ inr y ]
]

-- a value in the list that refers to the object
pub refers_at : (n : ℕ) (vs : List Value) (i : ℕ) → is_ref n (value_at vs i) ≡ true → refers_in n vs ≡ true
refers_at n [] i e = absurd cc
refers_at n (v ∷ vs) zero e = refers_head n v vs e
refers_at n (v ∷ vs) (suc i) e = refers_tail n v vs (refers_at n vs i e)

pub refers_which : (n : ℕ) (vs : List Value) → refers_in n vs ≡ true → (i : ℕ) × (value_at vs i ≡ Ref n)
refers_which n [] e = absurd (refers_none n e)
refers_which n (v ∷ vs) e = elim (refers_cases n v vs e) [
  | inl x ↦ (0, ref_of n v x)
  | inr x ↦ (let r = refers_which n vs x in (suc r.0, r.1))
]

-- such a value isn't among the first ones that don't refer to the object
pub refers_later : (n : ℕ) (vs : List Value) (count : ℕ) → refers_in n vs ≡ true → ((k : ℕ) → k < count → is_ref n (value_at vs k) ≡ false) → count < length vs
refers_later n vs count e none = elim (cases_lt count (length vs)) [
  | inl l ↦ l
  | inr past ↦ (
      let r = refers_which n vs e in
      let there = is_ref-of n (value_at vs r.0) r.1 in
      elim (cases_lt r.0 count) [
        | inl l ↦ (let x = none r.0 l in absurd cc)
        | inr l ↦ (let x : is_ref n (value_at vs r.0) ≡ false = ap (is_ref n) (get_or_past vs r.0 Nil (omega arith)) in absurd cc)
      ])
]

-- Parts of an object

pub parts_refer : (n : ℕ) (b : Body) → refers_in n (parts_of b) ≡ body_refers n b
parts_refer n (Cons car cdr) =
    refers_in-cons n car (cdr ∷ []) ∙ ap (λ (x : Bool). is_ref n car || x) (refers_in-cons n cdr [] ∙ ap (λ (x : Bool). is_ref n cdr || x) (refers_in-nil n) ∙ or_false (is_ref n cdr))
  where
    or_false : (x : Bool) → (x || false) ≡ x
    or_false true = refl
    or_false false = refl
parts_refer n (Block code fields) = refl

-- an object is referred to if a part refers to it
pub part_refers : (n : ℕ) (b : Body) (p : Part) → value_in b p ≡ Ref n → body_refers n b ≡ true
part_refers n (Cons car cdr) Car e = or_left (is_ref n car) (is_ref n cdr) (is_ref-of n car e)
part_refers n (Cons car cdr) Cdr e = or_right (is_ref n car) (is_ref n cdr) (is_ref-of n cdr e)
part_refers n (Cons car cdr) (Field i) e = absurd cc
part_refers n (Cons car cdr) (Root r) e = absurd cc
part_refers n (Block code fields) (Field i) e = refers_at n fields i (is_ref-of n (value_at fields i) e)
part_refers n (Block code fields) Car e = absurd cc
part_refers n (Block code fields) Cdr e = absurd cc
part_refers n (Block code fields) (Root r) e = absurd cc

-- a part refers to an object that is referred to
pub refers_part : (n : ℕ) (b : Body) → body_refers n b ≡ true → (p : Part) × (value_in b p ≡ Ref n)
refers_part n (Cons car cdr) e = elim (or_cases (is_ref n car) (is_ref n cdr) e) [
  | inl x ↦ (Car, ref_of n car x)
  | inr x ↦ (Cdr, ref_of n cdr x)
]
refers_part n (Block code fields) e = (let r = refers_which n fields e in (Field r.0, r.1))

pub register_refers : (n : ℕ) (registers : List Value) (p : Part) → register_value registers p ≡ Ref n → refers_in n registers ≡ true
register_refers n registers (Root r) e = refers_at n registers r (is_ref-of n (value_at registers r) e)
register_refers n registers Car e = absurd cc
register_refers n registers Cdr e = absurd cc
register_refers n registers (Field i) e = absurd cc

-- Members of a list

pub contains_head : {A : Type 0} (x : A) (xs : List A) → Contains (x ∷ xs) x
contains_head x xs = (0, omega arith, refl)

pub contains_tail : {A : Type 0} (x y : A) (xs : List A) → Contains xs y → Contains (x ∷ xs) y
contains_tail x y xs c = (suc c.0, (let l = c.1 in omega arith), c.2)

pub contains_cases : {A : Type 0} (x y : A) (xs : List A) → Contains (x ∷ xs) y → (x ≡ y) ⊎ Contains xs y
contains_cases x y xs c = at c.0 c.1 c.2
  where
    at : (k : ℕ) → k < length (x ∷ xs) → get_or (x ∷ xs) k y ≡ y → (x ≡ y) ⊎ Contains xs y
    at zero l e = inl e
    at (suc k) l e = inr (k, omega arith, e)

pub contains_none : {A : Type 0} (x : A) → Contains [] x → ⊥
contains_none x c = let l = c.1 in absurd (omega arith)

-- Parts of objects

pub all_parts_refer : (objects : List Object) (names : List ℕ) (from to : ℕ) → Contains names from → body_refers to (object_at objects from).body ≡ true → refers_in to (all_parts objects names) ≡ true
all_parts_refer objects [] from to c e = absurd (contains_none from c)
all_parts_refer objects (name ∷ names) from to c e = elim (contains_cases name from names c) [
  | inl same ↦ refers_left to (parts_of (object_at objects name).body) (all_parts objects names) (parts_refer to (object_at objects name).body ∙ ap (λ (m : ℕ). body_refers to (object_at objects m).body) same ∙ e)
  | inr there ↦ refers_right to (parts_of (object_at objects name).body) (all_parts objects names) (all_parts_refer objects names from to there e)
]

pub all_parts_which : (objects : List Object) (names : List ℕ) (to : ℕ) → refers_in to (all_parts objects names) ≡ true
    → (from : ℕ) × Contains names from × (body_refers to (object_at objects from).body ≡ true)
all_parts_which objects [] to e = absurd (refers_none to e)
all_parts_which objects (name ∷ names) to e = elim (refers_split to (parts_of (object_at objects name).body) (all_parts objects names) e) [
  | inl x ↦ (name, contains_head name names, sym (parts_refer to (object_at objects name).body) ∙ x)
  | inr x ↦ (let r = all_parts_which objects names to x in (r.0, contains_tail name r.0 names r.1, r.2))
]
