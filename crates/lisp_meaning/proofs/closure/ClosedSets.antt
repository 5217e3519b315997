-- Closed sets of names, and which changes of a graph keep them closed.
use Rattle.std.proofs.Common.{◌≡◌, ℕ, zero, suc, ◌+◌, ◌-◌, ◌<◌, ◌≤◌, ◌⊎◌, inl, inr, Bool, true, false, ◌||◌, refl, sym, ◌∙◌, ap, arith, List, [], ◌∷◌, ◌++◌, length, get_or, set}
use Rattle.std.proofs.lemmas.Bool.{cases_eq, cases_lt, or_cases, or_left, or_right, eqb-true}
use Rattle.std.proofs.lemmas.List.{get_or-set_same, get_or-set_other, length-append, get_or-append-add}
use Rattle.std.proofs.Math.ListN.{length-set, get_or-append}
use Rattle.lisp_graph.specs.declared.object.Value.{Value}
use Rattle.lisp_graph.specs.declared.object.Value.TheVariants as V
use Rattle.lisp_graph.specs.declared.object.Body.{Body}
use Rattle.lisp_graph.specs.declared.object.Body.TheVariants.{Cons, Block}
use Rattle.lisp_graph.specs.declared.object.Object.{Object}
use Rattle.lisp_graph.specs.Graph.{Graph, no_object, object_at, value_at, is_ref, refers_in, body_refers}
use Rattle.lisp_graph.specs.Effect.{with_register, with_object}
use Rattle.lisp_meaning.specs.machine.Reach.{Closed}

refers_in-nil : (n : ℕ) → refers_in n [] ≡ false
unfolding refers_in
refers_in-nil n = refl

pub refers_in-cons : (n : ℕ) (v : Value) (vs : List Value) → refers_in n (v ∷ vs) ≡ (is_ref n v || refers_in n vs)
unfolding refers_in
refers_in-cons n v vs = refl

-- a list refers to what one of its values refers to
pub refers_at : (n : ℕ) (vs : List Value) (i : ℕ) → is_ref n (get_or vs i V.Nil) ≡ true → refers_in n vs ≡ true
refers_at n [] i e = cc
refers_at n (v ∷ vs) zero e = refers_in-cons n v vs ∙ or_left (is_ref n v) (refers_in n vs) e
refers_at n (v ∷ vs) (suc i) e = refers_in-cons n v vs ∙ or_right (is_ref n v) (refers_in n vs) (refers_at n vs i e)

-- a set has all that the values of a list refer to if it has what each refers to
pub refers_each : (K : ℕ → Bool) (vs : List Value) → ((i n : ℕ) → i < length vs → is_ref n (get_or vs i V.Nil) ≡ true → K n ≡ true) → (n : ℕ) → refers_in n vs ≡ true → K n ≡ true
refers_each K [] h n e = let x = refers_in-nil n in cc
refers_each K (v ∷ vs) h n e = go (or_cases (is_ref n v) (refers_in n vs) (sym (refers_in-cons n v vs) ∙ e)) (refers_each K vs (λ i m l r. h (suc i) m (omega arith) r) n)
  where
    go : (is_ref n v ≡ true) ⊎ (refers_in n vs ≡ true) → (refers_in n vs ≡ true → K n ≡ true) → K n ≡ true
    go (inl x) rest = h zero n (omega arith) x
    go (inr x) rest = rest x

-- after one value was set
pub refers_set : (n : ℕ) (vs : List Value) (i : ℕ) (w : Value) → refers_in n (set vs i w) ≡ true → (is_ref n w ≡ true) ⊎ (refers_in n vs ≡ true)
refers_set n [] i w e = inr e
refers_set n (v ∷ vs) zero w e = go (or_cases (is_ref n w) (refers_in n vs) (sym (refers_in-cons n w vs) ∙ e))
  where
    go : (is_ref n w ≡ true) ⊎ (refers_in n vs ≡ true) → (is_ref n w ≡ true) ⊎ (refers_in n (v ∷ vs) ≡ true)
    go (inl x) = inl x
    go (inr x) = inr (refers_in-cons n v vs ∙ or_right (is_ref n v) (refers_in n vs) x)
refers_set n (v ∷ vs) (suc i) w e = go (or_cases (is_ref n v) (refers_in n (set vs i w)) (sym (refers_in-cons n v (set vs i w)) ∙ e)) (refers_set n vs i w)
  where
    go : (is_ref n v ≡ true) ⊎ (refers_in n (set vs i w) ≡ true) → (refers_in n (set vs i w) ≡ true → (is_ref n w ≡ true) ⊎ (refers_in n vs ≡ true)) → (is_ref n w ≡ true) ⊎ (refers_in n (v ∷ vs) ≡ true)
    go (inl x) r = inr (refers_in-cons n v vs ∙ or_left (is_ref n v) (refers_in n vs) x)
    go (inr x) r = last (r x)
      where
        last : (is_ref n w ≡ true) ⊎ (refers_in n vs ≡ true) → (is_ref n w ≡ true) ⊎ (refers_in n (v ∷ vs) ≡ true)
        last (inl y) = inl y
        last (inr y) = inr (refers_in-cons n v vs ∙ or_right (is_ref n v) (refers_in n vs) y)

-- a set has all that a value, or an object, refers to
abbrev pub Inside : (ℕ → Bool) → Value → Type 0
Inside K v = (n : ℕ) → is_ref n v ≡ true → K n ≡ true

abbrev pub BodyInside : (ℕ → Bool) → Body → Type 0
BodyInside K b = (n : ℕ) → body_refers n b ≡ true → K n ≡ true

pub nil_inside : (K : ℕ → Bool) → Inside K V.Nil
nil_inside K n e = cc

-- it has a name that a value refers to, and all that it has is referred to so
pub ref_inside : (K : ℕ → Bool) (m : ℕ) → K m ≡ true → Inside K (V.Ref m)
ref_inside K m k n e = ap K (sym (eqb-true m n e)) ∙ k

pub is_ref-same : (n : ℕ) → is_ref n (V.Ref n) ≡ true
is_ref-same n = Rattle.std.proofs.lemmas.Bool.eq-eqb n n refl

pub cons_inside : (K : ℕ → Bool) (car cdr : Value) → Inside K car → Inside K cdr → BodyInside K (Cons car cdr)
cons_inside K car cdr i j n e = go (or_cases (is_ref n car) (is_ref n cdr) e)
  where
    go : (is_ref n car ≡ true) ⊎ (is_ref n cdr ≡ true) → K n ≡ true
    go (inl x) = i n x
    go (inr x) = j n x

-- What a closed set has

module _ (g : Graph) (K : ℕ → Bool) (closed : Closed g K) where
  pub register_inside : (r : ℕ) → Inside K (value_at g.registers r)
  register_inside r n e = closed.from_registers n (refers_at n g.registers r e)

  -- an object that a register refers to
  pub named_inside : (r m : ℕ) → value_at g.registers r ≡ V.Ref m → K m ≡ true
  named_inside r m e = register_inside r m (ap (is_ref m) e ∙ is_ref-same m)

  module _ (m : ℕ) (below : m < length g.objects) (has : K m ≡ true) where
    pub body_inside : BodyInside K (object_at g.objects m).body
    body_inside n e = closed.from_objects m n below has e

    pub car_inside : (car cdr : Value) → (object_at g.objects m).body ≡ Cons car cdr → Inside K car
    car_inside car cdr b n e = body_inside n (ap (body_refers n) b ∙ or_left (is_ref n car) (is_ref n cdr) e)

    pub cdr_inside : (car cdr : Value) → (object_at g.objects m).body ≡ Cons car cdr → Inside K cdr
    cdr_inside car cdr b n e = body_inside n (ap (body_refers n) b ∙ or_right (is_ref n car) (is_ref n cdr) e)

    pub field_inside : (code : ℕ) (fields : List Value) (i : ℕ) → (object_at g.objects m).body ≡ Block code fields → Inside K (value_at fields i)
    field_inside code fields i b n e = body_inside n (ap (body_refers n) b ∙ refers_at n fields i e)

-- Changes

-- a set that agrees on the graph's names, and has more
pub record Extends (K K' : ℕ → Bool) (count : ℕ) : Type 0 where
  pub up : (n : ℕ) → K n ≡ true → K' n ≡ true
  pub down : (n : ℕ) → n < count → K' n ≡ true → K n ≡ true

pub extends_same : (K : ℕ → Bool) (count : ℕ) → Extends K K count
extends_same K count = record { up = λ n e. e; down = λ n l e. e }

module _ (g : Graph) (K K' : ℕ → Bool) (closed : Closed g K) (extends : Extends K K' (length g.objects)) where
  pub closed_same : Closed g K'
  closed_same = record {
    from_registers = λ n e. extends.up n (closed.from_registers n e);
    from_objects = λ m n l k e. extends.up n (closed.from_objects m n l (extends.down m l k) e);
  }

  pub closed_register : (to : ℕ) (v : Value) → Inside K v → Closed (with_register g to v) K'
  closed_register to v i = record {
    from_registers = λ n e. go n (refers_set n g.registers to v e);
    from_objects = λ m n l k e. extends.up n (closed.from_objects m n l (extends.down m l k) e);
  }
    where
      go : (n : ℕ) → (is_ref n v ≡ true) ⊎ (refers_in n g.registers ≡ true) → K' n ≡ true
      go n (inl x) = extends.up n (i n x)
      go n (inr x) = extends.up n (closed.from_registers n x)

  pub closed_object : (m : ℕ) (o : Object) → BodyInside K o.body → Closed (with_object g m o) K'
  closed_object m o i = record {
    from_registers = λ n e. extends.up n (closed.from_registers n e);
    from_objects = λ p n l k e. extends.up n (go p n (let z = length-set g.objects m o in omega arith) (extends.down p (let z = length-set g.objects m o in omega arith) k) e (cases_eq p m));
  }
    where
      go : (p n : ℕ) → p < length g.objects → K p ≡ true → body_refers n (object_at (set g.objects m o) p).body ≡ true → (p ≡ m) ⊎ (p ≡ m → ⊥) → K n ≡ true
      go p n l k e (inl z) =
          let same : object_at (set g.objects m o) p ≡ o = ap (λ (i : ℕ). get_or (set g.objects m o) i no_object) z ∙ get_or-set_same g.objects m o no_object (omega arith) in
          i n (sym (ap (λ (x : Object). body_refers n x.body) same) ∙ e)
      go p n l k e (inr ne) =
          let same : object_at (set g.objects m o) p ≡ object_at g.objects p = get_or-set_other g.objects m p o no_object ne in
          closed.from_objects p n l k (sym (ap (λ (x : Object). body_refers n x.body) same) ∙ e)

  -- new objects whose parts are inside
  pub closed_made : (registers : List Value) (made : List Object) → ((n : ℕ) → refers_in n registers ≡ true → K' n ≡ true)
      → ((i : ℕ) → i < length made → BodyInside K' (object_at made i).body) → Closed (record { registers = registers; objects = g.objects ++ made }) K'
  closed_made registers made r i = record {
    from_registers = r;
    from_objects = λ p n l k e. go p n l k e (cases_lt p (length g.objects));
  }
    where
      go : (p n : ℕ) → p < length (g.objects ++ made) → K' p ≡ true → body_refers n (object_at (g.objects ++ made) p).body ≡ true → (p < length g.objects) ⊎ (length g.objects ≤ p) → K' n ≡ true
      go p n l k e (inl h) =
          let same : object_at (g.objects ++ made) p ≡ object_at g.objects p = get_or-append g.objects made no_object p h in
          extends.up n (closed.from_objects p n h (extends.down p h k) (sym (ap (λ (x : Object). body_refers n x.body) same) ∙ e))
      go p n l k e (inr h) =
          let z = length-append g.objects made in
          let q : length g.objects + (p - length g.objects) ≡ p = omega arith in
          let same : object_at (g.objects ++ made) p ≡ object_at made (p - length g.objects) =
          ap (λ (j : ℕ). get_or (g.objects ++ made) j no_object) (sym q) ∙ get_or-append-add g.objects made (p - length g.objects) no_object in
          i (p - length g.objects) (omega arith) n (sym (ap (λ (x : Object). body_refers n x.body) same) ∙ e)
