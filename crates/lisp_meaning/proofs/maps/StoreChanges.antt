-- What the changes of a store do to its names and objects.
use Rattle.std.proofs.Common.{◌≡◌, ℕ, zero, suc, ◌+◌, ◌<◌, ◌≤◌, ◌⊎◌, inl, inr, refl, sym, ◌∙◌, ap, arith, Some, List, [], ◌∷◌, ◌++◌, length, get_or, set, replicate}
use Rattle.std.specs.Prelude.{slice_get, is_some}
use Rattle.std.proofs.lemmas.Bool.{cases_lt}
use Rattle.std.proofs.lemmas.List.{get_or-set_same, get_or-set_other, length-append, get_or-append-add, get_or_past, get_or-replicate, length-replicate}
use Rattle.std.proofs.lemmas.Option.{slice_get-get_or}
use Rattle.std.proofs.Math.ListN.{length-set, get_or-append}
use Rattle.lisp_graph.specs.declared.object.Value.TheVariants as V
use Rattle.lisp_graph.specs.Effect.{cell_of, list_from}
use Rattle.lisp_graph.specs.Graph.{no_object}
use Rattle.lisp_graph.specs.declared.object.Body.{Body}
use Rattle.lisp_graph.specs.declared.object.Object.{Object}
use Rattle.lisp_graph.specs.declared.object.Value.{Value}
use Rattle.lisp_meaning.specs.machine.Changes.{put_object, put_body, with_made, with_grown}
use Rattle.lisp_meaning.specs.invariants.Roles.{kind_of}
use Rattle.lisp_meaning.specs.machine.State.{Store, object, in_use}
use Rattle.lisp_meaning.proofs.closure.HeldNames.{holding-new, holding-old, holding-past}
use Rattle.lisp_meaning.proofs.layout.Stores.{Stored}

-- Another object for a name

pub object_put : (t : Store) (n : ℕ) (o : Object) → n < length t.objects → object (put_object t n o) n ≡ o
object_put t n o l = get_or-set_same t.objects n o no_object l

pub object_kept : (t : Store) (n : ℕ) (o : Object) (m : ℕ) → (m ≡ n → ⊥) → object (put_object t n o) m ≡ object t m
object_kept t n o m ne = get_or-set_other t.objects n m o no_object ne

-- another body of its kind
pub stored_body : (t : Store) (n : ℕ) (b : Body) → n < length t.objects → kind_of b ≡ kind_of (object t n).body → Stored t (put_body t n b) n
stored_body t n b l kind = record {
  uses = λ m u. u;
  news = λ m u. u;
  same = λ m ne. object_kept t n (record (object t n) { body = b }) m ne;
  charge = ap (λ (o : Object). o.charge) (object_put t n (record (object t n) { body = b }) l);
  kind = ap (λ (o : Object). kind_of o.body) (object_put t n (record (object t n) { body = b }) l) ∙ kind;
}

pub body_put : (t : Store) (n : ℕ) (b : Body) → n < length t.objects → (object (put_body t n b) n).body ≡ b
body_put t n b l = ap (λ (o : Object). o.body) (object_put t n (record (object t n) { body = b }) l)

-- another field
pub field_set : (fields : List Value) (i : ℕ) (v : Value) → i < length fields → slice_get (set fields i v) i ≡ Some v
field_set fields i v l = slice_get-get_or (set fields i v) i V.Nil (let z = length-set fields i v in omega arith) ∙ ap (λ (x : Value). Some x) (get_or-set_same fields i v V.Nil l)

pub field_kept : (fields : List Value) (i : ℕ) (v : Value) (j : ℕ) → (j ≡ i → ⊥) → slice_get (set fields i v) j ≡ slice_get fields j
field_kept [] i v j ne = refl
field_kept (x ∷ xs) zero v zero ne = absurd (ne refl)
field_kept (x ∷ xs) zero v (suc j) ne = refl
field_kept (x ∷ xs) (suc i) v zero ne = refl
field_kept (x ∷ xs) (suc i) v (suc j) ne = field_kept xs i v j (λ (z : j ≡ i). ne (ap suc z))

-- New names

module _ (t : Store) (made : List Object) (level : ℕ) where
  pub made_size : length (with_made t made level).objects ≡ length t.objects + length made
  made_size = length-append t.objects made

  pub made_old : (m : ℕ) → m < length t.objects → object (with_made t made level) m ≡ object t m
  made_old m l = get_or-append t.objects made no_object m l

  pub made_new : (i : ℕ) → object (with_made t made level) (length t.objects + i) ≡ get_or made i no_object
  made_new i = get_or-append-add t.objects made i no_object

  pub made_same : (m : ℕ) → ((length t.objects ≤ m) × (m < length t.objects + length made) → ⊥) → object (with_made t made level) m ≡ object t m
  made_same m out = go (cases_lt m (length t.objects)) (cases_lt m (length t.objects + length made))
    where
      go : (m < length t.objects) ⊎ (length t.objects ≤ m) → (m < length t.objects + length made) ⊎ (length t.objects + length made ≤ m) → object (with_made t made level) m ≡ object t m
      go (inl l) h = made_old m l
      go (inr l) (inl h) = absurd (out (l, h))
      go (inr l) (inr h) = get_or_past (t.objects ++ made) m no_object (let z = length-append t.objects made in omega arith) ∙ sym (get_or_past t.objects m no_object l)

  pub held_old : (m : ℕ) → ((length t.objects ≤ m) × (m < length t.objects + length made) → ⊥) → (with_made t made level).held m ≡ t.held m
  held_old m out = go (cases_lt m (length t.objects))
    where
      go : (m < length t.objects) ⊎ (length t.objects ≤ m) → (with_made t made level).held m ≡ t.held m
      go (inl l) = holding-old t.held (length t.objects) (length (t.objects ++ made)) level m l
      go (inr l) = holding-past t.held (length t.objects) (length (t.objects ++ made)) level m (go2 (cases_lt m (length t.objects + length made)))
        where
          go2 : (m < length t.objects + length made) ⊎ (length t.objects + length made ≤ m) → length (t.objects ++ made) ≤ m
          go2 (inl h) = absurd (out (l, h))
          go2 (inr h) = let z = length-append t.objects made in omega arith

  pub held_new : (m : ℕ) → length t.objects ≤ m → m < length t.objects + length made → (with_made t made level).held m ≡ Some level
  held_new m l h = holding-new t.held (length t.objects) (length (t.objects ++ made)) level m l (let z = length-append t.objects made in omega arith)

  pub made_used : (i : ℕ) → i < length made → in_use (with_made t made level) (length t.objects + i)
  made_used i l = ap is_some (held_new (length t.objects + i) (omega arith) (omega arith))

  -- if names that are held are below the next name
  module _ (below : (n : ℕ) → in_use t n → n < length t.objects) where
    pub made_uses : (m : ℕ) → in_use t m → in_use (with_made t made level) m
    made_uses m u = ap is_some (held_old m (λ x. let l = x.0 in let b = below m u in omega arith)) ∙ u

    pub made_fresh : (i : ℕ) → in_use t (length t.objects + i) → ⊥
    made_fresh i u = let b = below (length t.objects + i) u in omega arith

  pub made_news : (m : ℕ) → in_use (with_made t made level) m → ((length t.objects ≤ m) × (m < length t.objects + length made) → ⊥) → in_use t m
  made_news m u out = ap is_some (sym (held_old m out)) ∙ u

-- The conses of a list

pub list_inner : (area n : ℕ) (vs : List Value) (i : ℕ) → suc i < length vs → get_or (list_from area n vs) i no_object ≡ cell_of area (get_or vs i V.Nil) (V.Ref (n + suc i))
unfolding list_from
list_inner area n [] i l = absurd (omega arith)
list_inner area n (v ∷ []) i l = absurd (omega arith)
list_inner area n (v ∷ (w ∷ vs)) zero l = ap (λ (m : ℕ). cell_of area v (V.Ref m)) (let z : suc n ≡ n + 1 = omega arith in z)
list_inner area n (v ∷ (w ∷ vs)) (suc i) l =
    list_inner area (suc n) (w ∷ vs) i (omega arith)
    ∙ ap (λ (m : ℕ). cell_of area (get_or (w ∷ vs) i V.Nil) (V.Ref m)) (let z : suc n + suc i ≡ n + suc (suc i) = omega arith in z)

pub list_last : (area n : ℕ) (vs : List Value) (i : ℕ) → suc i ≡ length vs → get_or (list_from area n vs) i no_object ≡ cell_of area (get_or vs i V.Nil) V.Nil
unfolding list_from
list_last area n [] i l = absurd (omega arith)
list_last area n (v ∷ []) zero l = refl
list_last area n (v ∷ []) (suc i) l = absurd (omega arith)
list_last area n (v ∷ (w ∷ vs)) zero l = absurd (omega arith)
list_last area n (v ∷ (w ∷ vs)) (suc i) l = list_last area (suc n) (w ∷ vs) i (omega arith)

-- A wider block

pub wide_old : (fields : List Value) (more j : ℕ) → j < length fields → slice_get (fields ++ replicate more V.Nil) j ≡ slice_get fields j
wide_old fields more j l =
    slice_get-get_or (fields ++ replicate more V.Nil) j V.Nil (let z = length-append fields (replicate more V.Nil) in omega arith)
    ∙ ap (λ (x : Value). Some x) (get_or-append fields (replicate more V.Nil) V.Nil j l) ∙ sym (slice_get-get_or fields j V.Nil l)

pub wide_new : (fields : List Value) (more i : ℕ) → i < more → slice_get (fields ++ replicate more V.Nil) (length fields + i) ≡ Some V.Nil
wide_new fields more i l =
    slice_get-get_or (fields ++ replicate more V.Nil) (length fields + i) V.Nil (let z = length-append fields (replicate more V.Nil) in let y = length-replicate more V.Nil in omega arith)
    ∙ ap (λ (x : Value). Some x) (get_or-append-add fields (replicate more V.Nil) i V.Nil ∙ get_or-replicate more i V.Nil V.Nil l)

pub wide_size : (fields : List Value) (more : ℕ) → length (fields ++ replicate more V.Nil) ≡ length fields + more
wide_size fields more = let z = length-append fields (replicate more V.Nil) in let y = length-replicate more V.Nil in omega arith

pub grown_put : (t : Store) (n : ℕ) (o : Object) (area level words : ℕ) → n < length t.objects → object (with_grown t n o area level words) n ≡ o
grown_put t n o area level words l = get_or-set_same t.objects n o no_object l

pub grown_kept : (t : Store) (n : ℕ) (o : Object) (area level words m : ℕ) → (m ≡ n → ⊥) → object (with_grown t n o area level words) m ≡ object t m
grown_kept t n o area level words m ne = get_or-set_other t.objects n m o no_object ne
