-- What a command does to the graph keeps each closed set closed, with the new names added.
use Rattle.std.proofs.Common.{◌≡◌, ℕ, zero, suc, ◌+◌, ◌-◌, ◌*◌, ◌<◌, ◌≤◌, ◌⊎◌, inl, inr, Bool, true, refl, sym, subst, ◌∙◌, ap, arith, List, [], ◌∷◌, ◌++◌, length, get_or, set, map, replicate, Option, Some, None, nat_lt}
use Rattle.std.specs.Prelude.{nat_le, IfSome, is_some, if◌then◌else◌, pos}
use Rattle.std.proofs.lemmas.Bool.{cases_lt, cond_both}
use Rattle.std.proofs.lemmas.List.{length-append, length-map, get_or-append-add, get_or-replicate, length-replicate}
use Rattle.std.proofs.Math.ListN.{length-set, get_or-append}
use Rattle.lisp_graph.specs.declared.object.Value.{Value}
use Rattle.lisp_graph.specs.declared.object.Value.TheVariants as V
use Rattle.lisp_graph.specs.declared.object.Body.{Body}
use Rattle.lisp_graph.specs.declared.object.Body.TheVariants.{Cons, Block}
use Rattle.lisp_graph.specs.declared.object.Object.{Object}
use Rattle.lisp_graph.specs.declared.command.Command.{Command}
use Rattle.lisp_graph.specs.declared.command.Command.TheVariants as C
use Rattle.lisp_graph.specs.declared.reply.Reply.{Reply}
use Rattle.lisp_graph.specs.declared.reply.Reply.TheVariants as R
use Rattle.lisp_graph.specs.Graph.{Graph, object_at, value_at, same_value, is_ref, refers_in, body_refers}
use Rattle.lisp_graph.specs.Effect.{Effect, effect, with_register, with_body, cell_of, link, list_from, answered, made, grown, grown_length, grown_block, when_cons, when_block, when_field, fetched, stored}
use Rattle.lisp_graph.proofs.GraphInvariant.{length-list_from}
use Rattle.lisp_meaning.specs.machine.Reach.{Closed}
use Rattle.lisp_meaning.specs.machine.Sound.{IsAllowed}
use Rattle.lisp_meaning.proofs.closure.ClosedSets.{refers_at, refers_each, refers_set, Inside, BodyInside, nil_inside, ref_inside, cons_inside, register_inside, named_inside, body_inside, car_inside, cdr_inside, Extends, closed_same, closed_register, closed_object, closed_made}

-- Cases

-- a fact on what is done with a cons, from the cons that it is, or else
pub when_cons-elim : {A : Type 0} (P : A → Type 0) (objects : List Object) (v : Value) (found : ℕ → Value → Value → A) (other : A)
    → ((n : ℕ) (car cdr : Value) → v ≡ V.Ref n → (object_at objects n).body ≡ Cons car cdr → P (found n car cdr)) → P other → P (when_cons objects v found other)
when_cons-elim P objects (V.Fix i) found other f o = o
when_cons-elim P objects V.Nil found other f o = o
when_cons-elim P objects (V.Ref n) found other f o = go (object_at objects n).body (λ car cdr e. f n car cdr refl e)
  where
    go : (b : Body) → ((car cdr : Value) → b ≡ Cons car cdr → P (found n car cdr)) → P (Rattle.lisp_graph.specs.Effect.when_cons_body b (found n) other)
    go (Cons car cdr) f = f car cdr refl
    go (Block code fields) f = o

pub when_block-elim : {A : Type 0} (P : A → Type 0) (objects : List Object) (v : Value) (found : ℕ → ℕ → List Value → A) (other : A)
    → ((n code : ℕ) (fields : List Value) → v ≡ V.Ref n → (object_at objects n).body ≡ Block code fields → P (found n code fields)) → P other → P (when_block objects v found other)
when_block-elim P objects (V.Fix i) found other f o = o
when_block-elim P objects V.Nil found other f o = o
when_block-elim P objects (V.Ref n) found other f o = go (object_at objects n).body (λ code fields e. f n code fields refl e)
  where
    go : (b : Body) → ((code : ℕ) (fields : List Value) → b ≡ Block code fields → P (found n code fields)) → P (Rattle.lisp_graph.specs.Effect.when_block_body b (found n) other)
    go (Cons car cdr) f = o
    go (Block code fields) f = f code fields refl

-- The conses of a list

list_from-cons : (area n : ℕ) (v : Value) (vs : List Value) → list_from area n (v ∷ vs) ≡ cell_of area v (link n vs) ∷ list_from area (suc n) vs
unfolding list_from
list_from-cons area n v vs = refl

-- their parts are inside a set that has what the cars refer to, and their own names
pub list_inside : (K : ℕ → Bool) (area n : ℕ) (vs : List Value) → ((i : ℕ) → Inside K (get_or vs i V.Nil)) → ((m : ℕ) → n ≤ m → m < n + length vs → K m ≡ true)
    → (i : ℕ) → i < length (list_from area n vs) → BodyInside K (object_at (list_from area n vs) i).body
list_inside K area n [] cars names i l m e = absurd (let z = length-list_from area n [] in omega arith)
list_inside K area n (v ∷ vs) cars names zero l m e =
    cons_inside K v (link n vs) (cars zero) (next vs (λ q. names (suc n) (omega arith) (omega arith))) m
    (sym (ap (λ (xs : List Object). body_refers m (object_at xs zero).body) (list_from-cons area n v vs)) ∙ e)
  where
    next : (ws : List Value) → (0 < length ws → K (suc n) ≡ true) → Inside K (link n ws)
    next [] has = nil_inside K
    next (w ∷ ws) has = ref_inside K (suc n) (has (omega arith))
list_inside K area n (v ∷ vs) cars names (suc i) l m e =
    list_inside K area (suc n) vs (λ j. cars (suc j)) (λ p a b. names p (omega arith) (omega arith)) i
    (let y = length-list_from area n (v ∷ vs) in let z = length-list_from area (suc n) vs in omega arith) m
    (sym (ap (λ (xs : List Object). body_refers m (object_at xs (suc i)).body) (list_from-cons area n v vs)) ∙ e)

map_inside : (K : ℕ → Bool) (registers : List Value) → ((r : ℕ) → Inside K (value_at registers r)) → (items : List ℕ) (i : ℕ) → Inside K (get_or (map (value_at registers) items) i V.Nil)
map_inside K registers h [] i = nil_inside K
map_inside K registers h (r ∷ rs) zero = h r
map_inside K registers h (r ∷ rs) (suc i) = map_inside K registers h rs i

nil_at : (count i : ℕ) → get_or (replicate count V.Nil) i V.Nil ≡ V.Nil
nil_at zero i = refl
nil_at (suc count) zero = refl
nil_at (suc count) (suc i) = nil_at count i

nils_inside : (K : ℕ → Bool) (count n : ℕ) → refers_in n (replicate count V.Nil) ≡ true → K n ≡ true
nils_inside K count = refers_each K (replicate count V.Nil) (λ i n l e. nil_inside K n (ap (is_ref n) (sym (get_or-replicate count i V.Nil V.Nil (let z = length-replicate count V.Nil in omega arith))) ∙ e))

-- Effects

-- the names past the graph's that an effect makes are in the set
abbrev pub HasNew : Graph → (ℕ → Bool) → Effect → Type 0
HasNew g K e = (n : ℕ) → length g.objects ≤ n → n < length e.graph.objects → K n ≡ true

-- the set is closed after an effect, if it has the new names
abbrev pub ClosedAfter : Graph → (ℕ → Bool) → Effect → Type 0
ClosedAfter g K e = HasNew g K e → Closed e.graph K

module _ (g : Graph) (K K' : ℕ → Bool) (closed : Closed g K) (extends : Extends K K' (length g.objects)) (below : (n : ℕ) → K n ≡ true → n < length g.objects) where
  reg : (r : ℕ) → Inside K (value_at g.registers r)
  reg r = register_inside g K closed r

  has : (r m : ℕ) → value_at g.registers r ≡ V.Ref m → K m ≡ true
  has r m e = named_inside g K closed r m e

  stays : (e : _) → ClosedAfter g K' (answered e g)
  stays e h = closed_same g K K' closed extends

  sets : (e : _) (to : ℕ) (v : Value) → Inside K v → ClosedAfter g K' (answered e (with_register g to v))
  sets e to v i h = closed_register g K K' closed extends to v i

  fetches : (to : ℕ) (v : Value) → Inside K v → ClosedAfter g K' (fetched g to v)
  fetches to v i h = closed_register g K K' closed extends to v i

  stores : (m : ℕ) (b : Body) → BodyInside K b → ClosedAfter g K' (stored g m b)
  stores m b i h = closed_object g K K' closed extends m (record (object_at g.objects m) { body = b }) i

  field_stores : (m r i : ℕ) (code : ℕ) (fields : List Value) (v : Value) → K m ≡ true → (object_at g.objects m).body ≡ Block code fields → Inside K v → BodyInside K (Block code (set fields i v))
  field_stores m r i code fields v k b j n e = go (refers_set n fields i v e)
    where
      go : (is_ref n v ≡ true) ⊎ (refers_in n fields ≡ true) → K n ≡ true
      go (inl x) = j n x
      go (inr x) = body_inside g K closed m (below m k) k n (ap (body_refers n) b ∙ x)

  makes : (to area charge : ℕ) (objects : List Object) → ((i : ℕ) → i < length objects → BodyInside K' (object_at objects i).body) → 0 < length objects → ClosedAfter g K' (made g to area charge objects)
  makes to area charge objects i some h = closed_made g K K' closed extends (set g.registers to (V.Ref (length g.objects))) objects
      (λ n e. go n (refers_set n g.registers to (V.Ref (length g.objects)) e)) i
    where
      go : (n : ℕ) → (is_ref n (V.Ref (length g.objects)) ≡ true) ⊎ (refers_in n g.registers ≡ true) → K' n ≡ true
      go n (inl x) = ref_inside K' (length g.objects) (h (length g.objects) (omega arith) (let z = length-append g.objects objects in omega arith)) n x
      go n (inr x) = extends.up n (closed.from_registers n x)

  one_inside : (o : Object) → BodyInside K o.body → (i : ℕ) → i < length (o ∷ []) → BodyInside K' (object_at (o ∷ []) i).body
  one_inside o b zero l n e = extends.up n (b n e)
  one_inside o b (suc i) l n e = absurd (omega arith)

  car_in : (r m : ℕ) (car cdr : Value) → value_at g.registers r ≡ V.Ref m → (object_at g.objects m).body ≡ Cons car cdr → Inside K car
  car_in r m car cdr e b = car_inside g K closed m (below m (has r m e)) (has r m e) car cdr b

  cdr_in : (r m : ℕ) (car cdr : Value) → value_at g.registers r ≡ V.Ref m → (object_at g.objects m).body ≡ Cons car cdr → Inside K cdr
  cdr_in r m car cdr e b = cdr_inside g K closed m (below m (has r m e)) (has r m e) car cdr b

  fields_in : (r m code : ℕ) (fields : List Value) → value_at g.registers r ≡ V.Ref m → (object_at g.objects m).body ≡ Block code fields → BodyInside K (Block code fields)
  fields_in r m code fields e b n f = body_inside g K closed m (below m (has r m e)) (has r m e) n (ap (body_refers n) b ∙ f)

  wider : (m r code : ℕ) (fields : List Value) (more : ℕ) → value_at g.registers r ≡ V.Ref m → (object_at g.objects m).body ≡ Block code fields → BodyInside K (Block code (fields ++ replicate more V.Nil))
  wider m r code fields more e b = refers_each K (fields ++ replicate more V.Nil) (λ i n l f. part i n f (cases_lt i (length fields)))
    where
      part : (i n : ℕ) → is_ref n (get_or (fields ++ replicate more V.Nil) i V.Nil) ≡ true → (i < length fields) ⊎ (length fields ≤ i) → K n ≡ true
      part i n f (inl l) =
          fields_in r m code fields e b n (refers_at n fields i (sym (ap (is_ref n) (get_or-append fields (replicate more V.Nil) V.Nil i l)) ∙ f))
      part i n f (inr l) =
          let q : length fields + (i - length fields) ≡ i = omega arith in
          let z = ap (λ (j : ℕ). get_or (fields ++ replicate more V.Nil) j V.Nil) (sym q) ∙ get_or-append-add fields (replicate more V.Nil) (i - length fields) V.Nil ∙ nil_at more (i - length fields) in
          nil_inside K n (sym (ap (is_ref n) z) ∙ f)

  grows : (r m code : ℕ) (fields : List Value) (wanted : ℕ) → value_at g.registers r ≡ V.Ref m → (object_at g.objects m).body ≡ Block code fields → ClosedAfter g K' (grown g m code fields wanted)
  grows r m code fields wanted e b =
      cond_both (nat_le wanted (length fields)) _ _ (ClosedAfter g K') (λ t. stays R.Fine)
      (λ t h. closed_object g K K' closed extends m (grown_block (object_at g.objects m).area code fields (grown_length (length fields) wanted))
      (wider m r code fields (grown_length (length fields) wanted - length fields) e b))

  by_cons : (r : ℕ) (found : ℕ → Value → Value → Effect)
      → ((m : ℕ) (car cdr : Value) → value_at g.registers r ≡ V.Ref m → (object_at g.objects m).body ≡ Cons car cdr → ClosedAfter g K' (found m car cdr))
      → ClosedAfter g K' (when_cons g.objects (value_at g.registers r) found (answered R.WrongType g))
  by_cons r found f = when_cons-elim (ClosedAfter g K') g.objects (value_at g.registers r) found (answered R.WrongType g) f (stays R.WrongType)

  by_block : (r : ℕ) (found : ℕ → ℕ → List Value → Effect)
      → ((m code : ℕ) (fields : List Value) → value_at g.registers r ≡ V.Ref m → (object_at g.objects m).body ≡ Block code fields → ClosedAfter g K' (found m code fields))
      → ClosedAfter g K' (when_block g.objects (value_at g.registers r) found (answered R.WrongType g))
  by_block r found f = when_block-elim (ClosedAfter g K') g.objects (value_at g.registers r) found (answered R.WrongType g) f (stays R.WrongType)

  by_field : (fields : List Value) (index : ℕ) (found : Effect) → ClosedAfter g K' found → ClosedAfter g K' (when_field g fields index found)
  by_field fields index found f = cond_both (nat_lt index (length fields)) found _ (ClosedAfter g K') (λ t. f) (λ t. stays (R.NoField (length fields)))

  by : (c : Command) → IsAllowed c → IfSome (effect g c) (ClosedAfter g K')
  by (C.Set to value) allowed = sets R.Fine to value (λ n f. let x = allowed n in cc)
  by (C.Move to from) allowed = sets R.Fine to (value_at g.registers from) (reg from)
  by (C.Cons to area car cdr) allowed = makes to area 2 _ (one_inside _ (cons_inside K (value_at g.registers car) (value_at g.registers cdr) (reg car) (reg cdr))) (omega arith)
  by (C.List to area items) allowed = λ h.
      let values = map (value_at g.registers) items in
      let count = length-list_from area (length g.objects) values in
      let size = length-map items (value_at g.registers) in
      makes to area (3 * length items) (list_from area (length g.objects) values)
      (list_inside K' area (length g.objects) values (λ i n e. extends.up n (map_inside K g.registers reg items i n e))
      (λ m l u. h m l (let z = length-append g.objects (list_from area (length g.objects) values) in omega arith)))
      (omega arith) h
  by (C.Make to area code count) allowed = makes to area (suc count) _ (one_inside _ (nils_inside K count)) (omega arith)
  by (C.Grow target count) allowed = by_block target _ (λ m code fields e b. grows target m code fields count e b)
  by (C.Car to from) allowed = by_cons from _ (λ m car cdr e b. fetches to car (car_in from m car cdr e b))
  by (C.Cdr to from) allowed = by_cons from _ (λ m car cdr e b. fetches to cdr (cdr_in from m car cdr e b))
  by (C.Rplaca target from) allowed = by_cons target _ (λ m car cdr e b. stores m (Cons (value_at g.registers from) cdr) (cons_inside K _ cdr (reg from) (cdr_in target m car cdr e b)))
  by (C.Rplacd target from) allowed = by_cons target _ (λ m car cdr e b. stores m (Cons car (value_at g.registers from)) (cons_inside K car _ (car_in target m car cdr e b) (reg from)))
  by (C.Get to from index) allowed = by_block from _ (λ m code fields e b. by_field fields index _ (fetches to (value_at fields index) (λ n f. fields_in from m code fields e b n (refers_at n fields index f))))
  by (C.Put target index from) allowed = by_block target _ (λ m code fields e b. by_field fields index _
      (stores m (Block code (set fields index (value_at g.registers from))) (field_stores m target index code fields (value_at g.registers from) (has target m e) b (reg from))))
  by (C.Size of) allowed = by_block of _ (λ m code fields e b. stays (R.Number (pos (length fields))))
  by (C.Eq left right) allowed = stays (if same_value (value_at g.registers left) (value_at g.registers right) then R.True else R.Nil)
  by (C.Flip what) allowed = tt
  by (C.Scavenge count) allowed = tt
  by C.Reclaim allowed = tt
  by (C.PageOut count) allowed = tt
  by C.Stats allowed = tt
  by C.Dump allowed = tt

  -- after every command of the program that brings no name of its own
  pub closed_effect : (c : Command) → IsAllowed c → (e : Effect) → effect g c ≡ Some e → ClosedAfter g K' e
  closed_effect c allowed e is = subst (λ (o : Option Effect). IfSome o (ClosedAfter g K')) is (by c allowed)

-- Sizes

-- an effect loses no object, adds none but in an allocation, and an allocation answers ok
pub record Sizes (g : Graph) (e : Effect) : Type 0 where
  pub more : length g.objects ≤ length e.graph.objects
  pub same : e.wanted ≡ None → length e.graph.objects ≡ length g.objects
  pub fine : is_some e.wanted ≡ true → e.reply ≡ R.Fine

module _ (g : Graph) where
  size_same : (r : Reply) (after : Graph) → length after.objects ≡ length g.objects → Sizes g (answered r after)
  size_same r after h = record { more = omega arith; same = λ w. h; fine = λ w. cc }

  size_made : (to area charge : ℕ) (objects : List Object) → Sizes g (made g to area charge objects)
  size_made to area charge objects = record { more = (let z = length-append g.objects objects in omega arith); same = λ w. cc; fine = λ w. refl }

  size_stored : (m : ℕ) (b : Body) → Sizes g (stored g m b)
  size_stored m b = size_same R.Fine (with_body g m b) (length-set g.objects m (record (object_at g.objects m) { body = b }))

  size_grown : (m code : ℕ) (fields : List Value) (wanted : ℕ) → Sizes g (grown g m code fields wanted)
  size_grown m code fields wanted =
      cond_both (nat_le wanted (length fields)) _ _ (Sizes g) (λ t. size_same R.Fine g refl)
      (λ t. let z = length-set g.objects m (grown_block (object_at g.objects m).area code fields (grown_length (length fields) wanted)) in record { more = omega arith; same = λ w. cc; fine = λ w. refl })

  size_cons : (v : Value) (found : ℕ → Value → Value → Effect) → ((m : ℕ) (car cdr : Value) → Sizes g (found m car cdr)) → Sizes g (when_cons g.objects v found (answered R.WrongType g))
  size_cons v found f = when_cons-elim (Sizes g) g.objects v found (answered R.WrongType g) (λ m car cdr e b. f m car cdr) (size_same R.WrongType g refl)

  size_block : (v : Value) (found : ℕ → ℕ → List Value → Effect) → ((m code : ℕ) (fields : List Value) → Sizes g (found m code fields)) → Sizes g (when_block g.objects v found (answered R.WrongType g))
  size_block v found f = when_block-elim (Sizes g) g.objects v found (answered R.WrongType g) (λ m code fields e b. f m code fields) (size_same R.WrongType g refl)

  size_field : (fields : List Value) (index : ℕ) (found : Effect) → Sizes g found → Sizes g (when_field g fields index found)
  size_field fields index found f = cond_both (nat_lt index (length fields)) found _ (Sizes g) (λ t. f) (λ t. size_same (R.NoField (length fields)) g refl)

  size_by : (c : Command) → IfSome (effect g c) (Sizes g)
  size_by (C.Set to value) = size_same _ _ refl
  size_by (C.Move to from) = size_same _ _ refl
  size_by (C.Cons to area car cdr) = size_made to area 2 _
  size_by (C.List to area items) = size_made to area (3 * length items) _
  size_by (C.Make to area code count) = size_made to area (suc count) _
  size_by (C.Grow target count) = size_block (value_at g.registers target) _ (λ m code fields. size_grown m code fields count)
  size_by (C.Car to from) = size_cons (value_at g.registers from) _ (λ m car cdr. size_same _ _ refl)
  size_by (C.Cdr to from) = size_cons (value_at g.registers from) _ (λ m car cdr. size_same _ _ refl)
  size_by (C.Rplaca target from) = size_cons (value_at g.registers target) _ (λ m car cdr. size_stored m _)
  size_by (C.Rplacd target from) = size_cons (value_at g.registers target) _ (λ m car cdr. size_stored m _)
  size_by (C.Get to from index) = size_block (value_at g.registers from) _ (λ m code fields. size_field fields index _ (size_same _ _ refl))
  size_by (C.Put target index from) = size_block (value_at g.registers target) _ (λ m code fields. size_field fields index _ (size_stored m _))
  size_by (C.Size of) = size_block (value_at g.registers of) _ (λ m code fields. size_same _ _ refl)
  size_by (C.Eq left right) = size_same _ _ refl
  size_by (C.Flip what) = tt
  size_by (C.Scavenge count) = tt
  size_by C.Reclaim = tt
  size_by (C.PageOut count) = tt
  size_by C.Stats = tt
  size_by C.Dump = tt

  pub effect_sizes : (c : Command) (e : Effect) → effect g c ≡ Some e → Sizes g e
  effect_sizes c e is = subst (λ (o : Option Effect). IfSome o (Sizes g)) is (size_by c)
