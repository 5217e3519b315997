-- What follows from the reading alone: that a machine represents a state.
use Rattle.std.proofs.Common.{◌≡◌, ℕ, suc, ◌+◌, ◌*◌, ◌<◌, ◌≤◌, ◌⊎◌, inl, inr, Bool, true, false, ◌&&◌, nat_eq, refl, sym, ◌∙◌, ap, subst, arith, length, get_or}
use Rattle.std.proofs.lemmas.Bool.{cases_eq, cases_lt, or_cases, eqb-true}
use Rattle.lisp_graph.specs.store_word.Words.{null_word}
use Rattle.lisp_graph.specs.store_word.declared.word.Content.{Content}
use Rattle.lisp_graph.specs.store_word.declared.word.Content.TheVariants.{List as ListAt}
use Rattle.lisp_graph.specs.declared.object.Value.{Value}
use Rattle.lisp_graph.specs.declared.object.Value.TheVariants as V
use Rattle.lisp_graph.specs.declared.object.Body.{Body}
use Rattle.lisp_graph.specs.declared.object.Body.TheVariants.{Cons}
use Rattle.lisp_graph.specs.declared.object.Object.{Object}
use Rattle.lisp_graph.specs.Graph.{is_ref, body_refers}
use Rattle.lisp_graph.specs.Totals.{total, if_true}
use Rattle.lisp_graph.proofs.Totals.{total-add, total-cong, total-le}
use Rattle.lisp_meaning.specs.machine.State.{rule_of, Condemned, aim_of, Phase, Idle, Running, Store, State, object, is_held}
use Rattle.lisp_meaning.specs.machine.Charges.{charges, per_area}
use Rattle.lisp_meaning.specs.machine.Sound.{Reach, IsOwing}
use Rattle.lisp_meaning.specs.reading.Image.{Image, is_live, word, region, used_words}
use Rattle.lisp_meaning.specs.reading.Classes.{of_class, old_of}
use Rattle.lisp_meaning.specs.reading.Forwards.{forward_of, Leads, here, gc_forward, header_forward, Final}
use Rattle.lisp_meaning.specs.reading.Value.{Means, fixnum, nil, cons, block}
use Rattle.lisp_meaning.specs.reading.Objects.{StandsAt, pair_2, pair_3, last_cell, cell, whole_block}
use Rattle.lisp_meaning.specs.reading.Units.{units_left}
use Rattle.lisp_meaning.specs.reading.Stands.{PhaseOf, Work, stands_in, StandsUnder}
use Rattle.lisp_meaning.specs.Laws.{MeansOne, StandingIsSound, RoomSuffices}
use Rattle.lisp_meaning.proofs.sums.Charges.{total-none, total-swap}
use Rattle.lisp_meaning.proofs.sums.Accounts.{one_level, other_number}
use Rattle.lisp_meaning.proofs.closure.ClosedSets.{refers_each}
use Rattle.lisp_meaning.proofs.invariant.Collections.{nothing_left}

-- A word means one thing

one_end : (g : Image) (m r m' r' a b c : ℕ) → Leads g m r a b → Leads g m' r' a c → b ≡ c
one_end g m r m' r' a b c (here x) (here y) = refl
one_end g m r m' r' a b c (here x) (gc_forward y rest) = let z = ap forward_of y in absurd (cc)
one_end g m r m' r' a b c (here x) (header_forward y rest) = let z = ap forward_of y in absurd (cc)
one_end g m r m' r' a b c (gc_forward x rest) (here y) = let z = ap forward_of x in absurd (cc)
one_end g m r m' r' a b c (header_forward x rest) (here y) = let z = ap forward_of x in absurd (cc)
one_end g m r m' r' a b c (gc_forward {moves = m1} {b = p} x rest) (gc_forward {moves = m2} {b = q} y more) =
    let e : p ≡ q = cc in
    one_end g m1 r m2 r' p b c rest (let P : ℕ → Type 0 = λ n. Leads g m2 r' n c in subst P (sym e) more)
one_end g m r m' r' a b c (gc_forward x rest) (header_forward y more) = absurd (cc)
one_end g m r m' r' a b c (header_forward x rest) (gc_forward y more) = absurd (cc)
one_end g m r m' r' a b c (header_forward {relays = r1} {b = p} x rest) (header_forward {relays = r2} {b = q} y more) =
    let e : p ≡ q = cc in
    one_end g m r1 m' r2 p b c rest (let P : ℕ → Type 0 = λ n. Leads g m' r2 n c in subst P (sym e) more)

one_place : (g : Image) (a b c : ℕ) → Final g a b → Final g a c → b ≡ c
one_place g a b c x y = one_end g x.0 x.1 y.0 y.1 a b c x.4 y.4

pub means_one : MeansOne
means_one g s at d c v w x y = go c v w x y
  where
    go : (c : Content) (v w : Value) → Means g s at c v → Means g s at c w → v ≡ w
    go c v w (fixnum i) (fixnum j) = refl
    go c v w nil nil = refl
    go c v w (cons a m x u e) (cons b n y t f) = ap V.Ref (d m n u t (one_place g a (at m) (at n) x y))
    go c v w (block a m x u e) (block b n y t f) = ap V.Ref (d m n u t (one_place g a (at m) (at n) x y))

-- What is referred to is held

means_held : (g : Image) (s : Store) (at : ℕ → ℕ) (c : Content) (v : Value) → Means g s at c v → (n : ℕ) → is_ref n v ≡ true → is_held s n ≡ true
means_held g s at c v (fixnum i) n e = cc
means_held g s at c v nil n e = cc
means_held g s at c v (cons a m x u b) n e = ref_held n m e u
  where
    ref_held : (n m : ℕ) → is_ref n (V.Ref m) ≡ true → is_held s m ≡ true → is_held s n ≡ true
    ref_held n m e u = ap (is_held s) (let z = eqb-true m n e in sym z) ∙ u
means_held g s at c v (block a m x u b) n e = ref_held n m e u
  where
    ref_held : (n m : ℕ) → is_ref n (V.Ref m) ≡ true → is_held s m ≡ true → is_held s n ≡ true
    ref_held n m e u = ap (is_held s) (let z = eqb-true m n e in sym z) ∙ u

both_held : (s : Store) (n : ℕ) (car cdr : Value) (body : Body) → body ≡ Cons car cdr → (is_ref n car ≡ true → is_held s n ≡ true) → (is_ref n cdr ≡ true → is_held s n ≡ true) → body_refers n body ≡ true → is_held s n ≡ true
both_held s n car cdr body b x y e = go (or_cases (is_ref n car) (is_ref n cdr) (ap (body_refers n) (sym b) ∙ e))
  where
    go : (is_ref n car ≡ true) ⊎ (is_ref n cdr ≡ true) → is_held s n ≡ true
    go (inl z) = x z
    go (inr z) = y z

stands_held : (g : Image) (s : Store) (at : ℕ → ℕ) (a : ℕ) (o : Object) → StandsAt g s at a o → (n : ℕ) → body_refers n o.body ≡ true → is_held s n ≡ true
stands_held g s at a o (pair_2 p {car = car} {cdr = cdr} b x c1 v c2 w) n e = both_held s n car cdr o.body b (means_held g s at (word g a).content car v n) (means_held g s at (word g (suc a)).content cdr w n) e
stands_held g s at a o (pair_3 p {car = car} {cdr = cdr} b x c1 v c2 w) n e = both_held s n car cdr o.body b (means_held g s at (word g a).content car v n) (means_held g s at (word g (suc a)).content cdr w n) e
stands_held g s at a o (last_cell p {car = car} b x c v) n e = both_held s n car V.Nil o.body b (means_held g s at (word g a).content car v n) (λ z. cc) e
stands_held g s at a o (cell p {car = car} {cdr = cdr} b x c v w) n e = both_held s n car cdr o.body b (means_held g s at (word g a).content car v n) (means_held g s at (ListAt (suc a)) cdr w n) e
stands_held g s at a o (whole_block p {fields = fields} b x c h f) n e =
    refers_each (is_held s) fields (λ i m l r. means_held g s at (word g (suc a + i)).content (get_or fields i V.Nil) (f i l) m r) n (ap (body_refers n) (sym b) ∙ e)

pub standing_sound : StandingIsSound
standing_sound g s at h some = record {
  registers = some;
  references = record {
    names = h.objects.names;
    closed = record {
      from_registers = λ n e. refers_each (is_held s.store) s.registers
          (λ r m l x. means_held g s.store at (get_or g.registers r null_word).content (get_or s.registers r V.Nil) (h.registers.each r l) m x) n e;
      from_objects = λ m n l u e. stands_held g s.store at (at m) (object s.store m) (h.objects.stands m u) n e;
    };
    reach = h.reach;
  };
  owing = owing s.phase h.phase h.work;
}
  where
    owing : (p : Phase) → PhaseOf g p → Work g s.store at p → IsOwing p
    owing Idle f w = tt
    owing (Running c) f w = λ over. go over (cases_eq (units_left g) 0)
      where
        go : c.over ≡ false → (units_left g ≡ 0) ⊎ (units_left g ≡ 0 → ⊥) → c.paid < c.owed
        go over (inl z) = let x = f.1.unfinished (nothing_left g z) in cc
        go over (inr ne) = let x = w over in omega arith

-- Memory suffices for what the quotas allow

at_most_one : (near : Bool) (level charge levels : ℕ) → total (λ l. if_true (near && nat_eq level l) charge) levels ≤ if_true near charge
at_most_one false level charge levels = let x = total-none (λ l. if_true (false && nat_eq level l) charge) levels (λ m l. refl) in omega arith
at_most_one true level charge levels = go (cases_lt level levels)
  where
    go : (level < levels) ⊎ (levels ≤ level) → total (λ l. if_true (true && nat_eq level l) charge) levels ≤ charge
    go (inl l) = let x = one_level level charge levels l in omega arith
    go (inr past) =
        let x = total-none (λ l. if_true (true && nat_eq level l) charge) levels (λ m l. ap (λ (b : Bool). if_true b charge) (other_number level m (λ (z : level ≡ m). omega arith))) in omega arith

module _ (g : Image) (s : State) (at : ℕ → ℕ) (h : StandsUnder g s at) (area : ℕ) (low : area < length s.areas) where
  abbrev levels : ℕ
  levels = suc s.space.levels

  abbrev aim : Condemned
  aim = aim_of s.phase

  -- the charges of the area's names
  abbrev charged : ℕ
  charged = charges s.store (λ n. is_held s.store n && per_area s.store area n)

  abbrev live_charge : ℕ → ℕ → ℕ
  live_charge l n = if_true (stands_in g s.store at (of_class area l) n) (object s.store n).charge

  regroup : (held live near at_level : Bool) → (held && (live && (near && at_level))) ≡ ((held && (live && near)) && at_level)
  regroup true true near at_level = refl
  regroup true false near at_level = refl
  regroup false live near at_level = refl

  fewer : (held live near there : Bool) (charge : ℕ) → (held ≡ true → near ≡ there) → if_true (held && (live && near)) charge ≤ if_true (held && there) charge
  fewer true true near there charge f = let x = ap (λ (b : Bool). if_true b charge) (f refl) in omega arith
  fewer true false near there charge f = omega arith
  fewer false live near there charge f = omega arith

  each_live : (n : ℕ) → total (λ l. live_charge l n) levels ≤ if_true (is_held s.store n && per_area s.store area n) (object s.store n).charge
  each_live n =
      let r = region g (at n) in
      let same = total-cong (λ l. live_charge l n) (λ l. if_true ((is_held s.store n && (is_live r.standing && nat_eq r.area area)) && nat_eq r.level l) (object s.store n).charge) levels
      (λ l q. ap (λ (b : Bool). if_true b (object s.store n).charge) (regroup (is_held s.store n) (is_live r.standing) (nat_eq r.area area) (nat_eq r.level l))) in
      let few = at_most_one (is_held s.store n && (is_live r.standing && nat_eq r.area area)) r.level (object s.store n).charge levels in
      let less = fewer (is_held s.store n) (is_live r.standing) (nat_eq r.area area) (per_area s.store area n) (object s.store n).charge (λ u. ap (λ (x : ℕ). nat_eq x area) (h.classes.area n u)) in
      omega arith

  live_charges : total (λ l. charges s.store (stands_in g s.store at (of_class area l))) levels ≤ charged
  live_charges =
      let swapped = total-swap live_charge levels (length s.store.objects) in
      let few = total-le (λ n. total (λ l. live_charge l n) levels) (λ n. if_true (is_held s.store n && per_area s.store area n) (object s.store n).charge) (length s.store.objects) (λ n l. each_live n) in
      omega arith

  live_words : total (λ l. used_words g (of_class area l)) levels ≤ charged + total (s.store.husks area) levels
  live_words =
      let each = total-le (λ l. used_words g (of_class area l)) (λ l. charges s.store (stands_in g s.store at (of_class area l)) + s.store.husks area l) levels
      (λ l q. (let x = h.room.live area l in omega arith)) in
      let sum = total-add (λ l. charges s.store (stands_in g s.store at (of_class area l))) (s.store.husks area) levels in
      let few = live_charges in
      omega arith

  -- the condemned names are held
  doomed : (p : Phase) → Reach s p → (n : ℕ) → (aim_of p).condemned n ≡ true → is_held s.store n ≡ true
  doomed Idle r n e = absurd (cc)
  doomed (Running c) r n e = r.condemned n e

  old_words : used_words g (old_of area) ≤ charged + aim.gone area
  old_words =
      let few = total-le (λ n. if_true (aim.condemned n && per_area s.store area n) (object s.store n).charge) (λ n. if_true (is_held s.store n && per_area s.store area n) (object s.store n).charge) (length s.store.objects)
      (λ n l. less (aim.condemned n) (is_held s.store n) (per_area s.store area n) (object s.store n).charge (doomed s.phase h.reach n)) in
      let x = h.room.old area in
      omega arith
    where
      less : (condemned held near : Bool) (charge : ℕ) → (condemned ≡ true → held ≡ true) → if_true (condemned && near) charge ≤ if_true (held && near) charge
      less true true near charge f = omega arith
      less true false near charge f = let z = f refl in cc
      less false held near charge f = omega arith

  suffices : total (λ l. used_words g (of_class area l)) levels + used_words g (old_of area) ≤ 2 * (rule_of s.areas area).quota
  suffices = let a = live_words in let b = old_words in let c = (h.accounts area low).1 in omega arith

pub room_suffices : RoomSuffices
room_suffices g s at h area low = suffices g s at h area low
