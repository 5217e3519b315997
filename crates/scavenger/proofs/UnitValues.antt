-- The values that a unit may have: the running collection keeps what they refer to.
use Rattle.std.proofs.Common.{◌≡◌, ℕ, ◌+◌, ◌*◌, ◌/◌, ◌<◌, ◌⊎◌, inl, inr, Bool, true, false, not, ◌&&◌, IsTrue, List, length, get_or, refl, sym, ◌∙◌, ap, subst, arith, Option, Some, None, is_some}
use Rattle.std.proofs.lemmas.Bool.{cases_Bool, or_left, or_right, lt-ltb}
use Rattle.store_word.specs.Words.{Parts, null_word, address_of}
use Rattle.store_word.specs.declared.word.Content.{Content}
use Rattle.store_word.specs.declared.word.Content.TheVariants as C
use Rattle.lisp_graph.specs.declared.object.Value.{Value}
use Rattle.lisp_graph.specs.declared.object.Value.TheVariants as V
use Rattle.lisp_graph.specs.declared.object.Body.{Body}
use Rattle.lisp_graph.specs.declared.object.Body.TheVariants.{Cons, Block}
use Rattle.lisp_graph.specs.Graph.{is_ref, body_refers}
use Rattle.mem_port.specs.Store.{Store}
use Rattle.area_space.specs.Table.{Table, used_of, IsLive, IsOld}
use Rattle.transporter.specs.obj_layout.Forwards.{word_at}
use Rattle.transporter.specs.lisp_meaning.State.{object, is_held, in_use}
use Rattle.transporter.specs.lisp_meaning.Sound.{is_kept, Reaches}
use Rattle.transporter.specs.lisp_meaning.Image.{is_old, is_used, word}
use Rattle.transporter.specs.lisp_meaning.Classes.{Class, classes, is_old_at}
use Rattle.transporter.specs.lisp_meaning.Roles.{Role, Blank, Scratch, Waste, HuskWord, PairHead, PairTail, Cell, Head, Field, Moved, Relaid, value_of, car_of, cdr_of, field_of}
use Rattle.transporter.specs.lisp_meaning.Fits.{Fits, Holds}
use Rattle.transporter.proofs.lisp_meaning.closure.ClosedSets.{is_ref-same, refers_at}
use Rattle.transporter.specs.lisp_ground.Image.{no_rest, ground_image}
use Rattle.transporter.specs.lisp_ground.GroundInvariant.{GroundInvariant}
use Rattle.transporter.specs.lisp_meaning.Interpretation.{Interpretation}
use Rattle.transporter.proofs.lisp_ground.words.Words.{get_or_here}
use Rattle.transporter.proofs.lisp_ground.words.UsedWords.{is_used_as}
use Rattle.transporter.proofs.lisp_ground.regions.OldAndLive.{live_standing, old_standing}
use Rattle.transporter.specs.LiveWordsUnchanged.{IsLiveWord}
use Rattle.transporter.specs.Settling.{reference_of, RefersToOld, CanSettle}
use Rattle.scavenger.specs.Scan.{Scan}
use Rattle.scavenger.specs.Collecting.{Collects}
use Rattle.transporter.specs.Preserving.{FreshOn}

-- an address of a word that has a value is that of a reference
pub value-reference : (role : ℕ → Role) (content : Content) (v : Value) (b : ℕ) → value_of role content ≡ Some v → address_of content ≡ Some b → reference_of content ≡ Some b
value-reference role C.Null v b is e = cc
value-reference role C.Nil v b is e = cc
value-reference role (C.List at) v b is e = e
value-reference role (C.Struct at) v b is e = e
value-reference role (C.Header code length) v b is e = cc
value-reference role (C.HeaderForward at) v b is e = cc
value-reference role (C.GcForward at) v b is e = cc
value-reference role (C.Fixnum number) v b is e = cc

-- so a word with a value that doesn't refer to an old address has none
pub value-fresh : (t : Table) (role : ℕ → Role) (word : Parts) (v : Value) → value_of role word.content ≡ Some v → (RefersToOld t word → ⊥) → FreshOn t word.content
value-fresh t role word v is none b e old = none (b, value-reference role word.content v b is e, old)

-- a register
pub register-can : (m : Store) (t : Table) (scan : Scan) (registers : List Parts) (it : Interpretation) (values : List Value) (r : ℕ) → Collects m t scan registers it values → r < length values
    → CanSettle m t it values (get_or registers r null_word) (get_or values r V.Nil)
register-can m t scan registers it values r x low = record {
  kept = x.kept;
  value = λ at e. x.means r low;
  survives = λ old. record {
    running = x.running;
    reaches = x.reaches;
    name = λ n is. x.reaches.closed.from_registers n (refers_at n values r (ap (is_ref n) is ∙ is_ref-same n));
  };
}

car-refers : (body : Body) (n : ℕ) → car_of body ≡ Some (V.Ref n) → body_refers n body ≡ true
car-refers (Cons car cdr) n e = or_left (is_ref n car) (is_ref n cdr) (let same : car ≡ V.Ref n = cc in ap (is_ref n) same ∙ is_ref-same n)
car-refers (Block code fields) n e = cc

cdr-refers : (body : Body) (n : ℕ) → cdr_of body ≡ Some (V.Ref n) → body_refers n body ≡ true
cdr-refers (Cons car cdr) n e = or_right (is_ref n car) (is_ref n cdr) (let same : cdr ≡ V.Ref n = cc in ap (is_ref n) same ∙ is_ref-same n)
cdr-refers (Block code fields) n e = cc

field-refers : (body : Body) (i n : ℕ) → field_of body i ≡ Some (V.Ref n) → body_refers n body ≡ true
field-refers (Cons car cdr) i n e = cc
field-refers (Block code fields) i n e = refers_at n fields i (ap (is_ref n) (get_or_here fields i (V.Ref n) V.Nil e) ∙ is_ref-same n)

-- a used word of a live region
module _ (m : Store) (t : Table) (it : Interpretation) (values : List Value)
    (on : GroundInvariant m t it) (running : t.aim ≡ Some it.aim.what) (reaches : Reaches values it.store it.aim) (a : ℕ) (alive : IsLiveWord t a) where
  -- an object in a live region is kept
  kept-there : (n : ℕ) → in_use it.store n → IsLive t (it.map.at n / 4096) → IsTrue (is_kept it.store it.aim n)
  kept-there n used live = go (it.store.held n) refl (cases_Bool (it.aim.condemned n))
    where
      go : (o : Option ℕ) → it.store.held n ≡ o → (it.aim.condemned n ≡ true) ⊎ (it.aim.condemned n ≡ false) → IsTrue (is_kept it.store it.aim n)
      go None e b = let none : is_some (it.store.held n) ≡ false = ap is_some e in absurd cc
      go (Some level) e (inr b) = or_right (it.aim.bound n) (is_held it.store n && not (it.aim.condemned n)) (ap (λ (x : Bool). x && not (it.aim.condemned n)) used ∙ ap not b)
      go (Some level) e (inl b) = elim (on.kept.classes_of.doomed n level e b) [
        | inl old ↦ let x = ap is_old (sym (live_standing m t no_rest on.table (it.map.at n) live) ∙ old.0) in absurd cc
        | inr moved ↦ or_left (it.aim.bound n) (is_held it.store n && not (it.aim.condemned n)) moved.2
      ]

  -- a part of an object in a live region
  part : (n : ℕ) (v : Value) → in_use it.store n → IsLive t (it.map.at n / 4096) → ((i : ℕ) → v ≡ V.Ref i → body_refers i (object it.store n).body ≡ true) → value_of it.map.role (word_at m.words a).content ≡ Some v
      → (value : Value) × CanSettle m t it values (word_at m.words a) value
  part n v used live refers is = (
    v,
    record {
      kept = on;
      value = λ at e. is;
      survives = λ old. record {
        running = running;
        reaches = reaches;
        name = λ i e. reaches.closed.from_objects n i (on.kept.names n used) (kept-there n used live) (refers i e);
      };
    },
  )

  -- not a reference
  other : ((at : ℕ) → reference_of (word_at m.words a).content ≡ Some at → ⊥) → (value : Value) × CanSettle m t it values (word_at m.words a) value
  other none = (V.Nil, record { kept = on; value = λ at e. absurd (none at e); survives = λ old. absurd (none old.0 old.1) })

  held : (n : ℕ) (value : Option Value) → in_use it.store n → IsLive t (it.map.at n / 4096) → Holds it.map.role (word_at m.words a).content value → ((i : ℕ) → value ≡ Some (V.Ref i) → body_refers i (object it.store n).body ≡ true)
      → (value : Value) × CanSettle m t it values (word_at m.words a) value
  held n value used live holds refers = part n holds.0 used live (λ i e. refers i (holds.1 ∙ ap (λ (v : Value). Some v) e)) holds.2

  at_place : (n : ℕ) → it.map.at n / 4096 ≡ a / 4096 → IsLive t (it.map.at n / 4096)
  at_place n e = subst (λ (r : ℕ). IsLive t r) (sym e) alive.live

  not_old : is_old_at (classes (ground_image m t)) a ≡ true → ⊥
  not_old e = let x = ap is_old (live_standing m t no_rest on.table a alive.live) in cc

  used_here : IsTrue (is_used (ground_image m t) a)
  used_here = is_used_as m t no_rest a on.table ∙ lt-ltb a (4096 * (a / 4096) + used_of t (a / 4096)) (let u = alive.used in omega arith)

  by_role : (r : Role) → it.map.role a ≡ r → Fits (classes (ground_image m t)) it.map it.store a (word_at m.words a) r → (value : Value) × CanSettle m t it values (word_at m.words a) value
  by_role Blank e f = absurd (on.kept.covered.used a used_here e)
  by_role Scratch e f = absurd (on.kept.covered.done a e)
  by_role Waste e f = absurd (not_old f)
  by_role (HuskWord first) e f = other (λ at ref. (let x = ap (λ (w : Parts). reference_of w.content) f.blank in cc))
  by_role (PairHead n) e f = held n (car_of (object it.store n).body) f.used (at_place n (ap (λ (b : ℕ). b / 4096) f.place)) f.car (car-refers (object it.store n).body)
  by_role (PairTail n) e f = held n (cdr_of (object it.store n).body) f.used (at_place n (sym f.region)) f.cdr (cdr-refers (object it.store n).body)
  by_role (Cell n i) e f = held n (car_of (object it.store n).body) f.used (at_place n (ap (λ (b : ℕ). b / 4096) f.place)) f.car (car-refers (object it.store n).body)
  by_role (Head n) e f = other (λ at ref. (let x = ap reference_of f.content in cc))
  by_role (Field n i) e f = held n (field_of (object it.store n).body i) f.used (at_place n (sym f.region)) f.value (field-refers (object it.store n).body i)
  by_role (Moved kind n) e f = absurd (not_old f.old)
  by_role (Relaid kind n) e f = other (λ at ref. (let x = ap reference_of f.content in cc))

  pub word-can : (value : Value) × CanSettle m t it values (word_at m.words a) value
  word-can = by_role (it.map.role a) refl (on.kept.roled.fits a)

-- a used word of a live region has no old address, if it doesn't refer to one
module _ (m : Store) (t : Table) (it : Interpretation) (on : GroundInvariant m t it) (a : ℕ) (alive : IsLiveWord t a) (none : RefersToOld t (word_at m.words a) → ⊥) where
  used_word : IsTrue (is_used (ground_image m t) a)
  used_word = is_used_as m t no_rest a on.table ∙ lt-ltb a (4096 * (a / 4096) + used_of t (a / 4096)) (let u = alive.used in omega arith)

  young : is_old_at (classes (ground_image m t)) a ≡ true → ⊥
  young e = let x = ap is_old (live_standing m t no_rest on.table a alive.live) in cc

  no_address : address_of (word_at m.words a).content ≡ None → FreshOn t (word_at m.words a).content
  no_address e b is old = let x = is in cc

  has_value : (part : Option Value) → Holds it.map.role (word_at m.words a).content part → FreshOn t (word_at m.words a).content
  has_value part h = value-fresh t it.map.role (word_at m.words a) h.0 h.2 none

  fresh_role : (r : Role) → it.map.role a ≡ r → Fits (classes (ground_image m t)) it.map it.store a (word_at m.words a) r → FreshOn t (word_at m.words a).content
  fresh_role Blank e f = absurd (on.kept.covered.used a used_word e)
  fresh_role Scratch e f = absurd (on.kept.covered.done a e)
  fresh_role Waste e f = absurd (young f)
  fresh_role (HuskWord first) e f = no_address (ap (λ (w : Parts). address_of w.content) f.blank)
  fresh_role (PairHead n) e f = has_value (car_of (object it.store n).body) f.car
  fresh_role (PairTail n) e f = has_value (cdr_of (object it.store n).body) f.cdr
  fresh_role (Cell n i) e f = has_value (car_of (object it.store n).body) f.car
  fresh_role (Head n) e f = no_address (ap address_of f.content)
  fresh_role (Field n i) e f = has_value (field_of (object it.store n).body i) f.value
  fresh_role (Moved kind n) e f = absurd (young f.old)
  fresh_role (Relaid kind n) e f = λ b is old.
      let same : b ≡ f.to = (let x = ap address_of f.content in cc) in
      let there = old_standing m t no_rest on.table f.to (subst (λ (c : ℕ). IsOld t (c / 4096)) same old) in
      let class = ap (λ (c : Class). is_old c.standing) f.class in
      let here = ap is_old (live_standing m t no_rest on.table a alive.live) in
      let that = ap is_old there in
      cc

  pub word-fresh : FreshOn t (word_at m.words a).content
  word-fresh = fresh_role (it.map.role a) refl (on.kept.roled.fits a)
