-- A word of an object is written again: with another value, which the object then has there, or with another part that has the same value.
use Rattle.std.proofs.Common.{◌≡◌, ℕ, suc, ◌⊎◌, inl, inr, false, refl, sym, ◌∙◌, ap, subst, arith, Option, Some, None}
use Rattle.std.proofs.lemmas.Bool.{cases_eq}
use Rattle.lisp_graph.specs.declared.object.Object.{Object}
use Rattle.lisp_graph.specs.declared.object.Value.{Value}
use Rattle.lisp_meaning.specs.reading.Classes.{Class}
use Rattle.lisp_meaning.specs.invariants.Fits.{Holds, CellCdr, PairCode, Fits, Roled}
use Rattle.lisp_meaning.specs.invariants.Roles.{Kind, Role, Blank, Scratch, Waste, HuskWord, PairHead, PairTail, Cell, Head, Field, Moved, Relaid, owner, value_of, RoleMap, kind_of, car_of, cdr_of, field_of, header_of, Begins}
use Rattle.lisp_meaning.specs.machine.State.{Store, object, in_use}
use Rattle.lisp_graph.specs.store_word.Words.{Parts}
use Rattle.lisp_graph.specs.store_word.declared.word.CdrCode.{CdrCode}
use Rattle.lisp_meaning.proofs.maps.Frames.{Alike, alike, Frame, framed, cell_cdr}

-- whether a word is part of n
owned_by : (r : Role) (n : ℕ) → (owner r ≡ Some n) ⊎ ((m : ℕ) → owner r ≡ Some m → m ≡ n → ⊥)
owned_by r n = go (owner r)
  where
    go : (o : Option ℕ) → (o ≡ Some n) ⊎ ((m : ℕ) → o ≡ Some m → m ≡ n → ⊥)
    go None = inr (λ m e z. cc)
    go (Some m) = at (cases_eq m n)
      where
        at : (m ≡ n) ⊎ (m ≡ n → ⊥) → (Some m ≡ Some n) ⊎ ((p : ℕ) → Some m ≡ Some p → p ≡ n → ⊥)
        at (inl z) = inl (ap Some z)
        at (inr ne) = inr (λ p e z. ne (let q : m ≡ p = cc in q ∙ z))

-- nothing moves: a map is a frame of itself
same_map : (k : RoleMap) (s s' : Store) → ((m : ℕ) → in_use s m → in_use s' m) → Frame k k s s' (λ m. false)
same_map k s s' uses = record {
  refine = λ kind a n e. e;
  place = λ m x. refl;
  parts = λ c m o x. refl;
  relaid = λ c m kind e. e;
  husks = λ c first e. e;
  cells = λ c m i e. inl e;
  ages = λ kind c m e. refl;
  used = uses;
}

-- the object n alone gets another body of its kind, and its words keep their cdr codes
pub record Stored (s s' : Store) (n : ℕ) : Type 0 where
  pub uses : (m : ℕ) → in_use s m → in_use s' m
  pub news : (m : ℕ) → in_use s' m → in_use s m
  pub same : (m : ℕ) → (m ≡ n → ⊥) → object s' m ≡ object s m
  pub charge : (object s' n).charge ≡ (object s n).charge
  pub kind : kind_of (object s' n).body ≡ kind_of (object s n).body

module _ (W W' : ℕ → Parts) (regions : ℕ → Class) (k : RoleMap) (s s' : Store) (R : Roled W regions k s) (n a : ℕ)
    (p : Stored s s' n) (words : (c : ℕ) → (c ≡ a → ⊥) → W' c ≡ W c) (code : (W' a).cdr ≡ (W a).cdr) where
  kinds : (m : ℕ) → (m ≡ n) ⊎ (m ≡ n → ⊥) → kind_of (object s' m).body ≡ kind_of (object s m).body
  kinds m (inl z) = let P : ℕ → Type 0 = λ i. kind_of (object s' i).body ≡ kind_of (object s i).body in subst P (sym z) p.kind
  kinds m (inr ne) = ap (λ (o : Object). kind_of o.body) (p.same m ne)

  module _ (own : (c : ℕ) (r : Role) → k.role c ≡ r → Fits regions k s c (W c) r → owner r ≡ Some n → (c ≡ a → ⊥) → Alike r s s')
      (new : Fits regions k s' a (W' a) (k.role a)) where
    fits : (c : ℕ) → (c ≡ a) ⊎ (c ≡ a → ⊥) → Fits regions k s' c (W' c) (k.role c)
    fits c (inl z) = let P : ℕ → Type 0 = λ i. Fits regions k s' i (W' i) (k.role i) in subst P (sym z) new
    fits c (inr ne) =
        let Q : Parts → Type 0 = λ w. Fits regions k s' c w (k.role c) in
        subst Q (sym (words c ne)) (framed regions k k s s' (λ m. false) (same_map k s s' p.uses) c (W c) (k.role c) refl (λ m o. refl) (at (owned_by (k.role c) n)) (R.fits c))
      where
        at : (owner (k.role c) ≡ Some n) ⊎ ((m : ℕ) → owner (k.role c) ≡ Some m → m ≡ n → ⊥) → Alike (k.role c) s s'
        at (inl o) = own c (k.role c) refl (R.fits c) o ne
        at (inr f) = alike (k.role c) s s' (λ m o. p.same m (f m o))

    stored : Roled W' regions k s'
    stored = record {
      fits = λ c. fits c (cases_eq c a);
      begins = λ m u. (let P : Kind → Type 0 = λ x. Begins x (k.role (k.at m)) m in subst P (sym (kinds m (cases_eq m n))) (R.begins m (p.news m u)));
      young = R.young;
    }

  was : (r : Role) → k.role a ≡ r → Fits regions k s a (W a) r
  was r e = let P : Role → Type 0 = λ x. Fits regions k s a (W a) x in subst P e (R.fits a)

  -- the car of a pair
  module _ (ra : k.role a ≡ PairHead n) (car : Holds k.role (W' a).content (car_of (object s' n).body))
      (cdr : cdr_of (object s' n).body ≡ cdr_of (object s n).body) where
    own_head : (c : ℕ) (r : Role) → k.role c ≡ r → Fits regions k s c (W c) r → owner r ≡ Some n → (c ≡ a → ⊥) → Alike r s s'
    own_head c (PairHead m) e f o ne = absurd (ne (sym f.place ∙ ap k.at (let z : m ≡ n = cc in z) ∙ (was (PairHead n) ra).place))
    own_head c (Cell m i) e f o ne = absurd (ne (sym f.place ∙ ap k.at (let z : m ≡ n = cc in z) ∙ (was (PairHead n) ra).place))
    own_head c (Head m) e f o ne = absurd (ne (sym f.place ∙ ap k.at (let z : m ≡ n = cc in z) ∙ (was (PairHead n) ra).place))
    own_head c (PairTail m) e f o ne = let P : ℕ → Type 0 = λ i. Alike (PairTail i) s s' in subst P (let z : n ≡ m = cc in z) (p.charge, cdr)
    own_head c (Field m i) e f o ne =
        let z : m ≡ n = cc in let x : k.role a ≡ Head m = ap k.role (sym (was (PairHead n) ra).place ∙ ap k.at (sym z)) ∙ f.head in cc
    own_head c Blank e f o ne = tt
    own_head c Scratch e f o ne = tt
    own_head c Waste e f o ne = tt
    own_head c (HuskWord b) e f o ne = tt
    own_head c (Moved kind m) e f o ne = tt
    own_head c (Relaid kind m) e f o ne = tt

    pub store_head : Roled W' regions k s'
    store_head = stored own_head
        (let f = was (PairHead n) ra in let P : Role → Type 0 = λ x. Fits regions k s' a (W' a) x in
        subst P (sym ra) (record { used = p.uses n f.used; place = f.place; code = code ∙ f.code; tail = f.tail; age = f.age; car = car }))

  -- the cdr of a pair
  module _ (ra : k.role a ≡ PairTail n) (cdr : Holds k.role (W' a).content (cdr_of (object s' n).body))
      (car : car_of (object s' n).body ≡ car_of (object s n).body) where
    own_tail : (c : ℕ) (r : Role) → k.role c ≡ r → Fits regions k s c (W c) r → owner r ≡ Some n → (c ≡ a → ⊥) → Alike r s s'
    own_tail c (PairHead m) e f o ne = let P : ℕ → Type 0 = λ i. Alike (PairHead i) s s' in subst P (let z : n ≡ m = cc in z) car
    own_tail c (Cell m i) e f o ne =
        let z : m ≡ n = cc in let x : k.role c ≡ PairHead n = ap k.role (sym f.place ∙ ap k.at z) ∙ (was (PairTail n) ra).head in cc
    own_tail c (Head m) e f o ne =
        let z : m ≡ n = cc in let x : k.role c ≡ PairHead n = ap k.role (sym f.place ∙ ap k.at z) ∙ (was (PairTail n) ra).head in cc
    own_tail c (PairTail m) e f o ne = absurd (ne (sym f.place ∙ ap (λ (i : ℕ). suc (k.at i)) (let z : m ≡ n = cc in z) ∙ (was (PairTail n) ra).place))
    own_tail c (Field m i) e f o ne =
        let z : m ≡ n = cc in let x : k.role (k.at m) ≡ PairHead n = ap (λ (j : ℕ). k.role (k.at j)) z ∙ (was (PairTail n) ra).head in let y = f.head in cc
    own_tail c Blank e f o ne = tt
    own_tail c Scratch e f o ne = tt
    own_tail c Waste e f o ne = tt
    own_tail c (HuskWord b) e f o ne = tt
    own_tail c (Moved kind m) e f o ne = tt
    own_tail c (Relaid kind m) e f o ne = tt

    pub store_tail : Roled W' regions k s'
    store_tail = stored own_tail
        (let f = was (PairTail n) ra in let P : Role → Type 0 = λ x. Fits regions k s' a (W' a) x in
        let Q : ℕ → Type 0 = λ i. PairCode i (W' a).cdr in let C : CdrCode → Type 0 = λ i. PairCode (object s n).charge i in
        subst P (sym ra) (record { used = p.uses n f.used; place = f.place; head = f.head; region = f.region; code = subst Q (sym p.charge) (subst C (sym code) f.code); cdr = cdr }))

  -- the car of a cell
  module _ (i : ℕ) (ra : k.role a ≡ Cell n i) (car : Holds k.role (W' a).content (car_of (object s' n).body))
      (cdr : cdr_of (object s' n).body ≡ cdr_of (object s n).body) where
    own_cell : (c : ℕ) (r : Role) → k.role c ≡ r → Fits regions k s c (W c) r → owner r ≡ Some n → (c ≡ a → ⊥) → Alike r s s'
    own_cell c (PairHead m) e f o ne = absurd (ne (sym f.place ∙ ap k.at (let z : m ≡ n = cc in z) ∙ (was (Cell n i) ra).place))
    own_cell c (Cell m j) e f o ne = absurd (ne (sym f.place ∙ ap k.at (let z : m ≡ n = cc in z) ∙ (was (Cell n i) ra).place))
    own_cell c (Head m) e f o ne = absurd (ne (sym f.place ∙ ap k.at (let z : m ≡ n = cc in z) ∙ (was (Cell n i) ra).place))
    own_cell c (PairTail m) e f o ne =
        let z : m ≡ n = cc in let x : k.role a ≡ PairHead m = ap k.role (sym (was (Cell n i) ra).place ∙ ap k.at (sym z)) ∙ f.head in cc
    own_cell c (Field m j) e f o ne =
        let z : m ≡ n = cc in let x : k.role a ≡ Head m = ap k.role (sym (was (Cell n i) ra).place ∙ ap k.at (sym z)) ∙ f.head in cc
    own_cell c Blank e f o ne = tt
    own_cell c Scratch e f o ne = tt
    own_cell c Waste e f o ne = tt
    own_cell c (HuskWord b) e f o ne = tt
    own_cell c (Moved kind m) e f o ne = tt
    own_cell c (Relaid kind m) e f o ne = tt

    pub store_cell : Roled W' regions k s'
    store_cell = stored own_cell
        (let f = was (Cell n i) ra in let P : Role → Type 0 = λ x. Fits regions k s' a (W' a) x in
        let C : CdrCode → Type 0 = λ x. CellCdr k.role a i (cdr_of (object s n).body) x in
        subst P (sym ra) (record {
          used = p.uses n f.used;
          place = f.place;
          charge = p.charge ∙ f.charge;
          few = f.few;
          age = f.age;
          car = car;
          cdr = cell_cdr regions k k s s' (λ m. false) (same_map k s s' p.uses) a i _ _ (W' a).cdr cdr (subst C (sym code) f.cdr);
        }))

  -- a field of a block
  module _ (i : ℕ) (ra : k.role a ≡ Field n i) (value : Holds k.role (W' a).content (field_of (object s' n).body i))
      (header : header_of (object s' n).body ≡ header_of (object s n).body)
      (rest : (j : ℕ) → (j ≡ i → ⊥) → field_of (object s' n).body j ≡ field_of (object s n).body j) where
    own_field : (c : ℕ) (r : Role) → k.role c ≡ r → Fits regions k s c (W c) r → owner r ≡ Some n → (c ≡ a → ⊥) → Alike r s s'
    own_field c (PairHead m) e f o ne =
        let z : m ≡ n = cc in let x : k.role c ≡ Head n = ap k.role (sym f.place ∙ ap k.at z) ∙ (was (Field n i) ra).head in cc
    own_field c (Cell m j) e f o ne =
        let z : m ≡ n = cc in let x : k.role c ≡ Head n = ap k.role (sym f.place ∙ ap k.at z) ∙ (was (Field n i) ra).head in cc
    own_field c (Head m) e f o ne = let P : ℕ → Type 0 = λ j. Alike (Head j) s s' in subst P (let z : n ≡ m = cc in z) (p.charge, header)
    own_field c (PairTail m) e f o ne =
        let z : m ≡ n = cc in let x : k.role (k.at m) ≡ Head n = ap (λ (j : ℕ). k.role (k.at j)) z ∙ (was (Field n i) ra).head in let y = f.head in cc
    own_field c (Field m j) e f o ne =
        let z : n ≡ m = cc in
        let P : ℕ → Type 0 = λ q. Alike (Field q j) s s' in
        let x = (was (Field n i) ra).place in let y = f.place in let w = ap k.at z in
        subst P z (rest j (λ (q : j ≡ i). ne (omega arith)))
    own_field c Blank e f o ne = tt
    own_field c Scratch e f o ne = tt
    own_field c Waste e f o ne = tt
    own_field c (HuskWord b) e f o ne = tt
    own_field c (Moved kind m) e f o ne = tt
    own_field c (Relaid kind m) e f o ne = tt

    pub store_field : Roled W' regions k s'
    store_field = stored own_field
        (let f = was (Field n i) ra in let P : Role → Type 0 = λ x. Fits regions k s' a (W' a) x in
        subst P (sym ra) (record { used = p.uses n f.used; place = f.place; head = f.head; region = f.region; value = value }))

-- A word that has a value gets another part with that value

module _ (W W' : ℕ → Parts) (regions : ℕ → Class) (k : RoleMap) (s : Store) (R : Roled W regions k s) (a : ℕ) (v : Value)
    (words : (c : ℕ) → (c ≡ a → ⊥) → W' c ≡ W c) (code : (W' a).cdr ≡ (W a).cdr)
    (had : value_of k.role (W a).content ≡ Some v) (has : value_of k.role (W' a).content ≡ Some v) where
  again : (part : Option Value) → Holds k.role (W a).content part → Holds k.role (W' a).content part
  again part h = let z : Some h.0 ≡ Some v = sym h.2 ∙ had in (v, h.1 ∙ z, has)

  refit : (r : Role) → Fits regions k s a (W a) r → Fits regions k s a (W' a) r
  refit Blank f = let x = ap (λ (u : Parts). value_of k.role u.content) f in cc
  refit Scratch f = tt
  refit Waste f = f
  refit (HuskWord b) f = let x = ap (λ (u : Parts). value_of k.role u.content) f.blank in cc
  refit (PairHead n) f = record { used = f.used; place = f.place; code = code ∙ f.code; tail = f.tail; age = f.age; car = again _ f.car }
  refit (PairTail n) f =
      let C : CdrCode → Type 0 = λ x. PairCode (object s n).charge x in
      record { used = f.used; place = f.place; head = f.head; region = f.region; code = subst C (sym code) f.code; cdr = again _ f.cdr }
  refit (Cell n i) f =
      let C : CdrCode → Type 0 = λ x. CellCdr k.role a i (cdr_of (object s n).body) x in
      record { used = f.used; place = f.place; charge = f.charge; few = f.few; age = f.age; car = again _ f.car; cdr = subst C (sym code) f.cdr }
  refit (Head n) f = let x = ap (value_of k.role) f.content in cc
  refit (Field n i) f = record { used = f.used; place = f.place; head = f.head; region = f.region; value = again _ f.value }
  refit (Moved kind n) f = let x = ap (value_of k.role) f.content in cc
  refit (Relaid kind n) f = let x = ap (value_of k.role) f.content in cc

  at_word : (c : ℕ) → (c ≡ a) ⊎ (c ≡ a → ⊥) → Fits regions k s c (W' c) (k.role c)
  at_word c (inl z) = let P : ℕ → Type 0 = λ i. Fits regions k s i (W' i) (k.role i) in subst P (sym z) (refit (k.role a) (R.fits a))
  at_word c (inr ne) = let Q : Parts → Type 0 = λ w. Fits regions k s c w (k.role c) in subst Q (sym (words c ne)) (R.fits c)

  pub resettled : Roled W' regions k s
  resettled = record { fits = λ c. at_word c (cases_eq c a); begins = R.begins; young = R.young }

-- a store with the same objects and names, of whatever husks
pub restored : (W : ℕ → Parts) (regions : ℕ → Class) (k : RoleMap) (s s' : Store) → ((n : ℕ) → object s' n ≡ object s n) → ((n : ℕ) → in_use s n → in_use s' n) → ((n : ℕ) → in_use s' n → in_use s n)
    → Roled W regions k s → Roled W regions k s'
restored W regions k s s' same uses news R = record {
  fits = λ a. framed regions k k s s' (λ m. false) (same_map k s s' uses) a (W a) (k.role a) refl (λ m o. refl) (alike (k.role a) s s' (λ n o. same n)) (R.fits a);
  begins = λ n u. (let P : Object → Type 0 = λ o. Begins (kind_of o.body) (k.role (k.at n)) n in subst P (sym (same n)) (R.begins n (news n u)));
  young = R.young;
}
