-- When no word of a region that stays has an old address, the old regions may be cleared: the names in them are freed.
use Rattle.std.proofs.Common.{arith, ◌≡◌, ℕ, suc, ◌+◌, ◌≤◌, ◌⊎◌, inl, inr, Bool, true, false, refl, sym, ◌∙◌, ap, subst, Option, Some, if◌then◌else◌}
use Rattle.std.proofs.lemmas.Bool.{cases_Bool}
use Rattle.lisp_graph.specs.declared.object.Object.{Object}
use Rattle.lisp_graph.specs.declared.object.Value.{Value}
use Rattle.lisp_meaning.specs.reading.Classes.{Class, region_of, class_at, is_old_at}
use Rattle.lisp_meaning.specs.invariants.Fits.{Holds, CellCdr, PairCode, Fits, Roled}
use Rattle.lisp_meaning.specs.reading.Image.{is_old}
use Rattle.lisp_meaning.specs.invariants.Roles.{Kind, AsCons, AsBlock, Role, Blank, Scratch, Waste, HuskWord, PairHead, PairTail, Cell, Head, Field, Moved, Relaid, names_as, as_ref, value_of, RoleMap, kind_of, car_of, cdr_of, field_of, header_of, Begins}
use Rattle.lisp_meaning.specs.keeping.TableChanges.{free_class, freed, cleared}
use Rattle.lisp_meaning.specs.machine.State.{Store, object, in_use}
use Rattle.lisp_graph.specs.store_word.Words.{Parts, null_word, address_of}
use Rattle.lisp_graph.specs.store_word.declared.word.CdrCode.{CdrCode}
use Rattle.lisp_graph.specs.store_word.declared.word.CdrCode.TheVariants.{Next as CdrNext, Nil as CdrNil, Normal as CdrNormal, Second as CdrSecond}
use Rattle.lisp_graph.specs.store_word.declared.word.Content.{Content}
use Rattle.lisp_graph.specs.store_word.declared.word.Content.TheVariants.{Null, Nil as NilWord, Fixnum, List as ListAt, Struct as StructAt, Header, HeaderForward, GcForward}
use Rattle.lisp_meaning.proofs.maps.Frames.{names_relaid}
use Rattle.lisp_meaning.proofs.roles.Chains.{class_end}

-- what has a role in an old region has none any more
abbrev pub dropped : (ℕ → Class) → RoleMap → RoleMap
dropped regions k = record k { role = λ a. if is_old_at regions a then Blank else k.role a }

module _ (W : ℕ → Parts) (regions : ℕ → Class) (k : RoleMap) (s s' : Store) (R : Roled W regions k s)
    -- a value in a region that stays is nothing old
    (fresh : (a b : ℕ) (v : Value) → is_old_at regions a ≡ false → value_of k.role (W a).content ≡ Some v → address_of (W a).content ≡ Some b → is_old_at regions b ≡ false)
    (objects : (n : ℕ) → object s' n ≡ object s n)
    (keeps : (n : ℕ) → in_use s n → is_old_at regions (k.at n) ≡ false → in_use s' n)
    (only : (n : ℕ) → in_use s' n → in_use s n × (is_old_at regions (k.at n) ≡ false)) where
  role_stays : (a : ℕ) → is_old_at regions a ≡ false → (dropped regions k).role a ≡ k.role a
  role_stays a e = ap (λ (b : Bool). if b then Blank else k.role a) e

  word_stays : (a : ℕ) → is_old_at regions a ≡ false → cleared regions W a ≡ W a
  word_stays a e = ap (λ (b : Bool). if b then null_word else W a) e

  class_stays : (a : ℕ) → is_old_at regions a ≡ false → class_at (freed regions) a ≡ class_at regions a
  class_stays a e = ap (λ (b : Bool). if b then free_class else class_at regions a) e

  near : (a b : ℕ) → region_of a ≡ region_of b → is_old_at regions b ≡ false → is_old_at regions a ≡ false
  near a b z e = ap (λ (r : ℕ). is_old (regions r).standing) z ∙ e

  value_stays : (c : Content) (v : Value) → ((b : ℕ) → address_of c ≡ Some b → is_old_at regions b ≡ false) → value_of k.role c ≡ Some v → value_of (dropped regions k).role c ≡ Some v
  value_stays Null v f e = cc
  value_stays NilWord v f e = e
  value_stays (Fixnum i) v f e = e
  value_stays (ListAt b) v f e = ap (λ (r : Role). as_ref (names_as AsCons r)) (role_stays b (f b refl)) ∙ e
  value_stays (StructAt b) v f e = ap (λ (r : Role). as_ref (names_as AsBlock r)) (role_stays b (f b refl)) ∙ e
  value_stays (Header code n) v f e = cc
  value_stays (HeaderForward b) v f e = cc
  value_stays (GcForward b) v f e = cc

  holds_stays : (a : ℕ) (p q : Option Value) → is_old_at regions a ≡ false → q ≡ p → Holds k.role (W a).content p → Holds (dropped regions k).role (W a).content q
  holds_stays a p q e z h = (h.0, z ∙ h.1, value_stays (W a).content h.0 (λ b f. fresh a b h.0 e h.2 f) h.2)

  cell_stays : (a i : ℕ) (p q : Option Value) (code : CdrCode) → is_old_at regions a ≡ false → q ≡ p → CellCdr k.role a i p code → CellCdr (dropped regions k).role a i q code
  cell_stays a i p q CdrNil e z h = z ∙ h
  cell_stays a i p q CdrNext e z h =
      let r = role_stays (suc a) (near (suc a) a h.3 e) in
      (h.0, ap (names_as AsCons) r ∙ h.1, z ∙ h.2, h.3, λ m j x. h.4 m j (sym r ∙ x))
  cell_stays a i p q CdrNormal e z h = h
  cell_stays a i p q CdrSecond e z h = h

  pair_code : (n : ℕ) (code : CdrCode) → PairCode (object s n).charge code → PairCode (object s' n).charge code
  pair_code n code f = let P : Object → Type 0 = λ o. PairCode o.charge code in subst P (sym (objects n)) f

  at_stays : (n a : ℕ) → in_use s n → k.at n ≡ a → is_old_at regions a ≡ false → in_use s' n
  at_stays n a u z e = keeps n u (ap (is_old_at regions) z ∙ e)

  fits_at : (a : ℕ) (r : Role) → k.role a ≡ r → Fits regions k s a (W a) r
  fits_at a r e = let P : Role → Type 0 = λ x. Fits regions k s a (W a) x in subst P e (R.fits a)

  still : (a : ℕ) (r : Role) → k.role a ≡ r → is_old_at regions a ≡ false → Fits regions k s a (W a) r → Fits (freed regions) (dropped regions k) s' a (W a) r
  still a Blank rc e f = f
  still a Scratch rc e f = tt
  still a Waste rc e f = cc
  still a (HuskWord b) rc e f = record {
    blank = f.blank;
    after = f.after;
    region = f.region;
    between = λ c l h. (let z = f.after in let y = f.region in role_stays c (near c a (omega arith) e) ∙ f.between c l h);
    block = (f.block.0, role_stays b (near b a (sym f.region) e) ∙ f.block.1);
  }
  still a (PairHead n) rc e f =
      let t = fits_at (suc a) (PairTail n) f.tail in record {
        used = at_stays n a f.used f.place e;
        place = f.place;
        code = f.code;
        tail = role_stays (suc a) (near (suc a) a (t.region ∙ ap region_of f.place) e) ∙ f.tail;
        age = f.age;
        car = holds_stays a _ _ e (ap (λ (o : Object). car_of o.body) (objects n)) f.car;
      }
  still a (PairTail n) rc e f =
      let l = near (k.at n) a (sym f.region) e in record {
        used = keeps n f.used l;
        place = f.place;
        head = role_stays (k.at n) l ∙ f.head;
        region = f.region;
        code = pair_code n (W a).cdr f.code;
        cdr = holds_stays a _ _ e (ap (λ (o : Object). cdr_of o.body) (objects n)) f.cdr;
      }
  still a (Cell n i) rc e f = record {
    used = at_stays n a f.used f.place e;
    place = f.place;
    charge = ap (λ (o : Object). o.charge) (objects n) ∙ f.charge;
    few = f.few;
    age = f.age;
    car = holds_stays a _ _ e (ap (λ (o : Object). car_of o.body) (objects n)) f.car;
    cdr = cell_stays a i _ _ (W a).cdr e (ap (λ (o : Object). cdr_of o.body) (objects n)) f.cdr;
  }
  still a (Head n) rc e f = record {
    used = at_stays n a f.used f.place e;
    place = f.place;
    code = f.code;
    kind = f.kind;
    size = f.size;
    content = f.content;
    header = ap (λ (o : Object). header_of o.body) (objects n) ∙ f.header;
    charge = ap (λ (o : Object). o.charge) (objects n) ∙ f.charge;
    age = f.age;
    fields = λ i l. (let t = fits_at (suc a + i) (Field n i) (f.fields i l) in role_stays (suc a + i) (near (suc a + i) a (t.region ∙ ap region_of f.place) e) ∙ f.fields i l);
  }
  still a (Field n i) rc e f =
      let l = near (k.at n) a (sym f.region) e in record {
        used = keeps n f.used l;
        place = f.place;
        head = role_stays (k.at n) l ∙ f.head;
        region = f.region;
        value = holds_stays a _ _ e (ap (λ (o : Object). field_of o.body i) (objects n)) f.value;
      }
  still a (Moved kind n) rc e f = let z = f.old in cc
  still a (Relaid kind n) rc e f =
      let named : names_as kind (k.role a) ≡ Some n = ap (names_as kind) rc ∙ names_relaid kind n in
      let l : is_old_at regions f.to ≡ false = ap (λ (c : Class). is_old c.standing) f.class ∙ e in record {
        used = keeps n f.used (ap (λ (c : Class). is_old c.standing) (class_end W regions k s R a n kind named e) ∙ e);
        to = f.to;
        content = f.content;
        named = ap (names_as kind) (role_stays f.to l) ∙ f.named;
        class = class_stays f.to l ∙ f.class ∙ sym (class_stays a e);
        age = f.age;
      }

  fits : (a : ℕ) → (is_old_at regions a ≡ true) ⊎ (is_old_at regions a ≡ false) → Fits (freed regions) (dropped regions k) s' a (cleared regions W a) ((dropped regions k).role a)
  fits a (inl e) =
      let P : Role → Type 0 = λ r. Fits (freed regions) (dropped regions k) s' a (cleared regions W a) r in
      subst P (sym (ap (λ (b : Bool). if b then Blank else k.role a) e)) (ap (λ (b : Bool). if b then null_word else W a) e)
  fits a (inr e) =
      let P : Role → Type 0 = λ r. Fits (freed regions) (dropped regions k) s' a (cleared regions W a) r in
      let Q : Parts → Type 0 = λ w. Fits (freed regions) (dropped regions k) s' a w (k.role a) in
      subst P (sym (role_stays a e)) (subst Q (sym (word_stays a e)) (still a (k.role a) refl e (R.fits a)))

  no_names : (kind : Kind) (n : ℕ) → names_as kind Blank ≡ Some n → ⊥
  no_names AsCons n e = cc
  no_names AsBlock n e = cc

  young : (kind : Kind) (a n : ℕ) → (is_old_at regions a ≡ true) ⊎ (is_old_at regions a ≡ false) → names_as kind ((dropped regions k).role a) ≡ Some n → k.age a ≤ 11
  young kind a n (inl e) h = absurd (no_names kind n (sym (ap (names_as kind) (ap (λ (b : Bool). if b then Blank else k.role a) e)) ∙ h))
  young kind a n (inr e) h = R.young kind a n (sym (ap (names_as kind) (role_stays a e)) ∙ h)

  -- the remaining words fit the roles of the remaining names
  pub drop : Roled (cleared regions W) (freed regions) (dropped regions k) s'
  drop = record {
    fits = λ a. fits a (cases_Bool (is_old_at regions a));
    begins = λ n u.
        let o = only n u in
        let P : Role → Type 0 = λ r. Begins (kind_of (object s n).body) r n in
        let Q : Object → Type 0 = λ x. Begins (kind_of x.body) ((dropped regions k).role (k.at n)) n in
        subst Q (sym (objects n)) (subst P (sym (role_stays (k.at n) o.1)) (R.begins n o.0));
    young = λ kind a n h. young kind a n (cases_Bool (is_old_at regions a)) h;
  }
