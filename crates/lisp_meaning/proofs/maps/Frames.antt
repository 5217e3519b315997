-- A change of some objects leaves all others unchanged.
use Rattle.std.proofs.Common.{◌≡◌, ℕ, suc, ◌+◌, ◌^◌, ◌≤◌, ◌⊎◌, inl, inr, Bool, false, refl, sym, ◌∙◌, ap, subst, arith, Option, Some, None}
use Rattle.lisp_graph.specs.declared.object.Object.{Object}
use Rattle.lisp_graph.specs.declared.object.Value.{Value}
use Rattle.lisp_meaning.specs.reading.Classes.{Class, region_of}
use Rattle.lisp_meaning.specs.invariants.Fits.{Holds, CellCdr, PairCode, Fits}
use Rattle.lisp_meaning.specs.invariants.Roles.{Kind, AsCons, AsBlock, Role, Blank, Scratch, Waste, HuskWord, PairHead, PairTail, Cell, Head, Field, Moved, Relaid, names_as, owner, as_ref, value_of, RoleMap, car_of, cdr_of, field_of, header_of, Refines}
use Rattle.lisp_meaning.specs.machine.State.{Store, object, in_use}
use Rattle.lisp_graph.specs.store_word.Words.{Parts}
use Rattle.lisp_graph.specs.store_word.declared.word.CdrCode.{CdrCode}
use Rattle.lisp_graph.specs.store_word.declared.word.CdrCode.TheVariants.{Next as CdrNext, Nil as CdrNil, Normal as CdrNormal, Second as CdrSecond}
use Rattle.lisp_graph.specs.store_word.declared.word.Content.{Content}
use Rattle.lisp_graph.specs.store_word.declared.word.Content.TheVariants.{Null, Nil as NilWord, Fixnum, List as ListAt, Struct as StructAt, Header, HeaderForward, GcForward}

as_ref_some : (o p : Option ℕ) (v : Value) → ((n : ℕ) → o ≡ Some n → p ≡ Some n) → as_ref o ≡ Some v → as_ref p ≡ Some v
as_ref_some None p v f e = cc
as_ref_some (Some n) p v f e = ap as_ref (f n refl) ∙ e

-- a word that had a value has it still
pub refined : (old new : ℕ → Role) → Refines old new → (c : Content) (v : Value) → value_of old c ≡ Some v → value_of new c ≡ Some v
refined old new r Null v e = cc
refined old new r NilWord v e = e
refined old new r (Fixnum i) v e = e
refined old new r (ListAt a) v e = as_ref_some (names_as AsCons (old a)) (names_as AsCons (new a)) v (r AsCons a) e
refined old new r (StructAt a) v e = as_ref_some (names_as AsBlock (old a)) (names_as AsBlock (new a)) v (r AsBlock a) e
refined old new r (Header code n) v e = cc
refined old new r (HeaderForward a) v e = cc
refined old new r (GcForward a) v e = cc

pub refined_holds : (old new : ℕ → Role) → Refines old new → (c : Content) (p q : Option Value) → q ≡ p → Holds old c p → Holds new c q
refined_holds old new r c p q e h = (h.0, e ∙ h.1, refined old new r c h.0 h.2)

pub names_relaid : (kind : Kind) (m : ℕ) → names_as kind (Relaid kind m) ≡ Some m
names_relaid AsCons m = refl
names_relaid AsBlock m = refl

pub names_moved : (kind : Kind) (m : ℕ) → names_as kind (Moved kind m) ≡ Some m
names_moved AsCons m = refl
names_moved AsBlock m = refl

-- the part of the object that a word of this role shows is the same
abbrev pub Alike : Role → Store → Store → Type 0
Alike (PairHead n) s s' = car_of (object s' n).body ≡ car_of (object s n).body
Alike (PairTail n) s s' = ((object s' n).charge ≡ (object s n).charge) × (cdr_of (object s' n).body ≡ cdr_of (object s n).body)
Alike (Cell n i) s s' = ((object s' n).charge ≡ (object s n).charge) × (car_of (object s' n).body ≡ car_of (object s n).body) × (cdr_of (object s' n).body ≡ cdr_of (object s n).body)
Alike (Head n) s s' = ((object s' n).charge ≡ (object s n).charge) × (header_of (object s' n).body ≡ header_of (object s n).body)
Alike (Field n i) s s' = field_of (object s' n).body i ≡ field_of (object s n).body i
Alike _ s s' = Unit {0}

-- an object that is the same is alike in each part
pub alike : (r : Role) (s s' : Store) → ((n : ℕ) → owner r ≡ Some n → object s' n ≡ object s n) → Alike r s s'
alike Blank s s' f = tt
alike Scratch s s' f = tt
alike Waste s s' f = tt
alike (HuskWord b) s s' f = tt
alike (PairHead n) s s' f = ap (λ (o : Object). car_of o.body) (f n refl)
alike (PairTail n) s s' f = (ap (λ (o : Object). o.charge) (f n refl), ap (λ (o : Object). cdr_of o.body) (f n refl))
alike (Cell n i) s s' f = (ap (λ (o : Object). o.charge) (f n refl), ap (λ (o : Object). car_of o.body) (f n refl), ap (λ (o : Object). cdr_of o.body) (f n refl))
alike (Head n) s s' f = (ap (λ (o : Object). o.charge) (f n refl), ap (λ (o : Object). header_of o.body) (f n refl))
alike (Field n i) s s' f = ap (λ (o : Object). field_of o.body i) (f n refl)
alike (Moved kind n) s s' f = tt
alike (Relaid kind n) s s' f = tt

-- a change that leaves the places and the parts of all names but those that are exempt
pub record Frame (k k' : RoleMap) (s s' : Store) (exempt : ℕ → Bool) : Type 0 where
  pub refine : Refines k.role k'.role
  pub place : (m : ℕ) → exempt m ≡ false → k'.at m ≡ k.at m
  pub parts : (c m : ℕ) → owner (k.role c) ≡ Some m → exempt m ≡ false → k'.role c ≡ k.role c
  pub relaid : (c m : ℕ) (kind : Kind) → k.role c ≡ Relaid kind m → k'.role c ≡ Relaid kind m
  pub husks : (c first : ℕ) → k.role c ≡ HuskWord first → k'.role c ≡ HuskWord first
  -- a word that is a cell by the later map was the same cell, or no reference to a cons there had a name
  pub cells : (c m i : ℕ) → k'.role c ≡ Cell m i → (k.role c ≡ Cell m i) ⊎ (names_as AsCons (k.role c) ≡ None)
  pub ages : (kind : Kind) (c m : ℕ) → names_as kind (k.role c) ≡ Some m → k'.age c ≡ k.age c
  pub used : (m : ℕ) → in_use s m → in_use s' m

module _ (regions : ℕ → Class) (k k' : RoleMap) (s s' : Store) (exempt : ℕ → Bool) (f : Frame k k' s s' exempt) where
  pub holds : (c : Content) (p q : Option Value) → q ≡ p → Holds k.role c p → Holds k'.role c q
  holds c p q e h = refined_holds k.role k'.role f.refine c p q e h

  pub cell_cdr : (a i : ℕ) (p q : Option Value) (code : CdrCode) → q ≡ p → CellCdr k.role a i p code → CellCdr k'.role a i q code
  cell_cdr a i p q CdrNil e h = e ∙ h
  cell_cdr a i p q CdrNext e h = (h.0, f.refine AsCons (suc a) h.0 h.1, e ∙ h.2, h.3, λ m j r. go m j (f.cells (suc a) m j r))
    where
      go : (m j : ℕ) → (k.role (suc a) ≡ Cell m j) ⊎ (names_as AsCons (k.role (suc a)) ≡ None) → j ≡ suc i
      go m j (inl x) = h.4 m j x
      go m j (inr x) = let y = h.1 in cc
  cell_cdr a i p q CdrNormal e h = h
  cell_cdr a i p q CdrSecond e h = h

  pair_code : (c d : ℕ) (code : CdrCode) → d ≡ c → PairCode c code → PairCode d code
  pair_code c d code e (inl x) = inl (e ∙ x.0, x.1)
  pair_code c d code e (inr x) = inr (e ∙ x.0, x.1)

  -- whether a word fits is a matter of that word, and of what its role names
  pub framed : (a : ℕ) (w : Parts) (r : Role) → k.role a ≡ r → ((m : ℕ) → owner r ≡ Some m → exempt m ≡ false) → Alike r s s'
      → Fits regions k s a w r → Fits regions k' s' a w r
  framed a w Blank e away same h = h
  framed a w Scratch e away same h = tt
  framed a w Waste e away same h = h
  framed a w (HuskWord b) e away same h =
      record { blank = h.blank; after = h.after; region = h.region; between = λ c l t. f.husks c b (h.between c l t); block = (h.block.0, f.relaid b h.block.0 AsBlock h.block.1) }
  framed a w (PairHead n) e away same h = record {
    used = f.used n h.used;
    place = f.place n (away n refl) ∙ h.place;
    code = h.code;
    tail = f.parts (suc a) n (ap owner h.tail) (away n refl) ∙ h.tail;
    age = (let y = f.ages AsCons a n (ap (names_as AsCons) e) in let z = h.age in omega arith);
    car = holds w.content _ _ same h.car;
  }
  framed a w (PairTail n) e away same h =
      let x = f.place n (away n refl) in record {
        used = f.used n h.used;
        place = ap suc x ∙ h.place;
        head = ap k'.role x ∙ f.parts (k.at n) n (ap owner h.head) (away n refl) ∙ h.head;
        region = h.region ∙ ap region_of (sym x);
        code = pair_code _ _ w.cdr same.0 h.code;
        cdr = holds w.content _ _ same.1 h.cdr;
      }
  framed a w (Cell n i) e away same h = record {
    used = f.used n h.used;
    place = f.place n (away n refl) ∙ h.place;
    charge = same.0 ∙ h.charge;
    few = h.few;
    age = f.ages AsCons a n (ap (names_as AsCons) e) ∙ h.age;
    car = holds w.content _ _ same.1 h.car;
    cdr = cell_cdr a i _ _ w.cdr same.2 h.cdr;
  }
  framed a w (Head n) e away same h = record {
    used = f.used n h.used;
    place = f.place n (away n refl) ∙ h.place;
    code = h.code;
    kind = h.kind;
    size = h.size;
    content = h.content;
    header = same.1 ∙ h.header;
    charge = same.0 ∙ h.charge;
    age = (let P : ℕ → Type 0 = λ i. 2 ^ i ≤ suc h.size in subst P (sym (f.ages AsBlock a n (ap (names_as AsBlock) e))) h.age);
    fields = λ i l. f.parts (suc a + i) n (ap owner (h.fields i l)) (away n refl) ∙ h.fields i l;
  }
  framed a w (Field n i) e away same h =
      let x = f.place n (away n refl) in record {
        used = f.used n h.used;
        place = ap (λ (j : ℕ). suc j + i) x ∙ h.place;
        head = ap k'.role x ∙ f.parts (k.at n) n (ap owner h.head) (away n refl) ∙ h.head;
        region = h.region ∙ ap region_of (sym x);
        value = holds w.content _ _ same h.value;
      }
  framed a w (Moved kind n) e away same h = record {
    used = f.used n h.used;
    old = h.old;
    to = h.to;
    content = h.content;
    named = f.refine kind h.to n h.named;
    live = h.live;
    age = f.ages kind h.to n h.named ∙ h.age ∙ sym (f.ages kind a n (ap (names_as kind) e ∙ names_moved kind n));
  }
  framed a w (Relaid kind n) e away same h = record {
    used = f.used n h.used;
    to = h.to;
    content = h.content;
    named = f.refine kind h.to n h.named;
    class = h.class;
    age = f.ages kind h.to n h.named ∙ h.age ∙ ap suc (sym (f.ages kind a n (ap (names_as kind) e ∙ names_relaid kind n)));
  }
