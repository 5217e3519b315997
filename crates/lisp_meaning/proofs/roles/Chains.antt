-- The end of a chain of forwards, from the roles of words.
use Rattle.std.proofs.Common.{◌≡◌, ℕ, zero, suc, ◌+◌, ◌*◌, ◌-◌, ◌≤◌, ◌⊎◌, inl, inr, Bool, true, false, refl, sym, ◌∙◌, ap, subst, arith, Some, None}
use Rattle.lisp_graph.specs.declared.object.Value.{Value}
use Rattle.lisp_meaning.specs.reading.Classes.{Class, class_at, is_old_at, is_live_at}
use Rattle.lisp_meaning.specs.invariants.Fits.{Fits, Roled, IsMoved, IsRelaid}
use Rattle.lisp_meaning.specs.reading.Forwards.{forward_of}
use Rattle.lisp_meaning.specs.reading.Image.{Standing, Live, Old, Free, is_old, is_live}
use Rattle.lisp_meaning.specs.invariants.Roles.{Kind, AsCons, AsBlock, Role, Blank, Scratch, Waste, HuskWord, PairHead, PairTail, Cell, Head, Field, Moved, Relaid, names_as, value_of, RoleMap}
use Rattle.lisp_meaning.specs.machine.State.{Store, in_use}
use Rattle.lisp_graph.specs.store_word.Words.{Parts}
use Rattle.lisp_graph.specs.store_word.declared.word.Content.{Content}
use Rattle.lisp_graph.specs.store_word.declared.word.Content.TheVariants.{Null, Nil as NilWord, Fixnum, List as ListAt, Struct as StructAt, Header, HeaderForward, GcForward}

-- from a a forward leads on
pub record Onward (W : ℕ → Parts) (regions : ℕ → Class) (k : RoleMap) (kind : Kind) (n a : ℕ) : Type 0 where
  pub to : ℕ
  pub forward : forward_of (W a).content ≡ Some to
  pub named : names_as kind (k.role to) ≡ Some n
  pub rank : ((is_old_at regions a ≡ true) × (is_live_at regions to ≡ true) × (k.age to ≡ k.age a) × ((W a).content ≡ GcForward to))
      ⊎ ((class_at regions to ≡ class_at regions a) × (k.age to ≡ suc (k.age a)) × ((W a).content ≡ HeaderForward to))

-- what the word at a named address is
pub record Named (W : ℕ → Parts) (regions : ℕ → Class) (k : RoleMap) (s : Store) (kind : Kind) (n a : ℕ) : Type 0 where
  pub used : in_use s n
  -- the object is there, or one forward leads on
  pub step : ((k.at n ≡ a) × (forward_of (W a).content ≡ None)) ⊎ Onward W regions k kind n a

value_no_forward : (role : ℕ → Role) (c : Content) (v : Value) → value_of role c ≡ Some v → forward_of c ≡ None
value_no_forward role Null v e = cc
value_no_forward role NilWord v e = refl
value_no_forward role (Fixnum i) v e = refl
value_no_forward role (ListAt a) v e = refl
value_no_forward role (StructAt a) v e = refl
value_no_forward role (Header code n) v e = cc
value_no_forward role (HeaderForward a) v e = cc
value_no_forward role (GcForward a) v e = cc

pub name_is : (m n : ℕ) → Some m ≡ Some n → m ≡ n
name_is m n e = cc

pub live_not_old : (s : Standing) → is_live s ≡ true → is_old s ≡ false
live_not_old Live e = refl
live_not_old Old e = cc
live_not_old Free e = cc

module _ (W : ℕ → Parts) (regions : ℕ → Class) (k : RoleMap) (s : Store) where
  moved : (kind : Kind) (n a m : ℕ) → m ≡ n → IsMoved regions k s a (W a) kind m → Named W regions k s kind n a
  moved kind n a m e f =
      let P : ℕ → Type 0 = λ i. in_use s i in
      record { used = subst P e f.used; step = inr (record { to = f.to; forward = ap forward_of f.content; named = f.named ∙ ap Some e; rank = inl (f.old, f.live, f.age, f.content) }) }

  relaid : (kind : Kind) (n a m : ℕ) → m ≡ n → IsRelaid regions k s a (W a) kind m → Named W regions k s kind n a
  relaid kind n a m e f =
      let P : ℕ → Type 0 = λ i. in_use s i in
      record { used = subst P e f.used; step = inr (record { to = f.to; forward = ap forward_of f.content; named = f.named ∙ ap Some e; rank = inr (f.class, f.age, f.content) }) }

  pub named_by : (kind : Kind) (n a : ℕ) (r : Role) → Fits regions k s a (W a) r → names_as kind r ≡ Some n → Named W regions k s kind n a
  named_by AsCons n a (PairHead m) f e =
      let z = name_is m n e in
      let P : ℕ → Type 0 = λ i. in_use s i in
      record { used = subst P z f.used; step = inl (ap k.at (sym z) ∙ f.place, value_no_forward k.role (W a).content f.car.0 f.car.2) }
  named_by AsCons n a (Cell m i) f e =
      let z = name_is m n e in
      let P : ℕ → Type 0 = λ i. in_use s i in
      record { used = subst P z f.used; step = inl (ap k.at (sym z) ∙ f.place, value_no_forward k.role (W a).content f.car.0 f.car.2) }
  named_by AsBlock n a (Head m) f e =
      let z = name_is m n e in
      let P : ℕ → Type 0 = λ i. in_use s i in
      record { used = subst P z f.used; step = inl (ap k.at (sym z) ∙ f.place, ap forward_of f.content) }
  named_by AsCons n a (Moved AsCons m) f e = moved AsCons n a m (name_is m n e) f
  named_by AsBlock n a (Moved AsBlock m) f e = moved AsBlock n a m (name_is m n e) f
  named_by AsCons n a (Relaid AsCons m) f e = relaid AsCons n a m (name_is m n e) f
  named_by AsBlock n a (Relaid AsBlock m) f e = relaid AsBlock n a m (name_is m n e) f
  named_by AsCons n a Blank f e = cc
  named_by AsCons n a Scratch f e = cc
  named_by AsCons n a Waste f e = cc
  named_by AsCons n a (HuskWord b) f e = cc
  named_by AsCons n a (PairTail m) f e = cc
  named_by AsCons n a (Head m) f e = cc
  named_by AsCons n a (Field m i) f e = cc
  named_by AsCons n a (Moved AsBlock m) f e = cc
  named_by AsCons n a (Relaid AsBlock m) f e = cc
  named_by AsBlock n a Blank f e = cc
  named_by AsBlock n a Scratch f e = cc
  named_by AsBlock n a Waste f e = cc
  named_by AsBlock n a (HuskWord b) f e = cc
  named_by AsBlock n a (PairTail m) f e = cc
  named_by AsBlock n a (PairHead m) f e = cc
  named_by AsBlock n a (Cell m i) f e = cc
  named_by AsBlock n a (Field m i) f e = cc
  named_by AsBlock n a (Moved AsCons m) f e = cc
  named_by AsBlock n a (Relaid AsCons m) f e = cc

  -- the object of a name that is known in a region that isn't old is in the same class
  module _ (R : Roled W regions k s) where
    class_step : (a n : ℕ) (kind : Kind) → names_as kind (k.role a) ≡ Some n → is_old_at regions a ≡ false
        → ((k.at n ≡ a) × (forward_of (W a).content ≡ None)) ⊎ Onward W regions k kind n a
        → ((b : ℕ) → names_as kind (k.role b) ≡ Some n → class_at regions b ≡ class_at regions a → k.age b ≡ suc (k.age a) → class_at regions (k.at n) ≡ class_at regions b)
        → class_at regions (k.at n) ≡ class_at regions a
    class_step a n kind named live (inl x) rest = ap (class_at regions) x.0
    class_step a n kind named live (inr x) rest = go x.rank
      where
        go : ((is_old_at regions a ≡ true) × (is_live_at regions x.to ≡ true) × (k.age x.to ≡ k.age a) × ((W a).content ≡ GcForward x.to))
            ⊎ ((class_at regions x.to ≡ class_at regions a) × (k.age x.to ≡ suc (k.age a)) × ((W a).content ≡ HeaderForward x.to))
            → class_at regions (k.at n) ≡ class_at regions a
        go (inl y) = let z = y.0 in cc
        go (inr y) = rest x.to x.named y.0 y.1 ∙ y.0

    class_chain : (fuel a n : ℕ) (kind : Kind) → names_as kind (k.role a) ≡ Some n → is_old_at regions a ≡ false → 11 ≤ fuel + k.age a → class_at regions (k.at n) ≡ class_at regions a
    class_chain zero a n kind named live f = class_step a n kind named live (named_by kind n a (k.role a) (R.fits a) named).step
        (λ b nb lb e. let y = R.young kind b n nb in absurd (omega arith))
    class_chain (suc fuel) a n kind named live f = class_step a n kind named live (named_by kind n a (k.role a) (R.fits a) named).step
        (λ b nb lb e. class_chain fuel b n kind nb (ap (λ (c : Class). is_old c.standing) lb ∙ live) (omega arith))

    pub class_end : (a n : ℕ) (kind : Kind) → names_as kind (k.role a) ≡ Some n → is_old_at regions a ≡ false → class_at regions (k.at n) ≡ class_at regions a
    class_end a n kind named live = class_chain 11 a n kind named live (omega arith)

-- one forward further is of a lower rank, so every chain ends

abbrev pub one_if : Bool → ℕ
one_if true = 1
one_if false = 0

abbrev pub rank : (ℕ → Class) → RoleMap → ℕ → ℕ
rank regions k a = 2 * (11 - k.age a) + one_if (is_old_at regions a)
