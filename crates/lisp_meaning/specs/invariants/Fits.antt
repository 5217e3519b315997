-- Words that fit their roles.
use Rattle.std.specs.Prelude.{◌≡◌, ℕ, suc, ◌+◌, ◌^◌, ◌<◌, ◌≤◌, ◌⊎◌, true, Option, Some}
use Rattle.lisp_graph.specs.store_word.Words.{Parts, null_word}
use Rattle.lisp_graph.specs.store_word.declared.word.CdrCode.{CdrCode}
use Rattle.lisp_graph.specs.store_word.declared.word.CdrCode.TheVariants.{Next as CdrNext, Nil as CdrNil, Normal as CdrNormal, Second as CdrSecond}
use Rattle.lisp_graph.specs.store_word.declared.word.Content.{Content}
use Rattle.lisp_graph.specs.store_word.declared.word.Content.TheVariants.{Header, HeaderForward, GcForward}
use Rattle.lisp_graph.specs.declared.object.Value.{Value}
use Rattle.lisp_graph.specs.declared.object.Value.TheVariants as V
use Rattle.lisp_meaning.specs.machine.State.{Store, object, in_use}
use Rattle.lisp_meaning.specs.reading.Classes.{Class, region_of, class_at, is_old_at, is_live_at}
use Rattle.lisp_meaning.specs.invariants.Roles.{Kind, AsCons, AsBlock, Role, Blank, Scratch, Waste, HuskWord, PairHead, PairTail, Cell, Head, Field, Moved, Relaid, names_as, value_of, RoleMap, kind_of, car_of, cdr_of, field_of, header_of, Begins}

-- a word represents the value that the object has in this part
abbrev pub Holds : (ℕ → Role) → Content → Option Value → Type 0
Holds role c part = (v : Value) × (part ≡ Some v) × (value_of role c ≡ Some v)

-- the cdr of a cell: the next word of the region is the rest of the list, and if that is a cell, it has the next place in the list
abbrev pub CellCdr : (ℕ → Role) → ℕ → ℕ → Option Value → CdrCode → Type 0
CellCdr role a i cdr CdrNil = cdr ≡ Some V.Nil
CellCdr role a i cdr CdrNext =
    (m : ℕ) × (names_as AsCons (role (suc a)) ≡ Some m) × (cdr ≡ Some (V.Ref m)) × (region_of (suc a) ≡ region_of a)
    × ((p j : ℕ) → role (suc a) ≡ Cell p j → j ≡ suc i)
CellCdr role a i cdr CdrNormal = ⊥
CellCdr role a i cdr CdrSecond = ⊥

-- the cdr code of a pair's second word shows its charge
abbrev pub PairCode : ℕ → CdrCode → Type 0
PairCode charge code = ((charge ≡ 2) × (code ≡ CdrSecond)) ⊎ ((charge ≡ 3) × (code ≡ CdrNext))

-- What a word has to be, by its role. `s` has the objects, `a` is the word's address.

-- a NULL word after the first word of its husk, which is a forward to a block; each word between the two is of the same husk
pub record IsHuskWord (k : RoleMap) (a : ℕ) (w : Parts) (first : ℕ) : Type 0 where
  pub blank : w ≡ null_word
  pub after : first < a
  pub region : region_of a ≡ region_of first
  pub between : (c : ℕ) → first < c → c < a → k.role c ≡ HuskWord first
  pub block : (n : ℕ) × (k.role first ≡ Relaid AsBlock n)

-- the first word of a pair: the car
pub record IsPairHead (k : RoleMap) (s : Store) (a : ℕ) (w : Parts) (n : ℕ) : Type 0 where
  pub used : in_use s n
  pub place : k.at n ≡ a
  pub code : w.cdr ≡ CdrNormal
  pub tail : k.role (suc a) ≡ PairTail n
  pub age : k.age a ≤ 1
  pub car : Holds k.role w.content (car_of (object s n).body)

-- its second word: the cdr, and the charge in the cdr code
pub record IsPairTail (k : RoleMap) (s : Store) (a : ℕ) (w : Parts) (n : ℕ) : Type 0 where
  pub used : in_use s n
  pub place : suc (k.at n) ≡ a
  pub head : k.role (k.at n) ≡ PairHead n
  pub region : region_of a ≡ region_of (k.at n)
  pub code : PairCode (object s n).charge w.cdr
  pub cdr : Holds k.role w.content (cdr_of (object s n).body)

-- a cell: the car, and the cdr by the cdr code
pub record IsCell (k : RoleMap) (s : Store) (a : ℕ) (w : Parts) (n i : ℕ) : Type 0 where
  pub used : in_use s n
  pub place : k.at n ≡ a
  pub charge : (object s n).charge ≡ 3
  pub few : i < 1024
  pub age : k.age a ≡ 0
  pub car : Holds k.role w.content (car_of (object s n).body)
  pub cdr : CellCdr k.role a i (cdr_of (object s n).body) w.cdr

-- the header of a block
pub record IsHead (k : RoleMap) (s : Store) (a : ℕ) (w : Parts) (n : ℕ) : Type 0 where
  pub used : in_use s n
  pub place : k.at n ≡ a
  pub code : w.cdr ≡ CdrNext
  pub kind : ℕ
  pub size : ℕ
  pub content : w.content ≡ Header kind size
  pub header : header_of (object s n).body ≡ Some (kind, size)
  pub charge : (object s n).charge ≡ suc size
  pub age : 2 ^ k.age a ≤ suc size
  pub fields : (i : ℕ) → i < size → k.role (suc a + i) ≡ Field n i

-- a field of a block
pub record IsField (k : RoleMap) (s : Store) (a : ℕ) (w : Parts) (n i : ℕ) : Type 0 where
  pub used : in_use s n
  pub place : suc (k.at n) + i ≡ a
  pub head : k.role (k.at n) ≡ Head n
  pub region : region_of a ≡ region_of (k.at n)
  pub value : Holds k.role w.content (field_of (object s n).body i)

-- a GC-FORWARD, in an old region; the object's later place is live
pub record IsMoved (regions : ℕ → Class) (k : RoleMap) (s : Store) (a : ℕ) (w : Parts) (kind : Kind) (n : ℕ) : Type 0 where
  pub used : in_use s n
  pub old : is_old_at regions a ≡ true
  pub to : ℕ
  pub content : w.content ≡ GcForward to
  pub named : names_as kind (k.role to) ≡ Some n
  pub live : is_live_at regions to ≡ true
  pub age : k.age to ≡ k.age a

-- a HEADER-FORWARD; the later place is in the same class, whatever became of that
pub record IsRelaid (regions : ℕ → Class) (k : RoleMap) (s : Store) (a : ℕ) (w : Parts) (kind : Kind) (n : ℕ) : Type 0 where
  pub used : in_use s n
  pub to : ℕ
  pub content : w.content ≡ HeaderForward to
  pub named : names_as kind (k.role to) ≡ Some n
  pub class : class_at regions to ≡ class_at regions a
  pub age : k.age to ≡ suc (k.age a)

-- a word is as its role requires
abbrev pub Fits : (ℕ → Class) → RoleMap → Store → ℕ → Parts → Role → Type 0
Fits regions k s a w Blank = w ≡ null_word
Fits regions k s a w Scratch = Unit {0}
Fits regions k s a w Waste = is_old_at regions a ≡ true
Fits regions k s a w (HuskWord first) = IsHuskWord k a w first
Fits regions k s a w (PairHead n) = IsPairHead k s a w n
Fits regions k s a w (PairTail n) = IsPairTail k s a w n
Fits regions k s a w (Cell n i) = IsCell k s a w n i
Fits regions k s a w (Head n) = IsHead k s a w n
Fits regions k s a w (Field n i) = IsField k s a w n i
Fits regions k s a w (Moved kind n) = IsMoved regions k s a w kind n
Fits regions k s a w (Relaid kind n) = IsRelaid regions k s a w kind n

-- the words of the memory fit their roles, each held object begins at its address, and no age exceeds 11
pub record Roled (W : ℕ → Parts) (regions : ℕ → Class) (k : RoleMap) (s : Store) : Type 0 where
  pub fits : (a : ℕ) → Fits regions k s a (W a) (k.role a)
  pub begins : (n : ℕ) → in_use s n → Begins (kind_of (object s n).body) (k.role (k.at n)) n
  pub young : (kind : Kind) (a n : ℕ) → names_as kind (k.role a) ≡ Some n → k.age a ≤ 11
