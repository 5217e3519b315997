-- What each word of the memory is for (a ghost typing of the heap): the inductive form of the reading, without chains of forwards.
use Rattle.std.specs.Prelude.{◌≡◌, ◌⊎◌, ℕ, Option, Some, None, length, slice_get}
use Rattle.lisp_graph.specs.store_word.declared.word.Content.{Content}
use Rattle.lisp_graph.specs.store_word.declared.word.Content.TheVariants.{Nil as NilWord, Fixnum, List as ListAt, Struct as StructAt}
use Rattle.lisp_graph.specs.declared.object.Value.{Value}
use Rattle.lisp_graph.specs.declared.object.Value.TheVariants as V
use Rattle.lisp_graph.specs.declared.object.Body.{Body}
use Rattle.lisp_graph.specs.declared.object.Body.TheVariants.{Cons, Block}

-- the kind of a reference: to a cons or to a block
pub data Kind : Type 0 where
  AsCons AsBlock : Kind

-- what a word is for
pub data Role : Type 0 where
  -- above a used end; written and not yet used; a remnant in an old region
  Blank Scratch Waste : Role
  -- a NULL word of the husk that begins at this address
  HuskWord : (first : ℕ) → Role
  -- a part of the object with this name
  PairHead PairTail : (name : ℕ) → Role
  -- a cell, with its place in the list that it was made in
  Cell : (name place : ℕ) → Role
  Head : (name : ℕ) → Role
  Field : (name index : ℕ) → Role
  -- a GC-FORWARD, a HEADER-FORWARD
  Moved Relaid : (kind : Kind) (name : ℕ) → Role

-- the name that a reference of this kind to such a word has
abbrev pub names_as : Kind → Role → Option ℕ
names_as AsCons (PairHead n) = Some n
names_as AsCons (Cell n i) = Some n
names_as AsCons (Moved AsCons n) = Some n
names_as AsCons (Relaid AsCons n) = Some n
names_as AsBlock (Head n) = Some n
names_as AsBlock (Moved AsBlock n) = Some n
names_as AsBlock (Relaid AsBlock n) = Some n
names_as _ _ = None

-- the name whose object the word is a part of
abbrev pub owner : Role → Option ℕ
owner (PairHead n) = Some n
owner (PairTail n) = Some n
owner (Cell n i) = Some n
owner (Head n) = Some n
owner (Field n i) = Some n
owner _ = None

abbrev pub name_or : Option ℕ → ℕ
name_or None = 0
name_or (Some n) = n

abbrev pub as_ref : Option ℕ → Option Value
as_ref None = None
as_ref (Some n) = Some (V.Ref n)

-- the value of a word; to find that of a reference takes one look-up
abbrev pub value_of : (ℕ → Role) → Content → Option Value
value_of role NilWord = Some V.Nil
value_of role (Fixnum i) = Some (V.Fix i)
value_of role (ListAt a) = as_ref (names_as AsCons (role a))
value_of role (StructAt a) = as_ref (names_as AsBlock (role a))
value_of role _ = None

-- for each address what its word is for, and how often the object had been relocated when it was placed there; for each name its address
pub record RoleMap : Type 0 where
  pub role : ℕ → Role
  pub age : ℕ → ℕ
  pub at : ℕ → ℕ

-- the name of a reference to a cons at this address, or 0
abbrev pub name_at : RoleMap → ℕ → ℕ
name_at k a = name_or (names_as AsCons (k.role a))

-- Parts of an object; a cons has no header and no field, a block no car and no cdr

abbrev pub kind_of : Body → Kind
kind_of (Cons a d) = AsCons
kind_of (Block code fields) = AsBlock

abbrev pub car_of : Body → Option Value
car_of (Cons a d) = Some a
car_of (Block code fields) = None

abbrev pub cdr_of : Body → Option Value
cdr_of (Cons a d) = Some d
cdr_of (Block code fields) = None

abbrev pub field_of : Body → ℕ → Option Value
field_of (Cons a d) i = None
field_of (Block code fields) i = slice_get fields i

abbrev pub header_of : Body → Option (ℕ × ℕ)
header_of (Cons a d) = None
header_of (Block code fields) = Some (code, length fields)

-- an object of this kind begins at such a word
abbrev pub Begins : Kind → Role → ℕ → Type 0
Begins AsCons r n = (r ≡ PairHead n) ⊎ ((i : ℕ) × (r ≡ Cell n i))
Begins AsBlock r n = r ≡ Head n

-- each reference still has its meaning
abbrev pub Refines : (ℕ → Role) → (ℕ → Role) → Type 0
Refines old new = (kind : Kind) (a n : ℕ) → names_as kind (old a) ≡ Some n → names_as kind (new a) ≡ Some n
