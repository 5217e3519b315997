-- The objects to which references lead, by the words of a ground.
use Rattle.std.specs.Prelude.{◌≡◌, ℕ, suc, ◌+◌, ◌<◌, List, length, get_or, Some}
use Rattle.area_space.specs.store_word.Words.{Parts}
use Rattle.area_space.specs.store_word.declared.word.CdrCode.{CdrCode}
use Rattle.area_space.specs.store_word.declared.word.CdrCode.TheVariants.{Next as CdrNext, Nil as CdrNil, Normal as CdrNormal, Second as CdrSecond}
use Rattle.area_space.specs.store_word.declared.word.Content.{Content}
use Rattle.area_space.specs.store_word.declared.word.Content.TheVariants.{Nil, List as ListAt, Struct as StructAt, Header}
use Rattle.area_space.specs.lisp_graph.declared.object.Value.{Value}
use Rattle.area_space.specs.lisp_graph.declared.object.Value.TheVariants as V
use Rattle.area_space.specs.lisp_graph.declared.object.Body.TheVariants.{Cons, Block}
use Rattle.area_space.specs.mem_port.Store as Memory
use Rattle.area_space.specs.Table.{Table}
use Rattle.obj_layout.specs.Forwards.{word_at, Final}
use Rattle.lisp_meaning.specs.State.{Store, object, in_use}
use Rattle.lisp_meaning.specs.Roles.{Kind, AsCons, AsBlock, RoleMap, names_as, value_of, kind_of, Begins}
use Rattle.lisp_ground.specs.GroundInvariant.{GroundInvariant}
use Rattle.lisp_meaning.specs.Interpretation.{Interpretation}

-- The places of the parts of a cons

-- the cdr of a cons at its place, by the cdr code there: the next word's, NIL, or the list that begins at the next word
abbrev pub cdr_by : CdrCode → ℕ → Content → Content
cdr_by CdrNormal at next = next
cdr_by CdrNil at next = Nil
cdr_by CdrNext at next = ListAt (suc at)
cdr_by CdrSecond at next = ListAt (suc at)

-- the car of the cons at its place
abbrev pub car_in : List Parts → ℕ → Content
car_in words at = (word_at words at).content

-- its cdr
abbrev pub cdr_in : List Parts → ℕ → Content
cdr_in words at = cdr_by (word_at words at).cdr at (word_at words (suc at)).content

-- if a pair begins at an address, its second word is in the memory
abbrev pub HasCdr : List Parts → ℕ → Type 0
HasCdr words at = (word_at words at).cdr ≡ CdrNormal → suc at < length words

-- The object at a place

-- a reference of a kind to an address
abbrev pub reference : Kind → ℕ → Content
reference AsCons a = ListAt a
reference AsBlock a = StructAt a

-- an address leads to the place of the object with this name, which is held, of this kind and begins there
pub record LeadsTo (words : List Parts) (k : RoleMap) (s : Store) (kind : Kind) (a n : ℕ) : Type 0 where
  pub used : in_use s n
  pub kind_is : kind_of (object s n).body ≡ kind
  pub final : Final words a (k.at n)
  pub only : (b : ℕ) → Final words a b → b ≡ k.at n
  pub begins : Begins kind (k.role (k.at n)) n
  pub inside : k.at n < length words

-- a reference with a value leads to the object that the value names
pub record Refers (words : List Parts) (k : RoleMap) (s : Store) (kind : Kind) (a : ℕ) (v : Value) : Type 0 where
  pub name : ℕ
  pub value : v ≡ V.Ref name
  pub named : names_as kind (k.role a) ≡ Some name
  pub leads : LeadsTo words k s kind a name

-- a cons has the values of its parts in the words at its place
pub record IsConsIn (words : List Parts) (k : RoleMap) (s : Store) (n : ℕ) : Type 0 where
  pub car : Value
  pub cdr : Value
  pub body : (object s n).body ≡ Cons car cdr
  pub car_value : value_of k.role (car_in words (k.at n)) ≡ Some car
  pub cdr_value : value_of k.role (cdr_in words (k.at n)) ≡ Some cdr
  pub second : HasCdr words (k.at n)

-- a block has its header at its place, and the values of its fields in the words after it
pub record IsBlockIn (words : List Parts) (k : RoleMap) (s : Store) (n : ℕ) : Type 0 where
  pub code : ℕ
  pub fields : List Value
  pub body : (object s n).body ≡ Block code fields
  pub header : (word_at words (k.at n)).content ≡ Header code (length fields)
  pub field_values : (i : ℕ) → i < length fields → value_of k.role (word_at words (suc (k.at n) + i)).content ≡ Some (get_or fields i V.Nil)
  pub inside : k.at n + length fields < length words

-- On a ground an address with a name leads to the object of that name, a reference with a value to the object that it names, and conses and blocks have their parts in the words at their places.
pub record ReferencesLead : Type 0 where
  pub names : (m : Memory.Store) (t : Table) (it : Interpretation) → GroundInvariant m t it
      → (kind : Kind) (a n : ℕ) → names_as kind (it.map.role a) ≡ Some n → LeadsTo m.words it.map it.store kind a n
  pub values : (m : Memory.Store) (t : Table) (it : Interpretation) → GroundInvariant m t it
      → (kind : Kind) (a : ℕ) (v : Value) → value_of it.map.role (reference kind a) ≡ Some v → Refers m.words it.map it.store kind a v
  pub conses : (m : Memory.Store) (t : Table) (it : Interpretation) → GroundInvariant m t it
      → (n : ℕ) → in_use it.store n → kind_of (object it.store n).body ≡ AsCons → IsConsIn m.words it.map it.store n
  pub blocks : (m : Memory.Store) (t : Table) (it : Interpretation) → GroundInvariant m t it
      → (n : ℕ) → in_use it.store n → kind_of (object it.store n).body ≡ AsBlock → IsBlockIn m.words it.map it.store n
