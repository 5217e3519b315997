-- Changes of objects on a ground.
use Rattle.std.specs.Prelude.{◌≡◌, ℕ, suc, ◌+◌, ◌/◌, ◌<◌, ◌≤◌, List, length, slice_set, slice_get, slice_index, Some, Contains}
use Rattle.area_space.specs.store_word.declared.sizes.TheConstants.{REGION_WORDS}
use Rattle.area_space.specs.store_word.Words.{Parts, null_word}
use Rattle.area_space.specs.store_word.declared.word.CdrCode.TheVariants.{Next as CdrNext, Normal as CdrNormal}
use Rattle.area_space.specs.store_word.declared.word.Content.TheVariants.{Nil as NilWord, Header, HeaderForward}
use Rattle.area_space.specs.lisp_graph.declared.object.Value.{Value}
use Rattle.area_space.specs.lisp_graph.declared.object.Body.TheVariants.{Cons, Block}
use Rattle.area_space.specs.lisp_graph.Effect.{grown_length, grown_block}
use Rattle.area_space.specs.mem_port.Store.{Store, Stores}
use Rattle.area_space.specs.declared.classes.Origin.TheVariants.{New, Reserve}
use Rattle.area_space.specs.Table.{Table, areas_of, levels_of, slot_of, live, chain}
use Rattle.area_space.specs.Sound.{IsTable}
use Rattle.area_space.specs.Places.{IsEnd}
use Rattle.area_space.specs.Charges.{committed, husked}
use Rattle.obj_layout.specs.Forwards.{word_at}
use Rattle.lisp_meaning.specs.State.{rule_of, object}
use Rattle.lisp_meaning.specs.Changes.{put_body, with_grown}
use Rattle.lisp_meaning.specs.Charges.{account}
use Rattle.lisp_meaning.specs.Roles.{AsCons, AsBlock, RoleMap, value_of}
use Rattle.lisp_meaning.specs.Rewriting.{StandsThere}
use Rattle.lisp_ground.specs.Image.{ground_image}
use Rattle.lisp_ground.specs.GroundInvariant.{GroundInvariant}
use Rattle.lisp_meaning.specs.Interpretation.{Interpretation}
use Rattle.lisp_ground.specs.Writes.{WritesWithin}
use Rattle.lisp_ground.specs.After.{AfterOn, AfterStore}

-- Stores

-- a word with a value is stored, with the cdr code of the word before it
pub record StoresValue (old new : Store) (k : RoleMap) (a : ℕ) (value : Value) : Type 0 where
  pub stored : Parts
  pub stores : Stores old new a stored
  pub value_is : value_of k.role stored.content ≡ Some value
  pub code : stored.cdr ≡ (word_at old.words a).cdr

-- into a car
abbrev pub CarStoredOn : Type 0
CarStoredOn =
    (m m' : Store) (t : Table) (it : Interpretation) (a n : ℕ) (car cdr new : Value)
    → GroundInvariant m t it → StandsThere (ground_image m t) it.map AsCons a n → (object it.store n).body ≡ Cons car cdr → StoresValue m m' it.map a new
    → AfterStore m t m' it (put_body it.store n (Cons new cdr))

-- into the cdr of a pair
abbrev pub CdrStoredOn : Type 0
CdrStoredOn =
    (m m' : Store) (t : Table) (it : Interpretation) (a n : ℕ) (car cdr new : Value)
    → GroundInvariant m t it → StandsThere (ground_image m t) it.map AsCons a n → (word_at m.words a).cdr ≡ CdrNormal → (object it.store n).body ≡ Cons car cdr → StoresValue m m' it.map (suc a) new
    → AfterStore m t m' it (put_body it.store n (Cons car new))

-- into a field
abbrev pub FieldStoredOn : Type 0
FieldStoredOn =
    (m m' : Store) (t : Table) (it : Interpretation) (a n i code : ℕ) (fields : List Value) (new : Value)
    → GroundInvariant m t it → StandsThere (ground_image m t) it.map AsBlock a n → (object it.store n).body ≡ Block code fields → i < length fields → StoresValue m m' it.map (suc a + i) new
    → AfterStore m t m' it (put_body it.store n (Block code (slice_set fields i new)))

-- a word that has a value gets another content with that value: no object changes
abbrev pub ResettledOn : Type 0
ResettledOn =
    (m m' : Store) (t : Table) (it : Interpretation) (a : ℕ) (value : Value)
    → GroundInvariant m t it → value_of it.map.role (word_at m.words a).content ≡ Some value → StoresValue m m' it.map a value
    → AfterStore m t m' it it.store

-- A store into a car, a cdr or a field changes that part of the object, and another content with the same value changes none.
pub record StoresChangeObjects : Type 0 where
  pub car : CarStoredOn
  pub cdr : CdrStoredOn
  pub field : FieldStoredOn
  pub same_value : ResettledOn

-- Objects that are relocated

-- An object at a, in a live class, gets `count` words at the used end of this class; then a HEADER-FORWARD to them is stored at a, and `blank` NULL words after it. `mid` has the new words, `new` the others too
pub record RelaysOn (old : Store) (table : Table) (mid new : Store) (new_table : Table) (a b count area level blank : ℕ) : Type 0 where
  pub area_in : area < areas_of table
  pub level_in : level < levels_of table
  pub stands : Contains (chain table (live (slot_of table area level))) (a / REGION_WORDS)
  pub end : IsEnd table (slot_of table area level) b count
  pub writes : WritesWithin old mid b count
  pub rewrites : WritesWithin mid new a (suc blank)
  pub forward : Parts
  pub forward_at : slice_get new.words a ≡ Some forward
  pub leads : forward.content ≡ HeaderForward b
  pub blanks : (j : ℕ) → 0 < j → j < suc blank → slice_get new.words (a + j) ≡ Some null_word
  pub sound : IsTable new_table

-- a cell becomes a pair with another cdr: its charge pays for the words
abbrev pub CellRelaidOn : Type 0
CellRelaidOn =
    (m mid m' : Store) (t t' : Table) (it : Interpretation) (a b n area level : ℕ) (car cdr new : Value) (first second : Parts)
    → GroundInvariant m t it → StandsThere (ground_image m t) it.map AsCons a n → ((word_at m.words a).cdr ≡ CdrNormal → ⊥) → (object it.store n).body ≡ Cons car cdr
    → RelaysOn m t mid m' t' a b 2 area level 0
    → t' ≡ record (committed t (slot_of t area level) b 2 0 Reserve) { pages = t'.pages }
    → slice_get mid.words b ≡ Some first → first.cdr ≡ CdrNormal → value_of it.map.role first.content ≡ Some car
    → slice_get mid.words (suc b) ≡ Some second → second.cdr ≡ CdrNext → value_of it.map.role second.content ≡ Some new
    → AfterOn m t m' t' it (put_body it.store n (Cons car new)) 0 AsCons b 1 (λ i. n)

-- the words of a block that grew: a header, the old fields and then NIL
pub record MakesGrown (old new : Store) (a b code size wide : ℕ) : Type 0 where
  pub header_at : slice_get new.words b ≡ Some (record { cdr = CdrNext; content = Header code wide })
  pub copied : (j : ℕ) → j < size → (word_at new.words (suc b + j)).content ≡ (word_at old.words (suc a + j)).content
  pub nils : (j : ℕ) → size ≤ j → j < wide → (word_at new.words (suc b + j)).content ≡ NilWord

-- a block becomes a wider one, and its old words become a husk
abbrev pub BlockGrownOn : Type 0
BlockGrownOn =
    (m mid m' : Store) (t c t' : Table) (it : Interpretation) (a b n code wanted area level : ℕ) (fields : List Value)
    → GroundInvariant m t it → StandsThere (ground_image m t) it.map AsBlock a n → (object it.store n).body ≡ Block code fields → length fields < wanted → wanted ≤ 2047
    → account it.top it.store it.aim area + suc (grown_length (length fields) wanted) ≤ (rule_of it.areas area).quota
    → RelaysOn m t mid m' t' a b (suc (grown_length (length fields) wanted)) area level (length fields)
    → c ≡ record (committed t (slot_of t area level) b (suc (grown_length (length fields) wanted)) (suc (grown_length (length fields) wanted)) New) { pages = c.pages }
    → t' ≡ husked c (live (slot_of t area level)) (suc (length fields)) → suc (length fields) ≤ slice_index c.charges (live (slot_of t area level))
    → MakesGrown m mid a b code (length fields) (grown_length (length fields) wanted)
    → AfterOn m t m' t' it (with_grown it.store n (grown_block area code fields (grown_length (length fields) wanted)) area level (suc (length fields))) 0 AsBlock b 1 (λ i. n)

-- A cell that is relocated is a pair with another cdr, and a block that is relocated is a wider one.
pub record ObjectsAreRelocated : Type 0 where
  pub cell : CellRelaidOn
  pub block : BlockGrownOn
