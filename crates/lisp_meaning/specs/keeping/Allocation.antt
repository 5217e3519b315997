-- New objects keep the invariant.
use Rattle.std.specs.Prelude.{◌≡◌, ℕ, suc, ◌+◌, ◌*◌, ◌<◌, ◌≤◌, List, [], ◌∷◌, length, get_or, Some}
use Rattle.lisp_graph.specs.store_word.declared.word.CdrCode.TheVariants.{Next as CdrNext, Nil as CdrNil, Normal as CdrNormal}
use Rattle.lisp_graph.specs.store_word.declared.word.Content.TheVariants.{Header}
use Rattle.lisp_graph.specs.declared.object.Value.{Value}
use Rattle.lisp_graph.specs.declared.object.Value.TheVariants as V
use Rattle.lisp_graph.specs.declared.object.Body.TheVariants.{Cons, Block}
use Rattle.lisp_graph.specs.Effect.{list_from}
use Rattle.lisp_meaning.specs.machine.State.{rule_of}
use Rattle.lisp_meaning.specs.machine.Changes.{with_made}
use Rattle.lisp_meaning.specs.machine.Charges.{account}
use Rattle.lisp_meaning.specs.reading.Image.{Image, word}
use Rattle.lisp_meaning.specs.invariants.Roles.{AsCons, AsBlock, RoleMap, value_of}
use Rattle.lisp_meaning.specs.invariants.Fits.{PairCode}
use Rattle.lisp_meaning.specs.reading.Marks.{Marks}
use Rattle.lisp_meaning.specs.invariants.Placed.{Placed, Charged}
use Rattle.lisp_meaning.specs.invariants.Invariant.{MemoryInvariant}
use Rattle.lisp_meaning.specs.invariants.Interpretation.{Interpretation}
use Rattle.lisp_meaning.specs.keeping.After.{After}

-- Words are placed from b on, charged and written

-- the words of a pair
pub record WritesPair (g g1 : Image) (k : RoleMap) (b area level charge : ℕ) (car cdr : Value) : Type 0 where
  pub placed : Placed g g1 b 2 area level
  pub charged : Charged g g1 area level charge
  pub marks : Marks g1
  pub car_is : value_of k.role (word g1 b).content ≡ Some car
  pub car_code : (word g1 b).cdr ≡ CdrNormal
  pub cdr_is : value_of k.role (word g1 (suc b)).content ≡ Some cdr
  pub cdr_code : PairCode charge (word g1 (suc b)).cdr

-- a header and fields
pub record WritesBlock (g g1 : Image) (k : RoleMap) (b area level code : ℕ) (fields : List Value) : Type 0 where
  pub placed : Placed g g1 b (suc (length fields)) area level
  pub charged : Charged g g1 area level (suc (length fields))
  pub marks : Marks g1
  pub header : (word g1 b).content ≡ Header code (length fields)
  pub header_code : (word g1 b).cdr ≡ CdrNext
  pub fields_are : (j : ℕ) → j < length fields → value_of k.role (word g1 (suc b + j)).content ≡ Some (get_or fields j V.Nil)

-- a cell for each value
pub record WritesCells (g g1 : Image) (k : RoleMap) (b area level : ℕ) (values : List Value) : Type 0 where
  pub placed : Placed g g1 b (length values) area level
  pub charged : Charged g g1 area level (3 * length values)
  pub marks : Marks g1
  pub cars_are : (i : ℕ) → i < length values → value_of k.role (word g1 (b + i)).content ≡ Some (get_or values i V.Nil)
  pub next : (i : ℕ) → suc i < length values → (word g1 (b + i)).cdr ≡ CdrNext
  pub last : (i : ℕ) → suc i ≡ length values → (word g1 (b + i)).cdr ≡ CdrNil

-- The objects that they are, if they fit the quota of their area

-- a cons
abbrev pub PairMade : Type 0
PairMade =
    (g g1 : Image) (it : Interpretation) (b area level charge : ℕ) (car cdr : Value)
    → MemoryInvariant g it → level ≤ it.top → account it.top it.store it.aim area + charge ≤ (rule_of it.areas area).quota
    → WritesPair g g1 it.map b area level charge car cdr
    → After g g1 it (with_made it.store (record { area = area; charge = charge; body = Cons car cdr } ∷ []) level) 0 AsCons b 1 (λ i. length it.store.objects)

-- a block
abbrev pub BlockMade : Type 0
BlockMade =
    (g g1 : Image) (it : Interpretation) (b area level code : ℕ) (fields : List Value)
    → MemoryInvariant g it → level ≤ it.top → account it.top it.store it.aim area + suc (length fields) ≤ (rule_of it.areas area).quota
    → WritesBlock g g1 it.map b area level code fields
    → After g g1 it (with_made it.store (record { area = area; charge = suc (length fields); body = Block code fields } ∷ []) level) 0 AsBlock b 1 (λ i. length it.store.objects)

-- the conses of a list
abbrev pub ListMade : Type 0
ListMade =
    (g g1 : Image) (it : Interpretation) (b area level : ℕ) (values : List Value)
    → MemoryInvariant g it → level ≤ it.top → account it.top it.store it.aim area + 3 * length values ≤ (rule_of it.areas area).quota
    → length values ≤ 1024 → WritesCells g g1 it.map b area level values
    → After g g1 it (with_made it.store (list_from area (length it.store.objects) values) level) 0 AsCons b (length values) (λ i. length it.store.objects + i)

-- A new cons, a new block and the conses of a new list keep the invariant.
pub record AllocationKeeps : Type 0 where
  pub cons : PairMade
  pub block : BlockMade
  pub list : ListMade
