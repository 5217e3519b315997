-- New objects on a ground.
use Rattle.std.specs.Prelude.{◌≡◌, ℕ, suc, ◌+◌, ◌*◌, ◌<◌, ◌≤◌, List, [], ◌∷◌, length, get_or, Some, slice_get}
use Rattle.area_space.specs.store_word.Words.{Parts}
use Rattle.area_space.specs.store_word.declared.word.CdrCode.TheVariants.{Next as CdrNext, Nil as CdrNil, Normal as CdrNormal}
use Rattle.area_space.specs.store_word.declared.word.Content.TheVariants.{Header}
use Rattle.area_space.specs.lisp_graph.declared.object.Value.{Value}
use Rattle.area_space.specs.lisp_graph.declared.object.Value.TheVariants as V
use Rattle.area_space.specs.lisp_graph.declared.object.Body.TheVariants.{Cons, Block}
use Rattle.area_space.specs.lisp_graph.Effect.{list_from}
use Rattle.area_space.specs.mem_port.Store.{Store}
use Rattle.area_space.specs.declared.classes.Origin.TheVariants.{New}
use Rattle.area_space.specs.Table.{Table, slot_of}
use Rattle.area_space.specs.Sound.{IsTable}
use Rattle.area_space.specs.Places.{IsEnd}
use Rattle.area_space.specs.Charges.{committed}
use Rattle.lisp_meaning.specs.State.{rule_of}
use Rattle.lisp_meaning.specs.Changes.{with_made}
use Rattle.lisp_meaning.specs.Charges.{account}
use Rattle.lisp_meaning.specs.Roles.{AsCons, AsBlock, RoleMap, value_of}
use Rattle.lisp_meaning.specs.Fits.{PairCode}
use Rattle.lisp_ground.specs.Writes.{WritesWithin}
use Rattle.lisp_ground.specs.GroundInvariant.{GroundInvariant}
use Rattle.lisp_meaning.specs.Interpretation.{Interpretation}
use Rattle.lisp_ground.specs.After.{AfterOn}

-- `count` words at the used end of a live class are written and committed, as those of a new object, in any order
pub record Commits (old : Store) (table : Table) (new : Store) (new_table : Table) (b count area level charge : ℕ) : Type 0 where
  pub end : IsEnd table (slot_of table area level) b count
  pub writes : WritesWithin old new b count
  pub commit : new_table ≡ record (committed table (slot_of table area level) b count charge New) { pages = new_table.pages }
  pub sound : IsTable new_table

-- the words of a pair
pub record MakesPair (old : Store) (table : Table) (new : Store) (new_table : Table) (k : RoleMap) (b area level charge : ℕ) (car cdr : Value) : Type 0 where
  pub commits : Commits old table new new_table b 2 area level charge
  pub first : Parts
  pub first_at : slice_get new.words b ≡ Some first
  pub first_code : first.cdr ≡ CdrNormal
  pub car_is : value_of k.role first.content ≡ Some car
  pub second : Parts
  pub second_at : slice_get new.words (suc b) ≡ Some second
  pub second_code : PairCode charge second.cdr
  pub cdr_is : value_of k.role second.content ≡ Some cdr

-- a header and fields
pub record MakesBlock (old : Store) (table : Table) (new : Store) (new_table : Table) (k : RoleMap) (b area level code : ℕ) (fields : List Value) : Type 0 where
  pub commits : Commits old table new new_table b (suc (length fields)) area level (suc (length fields))
  pub header_at : slice_get new.words b ≡ Some (record { cdr = CdrNext; content = Header code (length fields) })
  pub fields_at : (i : ℕ) → i < length fields → (w : Parts) × (slice_get new.words (suc b + i) ≡ Some w) × (value_of k.role w.content ≡ Some (get_or fields i V.Nil))

-- a cell for each value, each except the last coded next
pub record MakesCells (old : Store) (table : Table) (new : Store) (new_table : Table) (k : RoleMap) (b area level : ℕ) (values : List Value) : Type 0 where
  pub commits : Commits old table new new_table b (length values) area level (3 * length values)
  pub cells_at : (i : ℕ) → i < length values → (w : Parts) × (slice_get new.words (b + i) ≡ Some w) × (value_of k.role w.content ≡ Some (get_or values i V.Nil))
      × (suc i < length values → w.cdr ≡ CdrNext) × (suc i ≡ length values → w.cdr ≡ CdrNil)

-- The objects that they are, if they fit the quota of their area

-- a cons
abbrev pub PairMadeOn : Type 0
PairMadeOn =
    (m m' : Store) (t t' : Table) (it : Interpretation) (b area level charge : ℕ) (car cdr : Value)
    → GroundInvariant m t it → area < length it.areas → level ≤ it.top → account it.top it.store it.aim area + charge ≤ (rule_of it.areas area).quota
    → MakesPair m t m' t' it.map b area level charge car cdr
    → AfterOn m t m' t' it (with_made it.store (record { area = area; charge = charge; body = Cons car cdr } ∷ []) level) 0 AsCons b 1 (λ i. length it.store.objects)

-- a block
abbrev pub BlockMadeOn : Type 0
BlockMadeOn =
    (m m' : Store) (t t' : Table) (it : Interpretation) (b area level code : ℕ) (fields : List Value)
    → GroundInvariant m t it → area < length it.areas → level ≤ it.top → account it.top it.store it.aim area + suc (length fields) ≤ (rule_of it.areas area).quota
    → MakesBlock m t m' t' it.map b area level code fields
    → AfterOn m t m' t' it (with_made it.store (record { area = area; charge = suc (length fields); body = Block code fields } ∷ []) level) 0 AsBlock b 1 (λ i. length it.store.objects)

-- the conses of a list
abbrev pub ListMadeOn : Type 0
ListMadeOn =
    (m m' : Store) (t t' : Table) (it : Interpretation) (b area level : ℕ) (values : List Value)
    → GroundInvariant m t it → area < length it.areas → level ≤ it.top → account it.top it.store it.aim area + 3 * length values ≤ (rule_of it.areas area).quota
    → length values ≤ 1024 → MakesCells m t m' t' it.map b area level values
    → AfterOn m t m' t' it (with_made it.store (list_from area (length it.store.objects) values) level) 0 AsCons b (length values) (λ i. length it.store.objects + i)

-- Words that are placed, committed and written, in any order, are a new pair, a new block or the cells of a new list.
pub record NewObjectsKeepGrounds : Type 0 where
  pub pair : PairMadeOn
  pub block : BlockMadeOn
  pub list : ListMadeOn
