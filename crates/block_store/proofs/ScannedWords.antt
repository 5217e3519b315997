-- What calls on blocks do to words that a collection has scanned.
use Rattle.std.proofs.Common.{◌≡◌, ℕ, zero, suc, ◌+◌, ◌/◌, ◌<◌, inl, inr, refl, sym, ◌∙◌, ap, subst, arith, Some, None}
use Rattle.store_word.specs.Words.{Parts, address_of}
use Rattle.store_word.specs.declared.word.Content.{Content}
use Rattle.store_word.specs.declared.word.Content.TheVariants.{Null, Nil as NilWord, List as ListAt, Struct as StructAt, Header, HeaderForward, GcForward, Fixnum}
use Rattle.mem_port.specs.Store.{Stores}
use Rattle.mem_port.specs.Store as Memory
use Rattle.area_space.specs.Table.{Table, used_of}
use Rattle.area_space.specs.Sound.{IsTable}
use Rattle.obj_layout.specs.Forwards.{word_at}
use Rattle.transporter.specs.Growth.{OpensOrStays}
use Rattle.transporter.specs.LiveWordsUnchanged.{LiveWordsUnchanged}
use Rattle.transporter.specs.Making.{PlacesNew}
use Rattle.transporter.specs.Settling.{RefersToOld, reference_of}
use Rattle.transporter.specs.Preserving.{NoOldAddresses, FreshOn, PreservesScanned}
use Rattle.transporter.proofs.ScannedWords.{stays_fresh-tended, made-stays_fresh, made-preserves, opened-preserves}
use Rattle.block_store.specs.Making.{block_word}

-- a header, NIL and NULL have no address
pub none-fresh : (t : Table) (content : Content) → address_of content ≡ None → FreshOn t content
none-fresh t content none b is old = absurd (let x : None ≡ Some b = sym none ∙ is in cc)

-- a reference has its address
pub reference-address : (c : Content) (at : ℕ) → reference_of c ≡ Some at → address_of c ≡ Some at
reference-address (ListAt a) at is = is
reference-address (StructAt a) at is = is
reference-address (HeaderForward a) at is = absurd (let x : None ≡ Some at = is in cc)
reference-address (GcForward a) at is = absurd (let x : None ≡ Some at = is in cc)
reference-address (Header i j) at is = is
reference-address (Fixnum i) at is = is
reference-address Null at is = is
reference-address NilWord at is = is

-- what is fresh has no old address
pub fresh-young : (t : Table) (word : Parts) → FreshOn t word.content → RefersToOld t word → ⊥
fresh-young t word fresh old = fresh old.0 (reference-address word.content old.0 old.1) old.2

-- Nothing was stored, in the same table

-- A region was opened at most

opened-used : (t t' : Table) → OpensOrStays t t' → (r : ℕ) → used_of t' r ≡ used_of t r
opened-used t t' (inl same) r = ap (λ (u : Table). used_of u r) same
opened-used t t' (inr o) r = ap (λ (u : Table). used_of u r) o.table

pub opened-stays_fresh : (m m' : Memory.Store) (t t' : Table) → IsTable t → IsTable t' → LiveWordsUnchanged m t m' t' → OpensOrStays t t' → NoOldAddresses m t → NoOldAddresses m' t'
opened-stays_fresh m m' t t' v v' same o = stays_fresh-tended m m' t t' v v' (opened-preserves same o) (λ a l past. let e = opened-used t t' o (a / 4096) in let u = l.used in absurd (omega arith))

-- A block was made

pub block-fresh : (t : Table) (code count i : ℕ) → FreshOn t (block_word code count i).content
block-fresh t code count zero = none-fresh t (Header code count) refl
block-fresh t code count (suc i) = none-fresh t NilWord refl

pub block-stays_fresh : (m m' : Memory.Store) (t t' : Table) (area level at code count : ℕ) → IsTable t → IsTable t' → LiveWordsUnchanged m t m' t' → PlacesNew t t' area level at (count + 1) (count + 1) → ((i : ℕ) → i < count + 1 → word_at m'.words (at + i) ≡ block_word code count i) → NoOldAddresses m t → NoOldAddresses m' t'
block-stays_fresh m m' t t' area level at code count v v' same p words =
    made-stays_fresh m m' t t' area level at (count + 1) (count + 1) v v' p (made-preserves m m' t t' area level at (count + 1) (count + 1) v' same (omega arith) p)
    (λ i low. subst (λ (w : Parts). FreshOn t' w.content) (sym (words i low)) (block-fresh t' code count i))

-- A word was stored, and none placed

pub stored-stays_fresh : {m m' : Memory.Store} (t : Table) → IsTable t → PreservesScanned m t m' t → NoOldAddresses m t → NoOldAddresses m' t
stored-stays_fresh {m} {m'} t v x = stays_fresh-tended m m' t t v v x (λ a l past. let u = l.used in absurd (omega arith))
