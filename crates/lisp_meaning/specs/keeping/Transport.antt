-- Transports keep the invariant.
use Rattle.std.specs.Prelude.{◌≡◌, ℕ, suc, ◌+◌, ◌*◌, ◌<◌, ◌≤◌, List, Some, None, IsTrue}
use Rattle.lisp_graph.specs.store_word.Words.{Parts}
use Rattle.lisp_graph.specs.store_word.declared.word.CdrCode.TheVariants.{Next as CdrNext, Nil as CdrNil, Normal as CdrNormal}
use Rattle.lisp_graph.specs.store_word.declared.word.Content.TheVariants.{List as ListAt, Header, GcForward}
use Rattle.lisp_graph.specs.declared.object.Value.{Value}
use Rattle.lisp_meaning.specs.machine.State.{survivor, Condemned, object}
use Rattle.lisp_meaning.specs.machine.Sound.{is_kept, Reaches}
use Rattle.lisp_meaning.specs.reading.Image.{Old, Image, word, with_words}
use Rattle.lisp_meaning.specs.reading.Classes.{classes, class_at}
use Rattle.lisp_meaning.specs.reading.Forwards.{forward_of}
use Rattle.lisp_meaning.specs.invariants.Roles.{Kind, AsCons, AsBlock, names_as, name_at, value_of}
use Rattle.lisp_meaning.specs.reading.Marks.{Marks}
use Rattle.lisp_meaning.specs.invariants.Placed.{Placed, Rehomed}
use Rattle.lisp_meaning.specs.invariants.Invariant.{MemoryInvariant}
use Rattle.lisp_meaning.specs.invariants.Interpretation.{Interpretation}
use Rattle.lisp_meaning.specs.keeping.After.{After}

-- a reference to a means n, a name that the collection keeps
pub record Survives (it : Interpretation) (registers : List Value) (kind : Kind) (a n : ℕ) : Type 0 where
  pub named : names_as kind (it.map.role a) ≡ Some n
  pub kept : IsTrue (is_kept it.store it.aim n)
  pub reaches : Reaches registers it.store it.aim

-- `count` cells follow each other from a on, each coded next, and none has moved
pub record CellsStand (g : Image) (a count : ℕ) : Type 0 where
  pub here : (i : ℕ) → i < count → forward_of (word g (a + i)).content ≡ None
  pub next : (i : ℕ) → i < count → (word g (a + i)).cdr ≡ CdrNext

-- An object that is old at a gets `count` live words from b on in its survivor's class, which is charged in place of the old one; its first words become GC-FORWARDs to them. `g1` has the new words, `ws` the forwards too
pub record Rehouses (g g1 : Image) (ws : List Parts) (top : ℕ) (aim : Condemned) (a b count forwards area level charge : ℕ) : Type 0 where
  pub old : class_at (classes g) a ≡ record { area = area; level = level; standing = Old }
  pub placed : Placed g g1 b count area (survivor top aim.what level)
  pub charged : Rehomed g g1 area level (survivor top aim.what level) charge
  pub forwarded : (i : ℕ) → i < forwards → word (with_words g1 ws) (a + i) ≡ record { cdr = CdrNext; content = GcForward (b + i) }
  pub others : (c : ℕ) → ((a ≤ c) × (c < a + forwards) → ⊥) → word (with_words g1 ws) c ≡ word g1 c
  pub marks : Marks (with_words g1 ws)

-- `count` words are copied
abbrev pub Copies : Image → Image → ℕ → ℕ → ℕ → Type 0
Copies g g1 a b count = (i : ℕ) → i < count → word g1 (b + i) ≡ word g (a + i)

-- at most 1,024 cells follow each other
abbrev pub RunIsShort : Type 0
RunIsShort =
    (g : Image) (it : Interpretation) (a n count : ℕ)
    → MemoryInvariant g it → names_as AsCons (it.map.role a) ≡ Some n → CellsStand g a count → count ≤ 1024

-- a block
abbrev pub BlockMoved : Type 0
BlockMoved =
    (g g1 : Image) (ws : List Parts) (it : Interpretation) (registers : List Value) (a b n code size area level : ℕ)
    → MemoryInvariant g it → Survives it registers AsBlock a n → (word g a).content ≡ Header code size
    → Rehouses g g1 ws it.top it.aim a b (suc size) 1 area level (suc size) → Copies g g1 a b (suc size)
    → After g (with_words g1 ws) it it.store (suc size) AsBlock b 1 (λ i. n)

-- a pair, and the cells before it that it ends, if any
abbrev pub RunToPairMoved : Type 0
RunToPairMoved =
    (g g1 : Image) (ws : List Parts) (it : Interpretation) (registers : List Value) (a b n count area level : ℕ)
    → MemoryInvariant g it → Survives it registers AsCons a n → CellsStand g a count
    → forward_of (word g (a + count)).content ≡ None → (word g (a + count)).cdr ≡ CdrNormal
    → Rehouses g g1 ws it.top it.aim a b (count + 2) (suc count) area level (3 * count + (object it.store (name_at it.map (a + count))).charge) → Copies g g1 a b (count + 2)
    → After g (with_words g1 ws) it it.store (3 * count + (object it.store (name_at it.map (a + count))).charge) AsCons b (suc count) (λ i. name_at it.map (a + i))

-- cells up to the last of a list
abbrev pub RunToNilMoved : Type 0
RunToNilMoved =
    (g g1 : Image) (ws : List Parts) (it : Interpretation) (registers : List Value) (a b n count area level : ℕ)
    → MemoryInvariant g it → Survives it registers AsCons a n → CellsStand g a count
    → forward_of (word g (a + count)).content ≡ None → (word g (a + count)).cdr ≡ CdrNil
    → Rehouses g g1 ws it.top it.aim a b (count + 1) (suc count) area level (3 * count + 3) → Copies g g1 a b (suc count)
    → After g (with_words g1 ws) it it.store (3 * count + 3) AsCons b (suc count) (λ i. name_at it.map (a + i))

-- cells, of which the last becomes a pair, since the rest of its list is elsewhere: its cdr is a reference to that rest
abbrev pub CutRunMoved : Type 0
CutRunMoved =
    (g g1 : Image) (ws : List Parts) (it : Interpretation) (registers : List Value) (a b n count target area level : ℕ)
    → MemoryInvariant g it → Survives it registers AsCons a n → CellsStand g a (suc count)
    → value_of it.map.role (ListAt target) ≡ value_of it.map.role (ListAt (suc (a + count)))
    → Rehouses g g1 ws it.top it.aim a b (count + 2) (suc count) area level (3 * count + 3) → Copies g g1 a b count
    → word g1 (b + count) ≡ record { cdr = CdrNormal; content = (word g (a + count)).content }
    → word g1 (suc (b + count)) ≡ record { cdr = CdrNext; content = ListAt target }
    → After g (with_words g1 ws) it it.store (3 * count + 3) AsCons b (suc count) (λ i. name_at it.map (a + i))

-- A transport keeps the invariant: of a block; of a pair, with the cells before it; of the cells up to the end of a list; and of cells the rest of whose list is elsewhere. At most 1,024 cells follow each other.
pub record TransportKeeps : Type 0 where
  pub block : BlockMoved
  pub to_pair : RunToPairMoved
  pub to_nil : RunToNilMoved
  pub cut : CutRunMoved
  pub short : RunIsShort
