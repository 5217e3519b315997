-- Changes that follow one another.
use Rattle.std.specs.Prelude.{◌≡◌, ℕ, ◌+◌, ◌/◌, ◌<◌, List, Some}
use Rattle.store_word.specs.Words.{Parts}
use Rattle.store_word.specs.declared.word.Content.{Content}
use Rattle.store_word.specs.declared.sizes.TheConstants.{PAGE_WORDS, REGION_WORDS}
use Rattle.area_space.specs.lisp_graph.declared.object.Value.{Value}
use Rattle.mem_port.specs.Store.{Store}
use Rattle.area_space.specs.Table.{Table, IsOld}
use Rattle.obj_layout.specs.Forwards.{word_at, Final}
use Rattle.obj_layout.specs.declared.run.Run.{Run}
use Rattle.obj_layout.specs.Runs.{IsRun}
use Rattle.lisp_ground.specs.lisp_meaning.State.{Condemned}
use Rattle.lisp_ground.specs.lisp_meaning.State as M
use Rattle.lisp_ground.specs.lisp_meaning.Roles.{value_of}
use Rattle.lisp_ground.specs.lisp_meaning.Interpretation.{Interpretation, by_map}
use Rattle.transporter.specs.LiveWordsUnchanged.{OnlyGrows, IsLiveWord, LiveWordsUnchanged}
use Rattle.transporter.specs.Marking.{MarksFollow, MarksFollowBut}
use Rattle.transporter.specs.Moving.{MovesAtMost}
use Rattle.transporter.specs.Settling.{RefersToOld, IsKeptValue}
use Rattle.transporter.specs.Preserving.{PreservesScanned}
use Rattle.transporter.specs.Transports.{RepresentedByLaterMap, MovesFrom}
use Rattle.transporter.specs.Writes.{forward_to}

-- two later maps, one after the other
abbrev pub LaterTwice : Type 0
LaterTwice =
    (m m1 m2 : Store) (t t1 t2 : Table) (it : Interpretation) (x : RepresentedByLaterMap m t m1 t1 it) (y : RepresentedByLaterMap m1 t1 m2 t2 (by_map it x.map))
    → (z : RepresentedByLaterMap m t m2 t2 it) × (z.map ≡ y.map)

-- a word that had a value has it by a later map
abbrev pub ValuesStay : Type 0
ValuesStay =
    (m m' : Store) (t t' : Table) (it : Interpretation) (x : RepresentedByLaterMap m t m' t' it) (c : Content) (v : Value)
    → value_of it.map.role c ≡ Some v → value_of x.map.role c ≡ Some v

-- the live words are the same after two calls that leave them unchanged
abbrev pub LiveTwice : Type 0
LiveTwice = (m m1 m2 : Store) (t t1 t2 : Table) → LiveWordsUnchanged m t m1 t1 → LiveWordsUnchanged m1 t1 m2 t2 → LiveWordsUnchanged m t m2 t2

-- two calls that preserve what is scanned are one that does
abbrev pub PreservesTwice : Type 0
PreservesTwice = (m m1 m2 : Store) (t t1 t2 : Table) → PreservesScanned m t m1 t1 → PreservesScanned m1 t1 m2 t2 → PreservesScanned m t m2 t2

-- pages get marks by two calls as by one; also if one of them writes at an address
pub record MarksFollowTwice : Type 0 where
  pub both : (m m1 m2 : Store) (t t1 t2 : Table) → MarksFollow m t m1 t1 → MarksFollow m1 t1 m2 t2 → MarksFollow m t m2 t2
  pub writes_last : (m m1 m2 : Store) (t t1 t2 : Table) (at : ℕ) → MarksFollow m t m1 t1 → MarksFollowBut m1 t1 m2 t2 at → MarksFollowBut m t m2 t2 at
  pub writes_first : (m m1 m2 : Store) (t t1 t2 : Table) (at : ℕ) → MarksFollowBut m t m1 t1 at → MarksFollow m1 t1 m2 t2 → MarksFollowBut m t m2 t2 at

-- if the table is the same, a page whose words are the same gets no marks
abbrev pub UnchangedUnmarked : Type 0
UnchangedUnmarked =
    (m m' : Store) (t : Table) (page : ℕ) → MarksFollow m t m' t → ((a : ℕ) → a / PAGE_WORDS ≡ page → word_at m'.words a ≡ word_at m.words a)
    → m.marks page ≡ 0 → m'.marks page ≡ 0

-- transports of two calls are those of both together
abbrev pub MovesTwice : Type 0
MovesTwice = (m m1 m2 : Store) (t t1 t2 : Table) (n k : ℕ) → MovesAtMost m t m1 t1 n → MovesAtMost m1 t1 m2 t2 k → MovesAtMost m t m2 t2 (n + k)

-- a compact run of cells at an old address moves as a whole: its cells leave forwards to consecutive words
abbrev pub RunsMoveTogether : Type 0
RunsMoveTogether =
    (m m' : Store) (t t' : Table) (at to here : ℕ) (run : Run) → MovesFrom m t m' t' at to → Final m.words at here → IsOld t (here / REGION_WORDS) → IsRun m.words here run
    → (i : ℕ) → i < run.cells → word_at m'.words (here + i) ≡ forward_to (to + i)

-- if a table only grows, what is live stays live and used, what is old stays old, nothing else becomes old, and a collection keeps what it kept
pub record TablesGrow : Type 0 where
  pub live : (t t' : Table) (a : ℕ) → OnlyGrows t t' → IsLiveWord t a → IsLiveWord t' a
  pub old : (t t' : Table) (word : Parts) → OnlyGrows t t' → RefersToOld t word → RefersToOld t' word
  pub no_other : (t t' : Table) (word : Parts) → OnlyGrows t t' → RefersToOld t' word → RefersToOld t word
  pub kept : (t t' : Table) (registers : List Value) (s : M.Store) (aim : Condemned) (v : Value) → OnlyGrows t t' → IsKeptValue t registers s aim v → IsKeptValue t' registers s aim v

-- What two calls, one after the other, may do, one call may do: a later map, the values and live words by it, a table that only grows, scanned words, marks, and the transports of both together.
pub record TransportsAddUp : Type 0 where
  pub later : LaterTwice
  pub values : ValuesStay
  pub live : LiveTwice
  pub tables : TablesGrow
  pub preserves : PreservesTwice
  pub marks : MarksFollowTwice
  pub moves : MovesTwice
