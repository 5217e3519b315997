-- What it means that units were scanned in their order, and that one remains to be scanned.
use Rattle.std.specs.Prelude.{◌≡◌, ◌<◌, ◌≤◌, ◌+◌, ℕ, List, None}
use Rattle.store_word.specs.Words.{Parts}
use Rattle.mem_port.specs.Store.{Store}
use Rattle.area_space.specs.Table.{Table}
use Rattle.word_graph.specs.lisp_meaning.State.{Phase, Idle, Running, State}
use Rattle.scavenger.specs.Left.{next_of}
use Rattle.scavenger.specs.Scan.{Scan}
use Rattle.scavenger.specs.Sweeping.{ScansMany}
use Rattle.lisp_heap.specs.HeapView.{HeapView, store_of}
use Rattle.lisp_heap.specs.Costs.{left_in}
use Rattle.lisp_heap.specs.Stands.{Stands}

-- units were scanned one after another, each of them the next one: `limit` of them, or all that remained
pub record FollowsOrder (m : Store) (t : Table) (scan : Scan) (registers : List Parts) (m' : Store) (t' : Table) (scan' : Scan) (registers' : List Parts) (limit : ℕ) : Type 0 where
  pub count : ℕ
  pub many : ScansMany m t scan registers m' t' scan' registers' count
  pub counted : scan'.done ≡ scan.done + count
  pub few : count ≤ limit
  pub all : count < limit → next_of scan' t' ≡ None

abbrev pub ScansInOrder : HeapView → HeapView → ℕ → Type 0
ScansInOrder old new limit = FollowsOrder (store_of old.memory) old.table old.scan old.registers (store_of new.memory) new.table new.scan new.registers limit

-- a collection runs, and less is paid than is owed
abbrev pub IsOwing : Phase → Type 0
IsOwing Idle = ⊥
IsOwing (Running c) = c.paid < c.owed

-- A unit remains; and in each state that the heap represents a collection runs that has paid less than it owes.
pub record IsUnfinished (heap : HeapView) : Type 0 where
  pub left : 0 < left_in heap
  pub owing : (s : State) → Stands heap s → IsOwing s.phase
