-- The accounts of areas when a collection has ended.
use Rattle.std.specs.Prelude.{◌≡◌, ℕ, true}
use Rattle.word_graph.specs.lisp_meaning.State.{Collection, Running, State}
use Rattle.word_graph.specs.lisp_meaning.Flip.{Settles}
use Rattle.word_graph.specs.lisp_meaning.Laws.{Retains}
use Rattle.word_graph.specs.lisp_meaning.Run.{SilentReclaim}
use Rattle.lisp_heap.specs.HeapView.{HeapView}
use Rattle.lisp_heap.specs.Stands.{Stands}

-- In a state a collection ran, and the heap represents one that follows its reclaim; each account is what it was, less what was freed, and at most what is retained.
pub record Reclaimed (new : HeapView) (s : State) : Type 0 where
  pub collection : Collection
  pub next : State
  pub running : s.phase ≡ Running collection
  pub settles : Settles s collection.aim next
  pub stands : Stands new next
  pub retains : (area : ℕ) → Retains s collection.aim next area

-- the same for a reclaim that no command requested
abbrev pub SilentRetains : Type 0
SilentRetains = (s mid : State) (c : Collection) → s.phase ≡ Running c → c.over ≡ true → SilentReclaim s s.phase mid → (area : ℕ) → Retains s c.aim mid area
