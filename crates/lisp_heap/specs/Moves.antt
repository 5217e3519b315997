-- What commands move.
use Rattle.std.specs.Prelude.{ℕ}
use Rattle.store_word.specs.Words.{Parts}
use Rattle.heap_state.specs.transporter.Moving as moving
use Rattle.heap_commands.specs.Moves as moves
use Rattle.lisp_heap.specs.HeapView.{HeapView, store_of}

-- transports placed whatever was placed, and there were at most `most` of them; no other cdr code changed
abbrev pub MovesAtMost : HeapView → HeapView → ℕ → Type 0
MovesAtMost old new = moving.MovesAtMost (store_of old.memory) old.table (store_of new.memory) new.table

-- so it was by at most three; or the cell to which this settled word refers was relocated as a pair with this cdr, after at most three transports
abbrev pub MovesOrLays : HeapView → HeapView → Parts → Parts → Type 0
MovesOrLays old new = moves.MovesOrLays (store_of old.memory) old.table (store_of new.memory) new.table
