-- How many units remain to be scanned, and what an allocation scans and takes.
use Rattle.std.specs.Prelude.{◌≡◌, ◌≢◌, ℕ, ◌+◌, ◌-◌, ◌*◌, ◌<◌, ◌≤◌, ◌⊎◌, if◌then◌else◌, false, true, Option}
use Rattle.store_word.specs.declared.sizes.TheConstants.{MAX_OBJECT_WORDS}
use Rattle.lisp_graph.specs.declared.command.Command.{Command}
use Rattle.lisp_graph.specs.declared.reply.Reply.{Reply}
use Rattle.lisp_graph.specs.declared.reply.Reply.TheVariants as R
use Rattle.lisp_graph.specs.Effect.{Wanted, effect}
use Rattle.area_space.specs.Table.{Table}
use Rattle.word_graph.specs.lisp_meaning.State.{State}
use Rattle.word_graph.specs.lisp_meaning.Flip.{graph_of}
use Rattle.word_graph.specs.lisp_meaning.Step.{wanted_by}
use Rattle.scavenger.specs.Scan.{Scan}
use Rattle.scavenger.specs.Left.{units_of}
use Rattle.heap_collect.specs.Amounts.{Amount}
use Rattle.heap_collect.specs.Silent.{done_from, flips_alone, placed_from}
use Rattle.lisp_heap.specs.HeapView.{HeapView, store_of}
use Rattle.scavenger.specs.declared.accesses.TheConstants.{STEP_ACCESSES}
use Rattle.heap_state.specs.transporter.declared.accesses.TheConstants.{FIND_ACCESSES, SETTLE_ACCESSES}

-- the units scanned, and the words placed since the flip, of the collection that runs when an allocation begins
abbrev pub done_at : HeapView → ℕ
done_at heap = done_from heap.table heap.scan heap.space

abbrev pub placed_at : HeapView → ℕ
placed_at heap = placed_from heap.table heap.scan heap.space

-- the registers and the words that remain to be scanned: none if the scan has finished, and none if no collection runs
abbrev pub left_in : HeapView → ℕ
left_in heap = units_of (store_of heap.memory) heap.scan heap.table heap.registers

-- those that remain when an allocation begins; if a silent flip occurs, those that there are at its start
abbrev pub left_at : HeapView → HeapView → ℕ
left_at old new = if flips_alone old.table old.scan old.space then new.scan.begun else left_in old

-- `limit` units were requested, when `before` units remained, `done` were scanned and `placed` words were placed. This number was scanned, or all that remained, including words placed meanwhile.
pub record ScansSome (new : HeapView) (before done placed limit : ℕ) : Type 0 where
  pub some : done ≤ new.scan.done
  pub amount : (new.scan.done ≡ done + limit) ⊎ ((new.scan.done < done + limit) × (left_in new ≡ 0))
  -- while the scan hasn't finished, the units that remain are those that remained before and the words placed, less the units scanned
  pub left : new.scan.over ≡ false → left_in new + (new.scan.done + placed) ≡ before + (done + new.table.placed)

-- An allocation with this charge was made, with these counts of memory accesses before and after it. It made `words` words and read `read` registers. (Seven parameters: the heap and the count of accesses, each before and after, and the charge, the words made and the registers read, which each command has of its own.)
pub record Costs (old new : HeapView) (before after charge words read : ℕ) : Type 0 where
  -- the units scanned for each word charged are those that the rate requires, or all that remained
  pub scans : ScansSome new (left_at old new) (done_at old) (placed_at old) (old.space.rate * charge)
  -- at most 128 memory accesses a word charged, 128 a unit that the rate requires, and 8 a word copied
  pub bound : after ≤ before + 128 * charge + 128 * (old.space.rate * charge) + 8 * (new.table.placed - (placed_at old + words))
  -- at most 2,048 words are copied for each unit scanned and for each register read
  pub copied : new.table.placed ≤ placed_at old + words + MAX_OBJECT_WORDS * ((new.scan.done - done_at old) + read)

-- refused, as the quota allows too little
abbrev pub IsRefused : Reply → Type 0
IsRefused (R.Exhausted area charged wanted quota) = Unit {0}
IsRefused _ = ⊥

-- A command, with these counts of memory accesses before and after it, was refused: no unit was scanned, no word placed, and no memory accessed.
pub record CostsNothing (old new : HeapView) (before after : ℕ) : Type 0 where
  pub done : new.scan.done ≡ done_at old
  pub placed : new.table.placed ≡ placed_at old
  pub steps : after ≡ before

-- The same by the reply: it was made with this charge, or it was refused. (Eight parameters: the heap and the count of accesses, each before and after, the charge, the words made and the registers read, which each command has of its own, and the reply.)
pub record Makes (old new : HeapView) (before after charge words read : ℕ) (r : Reply) : Type 0 where
  pub costs : r ≡ R.Fine → Costs old new before after charge words read
  pub refused : IsRefused r → CostsNothing old new before after

-- A command with this reply, and these counts of memory accesses before and after it, placed at most `words` words; and if no swap error occurred it took at most `steps` memory accesses, and 4 for each word placed. (Seven parameters: the heap and the count of accesses, each before and after, the two bounds, which each command has of its own, and the reply.)
pub record Takes (old new : HeapView) (before after words steps : ℕ) (r : Reply) : Type 0 where
  pub few : new.table.placed ≤ old.table.placed + words
  pub cost : r ≢ R.Fault → after ≤ before + 4 * (new.table.placed - old.table.placed) + steps

-- What `grow` takes, by the charge that it requires

-- the charge that a command requires in a state
abbrev pub wants_in : State → Command → Option Wanted
wants_in s c = wanted_by (effect (graph_of s) c)

-- A command, with these counts of memory accesses before and after it, looked at one register, and requires no charge.
pub record CostsLook (old new : HeapView) (before after : ℕ) : Type 0 where
  -- no unit was scanned
  pub done : new.scan.done ≡ done_at old
  -- at most 59 memory accesses, and 4 a word copied
  pub bound : after ≤ before + (SETTLE_ACCESSES + FIND_ACCESSES) + 4 * (new.table.placed - placed_at old)
  -- at most 2,048 words are copied
  pub copied : new.table.placed ≤ placed_at old + MAX_OBJECT_WORDS

-- the same after the silent steps
pub record LookCosts (scan scan' : Scan) (t t' : Table) (before after : ℕ) : Type 0 where
  pub still : scan' ≡ scan
  pub grows : t.placed ≤ t'.placed
  pub bound : after ≤ before + (SETTLE_ACCESSES + FIND_ACCESSES) + 4 * (t'.placed - t.placed)
  pub copied : t'.placed ≤ t.placed + MAX_OBJECT_WORDS

-- After a call with this reply the counts of units and words are no less than before it, a scan that had finished still has, and it is the same collection if the block grew.
pub record ScanGoesOn (scan scan' : Scan) (t t' : Table) (r : Reply) : Type 0 where
  pub some : scan.done ≤ scan'.done
  pub begun : r ≡ R.Fine → scan'.begun ≡ scan.begun
  pub stays : scan.over ≡ true → scan'.over ≡ true
  pub grows : t.placed ≤ t'.placed

-- A block grew after the silent steps, with this charge; `read` registers were read for it. The units scanned are those that the rate requires for the charge, or all that remained.
pub record Spends (scan scan' : Scan) (t t' : Table) (rate charge fixed read before after : ℕ) : Type 0 where
  pub some : 1 ≤ charge
  pub amount : Amount scan scan' (rate * charge)
  pub grown : t.placed + charge ≤ t'.placed
  pub bound : after ≤ before + fixed + 4 * (t'.placed - t.placed) + STEP_ACCESSES * (scan'.done - scan.done)
  pub copied : t'.placed ≤ t.placed + charge + MAX_OBJECT_WORDS * ((scan'.done - scan.done) + read)
