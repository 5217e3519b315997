-- Which words move by a scan.
use Rattle.std.proofs.Common.{◌≡◌, ℕ, suc, ◌+◌, ◌<◌, List, length, get_or, slice_set, sym, subst, arith}
use Rattle.std.specs.Prelude.{Option}
use Rattle.std.proofs.lemmas.List.{get_or-set_same}
use Rattle.store_word.specs.Words.{Parts, null_word}
use Rattle.mem_port.specs.Store.{Store}
use Rattle.area_space.specs.Table.{Table}
use Rattle.transporter.specs.Moving.{MovesFor}
use Rattle.scavenger.specs.declared.scan_set.Unit.{Unit as ScanUnit}
use Rattle.scavenger.specs.declared.scan_set.Progress.TheVariants.{Scanned}
use Rattle.scavenger.specs.Scan.{Scan}
use Rattle.scavenger.specs.Left.{next_of}
use Rattle.scavenger.specs.Moves.{UnitMoves, MovesEach, one_moved}
use Rattle.scavenger.specs.Scanning.{Scans}

-- a register that is read, settled and written
pub register-moves : {m m' : Store} {t t' : Table} (registers : List Parts) (r : ℕ) (old new : Parts) → r < length registers → get_or registers r null_word ≡ old → MovesFor m t m' t' old new
    → MovesFor m t m' t' (get_or registers r null_word) (get_or (slice_set registers r new) r null_word)
register-moves {m} {m'} {t} {t'} registers r old new inside was settled =
    subst (λ (w : Parts). MovesFor m t m' t' w (get_or (slice_set registers r new) r null_word)) (sym was)
    (subst (λ (w : Parts). MovesFor m t m' t' old w) (sym (get_or-set_same registers r new null_word inside)) settled)

-- the words of the next unit move
pub next-moves : (m m' : Store) (t t' : Table) (scan : Scan) (registers registers' : List Parts) (next unit : Option ScanUnit) → next ≡ unit → UnitMoves m t scan registers m' t' registers' unit → UnitMoves m t scan registers m' t' registers' next
next-moves m m' t t' scan registers registers' next unit is moves = subst (λ (u : Option ScanUnit). UnitMoves m t scan registers m' t' registers' u) (sym is) moves

-- one more unit
pub moves-one : (m m1 m2 : Store) (t t1 t2 : Table) (scan scan1 scan2 : Scan) (registers registers1 registers2 : List Parts) (n : ℕ)
    → MovesEach m t scan registers m1 t1 scan1 registers1 n → Scans m1 t1 scan1 registers1 m2 t2 scan2 registers2 Scanned → UnitMoves m1 t1 scan1 registers1 m2 t2 registers2 (next_of scan1 t1) → MovesEach m t scan registers m2 t2 scan2 registers2 (n + 1)
moves-one m m1 m2 t t1 t2 scan scan1 scan2 registers registers1 registers2 n each one moves =
    let e : suc n ≡ n + 1 = omega arith in
    subst (λ (k : ℕ). MovesEach m t scan registers m2 t2 scan2 registers2 k) e (one_moved m1 m2 t1 t2 scan1 scan2 registers1 registers2 n each one moves)
