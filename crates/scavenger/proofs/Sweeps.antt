-- What a sweep has scanned so far.
use Rattle.std.proofs.Common.{◌≡◌, ℕ, ◌+◌, ◌<◌, ◌≤◌, List, Option, Some, None, sym, ◌∙◌, arith}
use Rattle.std.specs.Prelude.{IfSome, IfNone}
use Rattle.store_word.specs.Words.{Parts}
use Rattle.mem_port.specs.Store.{Store, StoresNothing}
use Rattle.area_space.specs.Table.{Table}
use Rattle.transporter.specs.Moving.{MovesAtMost}
use Rattle.transporter.proofs.TransportSequences.{moves-after_read, moves-more, moves-then}
use Rattle.scavenger.specs.declared.scan_set.Unit.{Unit as ScanUnit}
use Rattle.scavenger.specs.declared.scan_set.Unit.TheVariants.{Word}
use Rattle.scavenger.specs.declared.scan_set.Progress.TheVariants.{Scanned, Finished}
use Rattle.scavenger.specs.Scan.{Scan}
use Rattle.scavenger.specs.Left.{next_of}
use Rattle.scavenger.specs.Collecting.{IsCollecting}
use Rattle.scavenger.specs.Moves.{MovesEach, UnitMoves, none_moved}
use Rattle.scavenger.specs.Scanning.{Remains, Scans, StillCollects, none}
use Rattle.scavenger.specs.Sweeping.{ScansMany, ScansQuiet, ScansToFault, ScansUpTo, nothing}
use Rattle.scavenger.proofs.MovedWords.{moves-one}
use Rattle.scavenger.proofs.ReadScans.{each-then, many-still, many-then, read-moves, read-scans, read-then_remains}
use Rattle.scavenger.proofs.ScanSequences.{collecting-after, finished-still, finished-up-to, moves-none, one-more, scans-count, still-twice}

-- this number of units was scanned one after another, with at most as many transports
pub record Reached (m : Store) (t : Table) (scan : Scan) (registers : List Parts) (m' : Store) (t' : Table) (scan' : Scan) (registers' : List Parts) (count : ℕ) : Type 0 where
  pub many : ScansMany m t scan registers m' t' scan' registers' count
  pub each : MovesEach m t scan registers m' t' scan' registers' count
  pub counted : scan'.done ≡ scan.done + count
  pub moves : MovesAtMost m t m' t' count

pub reached-none : {m : Store} {t : Table} {scan : Scan} {registers : List Parts} → Reached m t scan registers m t scan registers 0
reached-none = record { many = nothing; each = none_moved; counted = omega arith; moves = moves-none }

pub reached-still : {m m' : Store} {t t' : Table} {scan scan' : Scan} {registers registers' : List Parts} {n : ℕ} → Reached m t scan registers m' t' scan' registers' n → StillCollects m t scan registers m' t' scan' registers' n
reached-still {m} {m'} {t} {t'} {scan} {scan'} {registers} {registers'} {n} x = many-still m t scan registers m' t' scan' registers' n x.many

pub reached-collecting : {m m' : Store} {t t' : Table} {scan scan' : Scan} {registers registers' : List Parts} {n : ℕ} → IsCollecting m t scan registers → Reached m t scan registers m' t' scan' registers' n → IsCollecting m' t' scan' registers'
reached-collecting {m} {m'} {t} {t'} {scan} {scan'} {registers} {registers'} {n} x r = collecting-after m m' t t' scan scan' registers registers' n x (reached-still r)

-- words without an old address were scanned
pub reached-quiet : {m m1 : Store} {t t1 : Table} {scan scan1 scan2 : Scan} {registers registers1 : List Parts} {i n : ℕ} → Reached m t scan registers m1 t1 scan1 registers1 i → ScansQuiet m1 t1 scan1 registers1 scan2 n → scan2.done ≡ scan1.done + n
    → Reached m t scan registers m1 t1 scan2 registers1 (i + n)
reached-quiet {m} {m1} {t} {t1} {scan} {scan1} {scan2} {registers} {registers1} {i} {n} x quiet counted = record {
  many = many-then m m1 t t1 scan scan1 registers registers1 i m1 t1 scan2 registers1 n x.many quiet.many;
  each = each-then m m1 t t1 scan scan1 registers registers1 i m1 t1 scan2 registers1 n x.each quiet.each;
  counted = (let before = x.counted in omega arith);
  moves = moves-more (omega arith) x.moves;
}

module _ {m m1 m2 m3 : Store} {t t1 t3 : Table} {scan scan1 scan3 : Scan} {registers registers1 registers3 : List Parts} {n : ℕ} (x : Reached m t scan registers m1 t1 scan1 registers1 n)
    (read : StoresNothing m1 m2) (near : Option ℕ) (is : IfSome near (λ at. next_of scan1 t1 ≡ Some (Word at))) (same : IfNone near (m2 ≡ m1)) where
  -- words were read, and then a unit was scanned
  pub reached-one : Scans m2 t1 scan1 registers1 m3 t3 scan3 registers3 Scanned → UnitMoves m2 t1 scan1 registers1 m3 t3 registers3 (next_of scan1 t1) → MovesAtMost m2 t1 m3 t3 1 → Reached m t scan registers m3 t3 scan3 registers3 (n + 1)
  reached-one scans moves few =
      let here : Scans m1 t1 scan1 registers1 m3 t3 scan3 registers3 Scanned = read-scans m1 m2 m3 t1 t3 scan1 scan3 registers1 registers3 read near Scanned is same scans in
      let one = scans-count here in
      let before = x.counted in
      record {
        many = one-more m m1 m3 t t1 t3 scan scan1 scan3 registers registers1 registers3 n x.many here;
        each = moves-one m m1 m3 t t1 t3 scan scan1 scan3 registers registers1 registers3 n x.each here (read-moves m1 m2 m3 t1 t3 scan1 scan3 registers1 registers3 read near is same moves);
        counted = omega arith;
        moves = moves-then x.moves (moves-after_read read few);
      }

  -- or none remained
  pub reached-last : {limit : ℕ} → n < limit → Scans m2 t1 scan1 registers1 m3 t3 scan3 registers3 Finished → ScansUpTo m t scan registers m3 t3 scan3 registers3 limit
  reached-last {limit} low scans =
      finished-up-to m m1 m3 t t1 t3 scan scan1 scan3 registers registers1 registers3 n limit x.many x.counted low x.moves x.each (read-scans m1 m2 m3 t1 t3 scan1 scan3 registers1 registers3 read near Finished is same scans)

  pub last-still : Scans m2 t1 scan1 registers1 m3 t3 scan3 registers3 Finished → StillCollects m t scan registers m3 t3 scan3 registers3 (n + 0)
  last-still scans =
      still-twice m m1 m3 t t1 t3 scan scan1 scan3 registers registers1 registers3 n 0 (reached-still x)
      (finished-still m1 m3 t1 t3 scan1 scan3 registers1 registers3 (read-scans m1 m2 m3 t1 t3 scan1 scan3 registers1 registers3 read near Finished is same scans))

  -- or a swap error occurred
  pub reached-remains : Remains m2 t1 scan1 registers1 m3 t3 scan3 registers3 → Remains m1 t1 scan1 registers1 m3 t3 scan3 registers3
  reached-remains y = read-then_remains m1 m2 m3 t1 t3 scan1 scan3 registers1 registers3 read near is same y

-- then no word was next, and nothing was read
pub last-idle : {m m' : Store} {t t' : Table} {scan scan' : Scan} {registers registers' : List Parts} (near : Option ℕ) (before after : ℕ) → IfSome near (λ at. next_of scan t ≡ Some (Word at)) → IfNone near (after ≡ before)
    → Scans m t scan registers m' t' scan' registers' Finished → after ≡ before
last-idle {m} {m'} {t} {t'} {scan} {scan'} {registers} {registers'} None before after is same x = same
last-idle {m} {m'} {t} {t'} {scan} {scan'} {registers} {registers'} (Some at) before after is same (none next over em et es er) = let bad : ◌≡◌ {A = Option ScanUnit} None (Some (Word at)) = sym next ∙ is in absurd cc

-- A swap error occurred

module _ {m m1 m2 : Store} {t t1 t2 : Table} {scan scan1 scan2 : Scan} {registers registers1 registers2 : List Parts} {n : ℕ} (x : Reached m t scan registers m1 t1 scan1 registers1 n) (y : Remains m1 t1 scan1 registers1 m2 t2 scan2 registers2) where
  pub fault-still : StillCollects m t scan registers m2 t2 scan2 registers2 (n + 0)
  fault-still = still-twice m m1 m2 t t1 t2 scan scan1 scan2 registers registers1 registers2 n 0 (reached-still x) y.still

  pub reached-fault : {limit : ℕ} → scan2.done ≡ scan1.done → n < limit → MovesAtMost m1 t1 m2 t2 1 → ScansToFault m t scan registers m2 t2 scan2 registers2 limit
  reached-fault {limit} same low moves = (let before = x.counted in record {
    memory = m1;
    table = t1;
    scanned = scan1;
    words = registers1;
    count = n;
    many = x.many;
    counted = omega arith;
    few = low;
    moves = moves-more (omega arith) (moves-then x.moves moves);
    each = x.each;
    remains = y;
  })

-- words that a pause allows are among those that remained
pub within-pause : (words allowed count : ℕ) → allowed ≤ words → count ≤ allowed → count ≤ words
within-pause words allowed count few within = omega arith
