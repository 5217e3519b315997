-- Words are read, and then the next unit is scanned; and sequences of scans are joined.
use Rattle.std.proofs.Common.{◌≡◌, ℕ, suc, ◌+◌, inl, List, Some, None, refl, sym, ◌∙◌, ap, subst, arith}
use Rattle.std.specs.Prelude.{Option, IfSome, IfNone}
use Rattle.store_word.specs.Words.{Parts}
use Rattle.mem_port.specs.Store.{Store, StoresNothing}
use Rattle.area_space.specs.Table.{Table}
use Rattle.transporter.specs.obj_layout.Forwards.{word_at}
use Rattle.transporter.specs.Settling.{Settles}
use Rattle.transporter.proofs.LiveObjects.{grows-same, live-read, live-then}
use Rattle.transporter.proofs.FetchedWords.{later-read}
use Rattle.transporter.proofs.TransportSequences.{fetch_moves-read, same-stores}
use Rattle.transporter.proofs.ScannedWords.{read-preserves}
use Rattle.scavenger.specs.declared.scan_set.Unit.{Unit as ScanUnit}
use Rattle.scavenger.specs.declared.scan_set.Unit.TheVariants.{Register, Word}
use Rattle.scavenger.specs.declared.scan_set.Progress.{Progress}
use Rattle.scavenger.specs.Scan.{Scan}
use Rattle.scavenger.specs.Left.{next_of}
use Rattle.scavenger.specs.Collecting.{IsCollecting}
use Rattle.scavenger.specs.Moves.{UnitMoves, WordMoves, MovesEach, none_moved, one_moved}
use Rattle.scavenger.specs.Scanning.{Remains, ScanPreserves, Scans, ScansWord, StillCollects, register, word, none}
use Rattle.scavenger.specs.Sweeping.{ScansMany, nothing, more}
use Rattle.scavenger.proofs.ScanSequences.{collecting-after, scanned-still, still-same, still-twice}
use Rattle.scavenger.proofs.UnitScans.{word-remains}

-- Words are read

pub read-remains : (m m1 : Store) (t : Table) (scan : Scan) (registers : List Parts) (at : ℕ) → next_of scan t ≡ Some (Word at) → StoresNothing m m1 → Remains m t scan registers m1 t scan registers
read-remains m m1 t scan registers at is read =
    word-remains m m1 t t scan registers at is (read-preserves t read) (inl (inl refl)) (live-read read) (λ it values v can. later-read m m1 t it can.kept read)

pub read-scan_preserves : {m m1 : Store} {t : Table} → StoresNothing m m1 → ScanPreserves m t m1 t
read-scan_preserves read = record { grows = grows-same; young = λ r old. refl; placed = refl; words = λ a live. inl (ap (λ (ws : List Parts). word_at ws a) read.words) }

pub read-collecting : {m m1 : Store} {t : Table} {scan : Scan} {registers : List Parts} (near : Option ℕ) → IfSome near (λ at. next_of scan t ≡ Some (Word at)) → IfNone near (m1 ≡ m) → StoresNothing m m1 → IsCollecting m t scan registers → IsCollecting m1 t scan registers
read-collecting {m} {m1} {t} {scan} {registers} None is same read x = subst (λ (y : Store). IsCollecting y t scan registers) (sym same) x
read-collecting {m} {m1} {t} {scan} {registers} (Some at) is same read x = collecting-after m m1 t t scan scan registers registers 0 x (read-remains m m1 t scan registers at is read).still

-- Words are read, and then a word is scanned

module _ (m m1 m2 : Store) (t t2 : Table) (scan scan2 : Scan) (registers registers2 : List Parts) (read : StoresNothing m m1) where
  read-word : (at : ℕ) → ScansWord m1 t scan registers m2 t2 scan2 registers2 at → ScansWord m t scan registers m2 t2 scan2 registers2 at
  read-word at x = record {
    next = x.next;
    done = x.done;
    registers_same = x.registers_same;
    settled = subst (λ (ws : List Parts). Settles t t2 (word_at ws at) (word_at m2.words at)) read.words x.settled;
    moves = x.moves;
    remarked = x.remarked;
    live = record { table = x.live.table; words = λ a ne w. x.live.words a ne w ∙ ap (λ (ws : List Parts). word_at ws a) read.words };
    still = still-twice m m1 m2 t t t2 scan scan scan2 registers registers registers2 0 1 (read-remains m m1 t scan registers at x.next read).still x.still;
  }

  word-only : (progress : Progress) (at : ℕ) → next_of scan t ≡ Some (Word at) → Scans m1 t scan registers m2 t2 scan2 registers2 progress → Scans m t scan registers m2 t2 scan2 registers2 progress
  word-only _ at is (register r x) = let bad : ◌≡◌ {A = Option ScanUnit} (Some (Register r)) (Some (Word at)) = sym x.next ∙ is in absurd cc
  word-only _ at is (word a x) = word a (read-word a x)
  word-only _ at is (none next over em et es er) = let bad : ◌≡◌ {A = Option ScanUnit} None (Some (Word at)) = sym next ∙ is in absurd cc

  -- the next unit is the word, if one is known; else nothing was read
  pub read-scans : (near : Option ℕ) (progress : Progress) → IfSome near (λ at. next_of scan t ≡ Some (Word at)) → IfNone near (m1 ≡ m) → Scans m1 t scan registers m2 t2 scan2 registers2 progress → Scans m t scan registers m2 t2 scan2 registers2 progress
  read-scans None progress is same x = subst (λ (y : Store). Scans y t scan registers m2 t2 scan2 registers2 progress) same x
  read-scans (Some at) progress is same x = word-only progress at is x

  pub read-moves : (near : Option ℕ) → IfSome near (λ at. next_of scan t ≡ Some (Word at)) → IfNone near (m1 ≡ m) → UnitMoves m1 t scan registers m2 t2 registers2 (next_of scan t) → UnitMoves m t scan registers m2 t2 registers2 (next_of scan t)
  read-moves None is same x = subst (λ (y : Store). UnitMoves y t scan registers m2 t2 registers2 (next_of scan t)) same x
  read-moves (Some at) is same x =
      let here : WordMoves m1 t scan m2 t2 at = subst (λ (u : Option ScanUnit). UnitMoves m1 t scan registers m2 t2 registers2 u) is x in
      subst (λ (u : Option ScanUnit). UnitMoves m t scan registers m2 t2 registers2 u) (sym is)
      (record { memory = here.memory; table = here.table; fetched = fetch_moves-read read here.fetched same-stores; ends = here.ends })

  -- a swap error occurred then
  pub read-then_remains : (near : Option ℕ) → IfSome near (λ at. next_of scan t ≡ Some (Word at)) → IfNone near (m1 ≡ m) → Remains m1 t scan registers m2 t2 scan2 registers2 → Remains m t scan registers m2 t2 scan2 registers2
  read-then_remains None is same x = subst (λ (y : Store). Remains y t scan registers m2 t2 scan2 registers2) same x
  read-then_remains (Some at) is same x = record {
    scan_same = x.scan_same;
    registers_same = x.registers_same;
    moves = x.moves;
    live = live-then (live-read read) x.live;
    still = still-twice m m1 m2 t t t2 scan scan scan2 registers registers registers2 0 0 (read-remains m m1 t scan registers at is read).still x.still;
  }

-- Sequences

pub many-then : (m m1 : Store) (t t1 : Table) (scan scan1 : Scan) (registers registers1 : List Parts) (i : ℕ) (m2 : Store) (t2 : Table) (scan2 : Scan) (registers2 : List Parts) (n : ℕ)
    → ScansMany m t scan registers m1 t1 scan1 registers1 i → ScansMany m1 t1 scan1 registers1 m2 t2 scan2 registers2 n → ScansMany m t scan registers m2 t2 scan2 registers2 (i + n)
many-then m m1 t t1 scan scan1 registers registers1 i m2 t2 scan2 registers2 n before nothing =
    let e : i ≡ i + 0 = omega arith in subst (λ (k : ℕ). ScansMany m t scan registers m1 t1 scan1 registers1 k) e before
many-then m m1 t t1 scan scan1 registers registers1 i m2 t2 scan2 registers2 n before (more ma mb ta tb sa sb ra rb k many one) =
    let e : suc (i + k) ≡ i + suc k = omega arith in
    subst (λ (j : ℕ). ScansMany m t scan registers m2 t2 scan2 registers2 j) e (more ma m2 ta t2 sa scan2 ra registers2 (i + k) (many-then m m1 t t1 scan scan1 registers registers1 i ma ta sa ra k before many) one)

pub each-then : (m m1 : Store) (t t1 : Table) (scan scan1 : Scan) (registers registers1 : List Parts) (i : ℕ) (m2 : Store) (t2 : Table) (scan2 : Scan) (registers2 : List Parts) (n : ℕ)
    → MovesEach m t scan registers m1 t1 scan1 registers1 i → MovesEach m1 t1 scan1 registers1 m2 t2 scan2 registers2 n → MovesEach m t scan registers m2 t2 scan2 registers2 (i + n)
each-then m m1 t t1 scan scan1 registers registers1 i m2 t2 scan2 registers2 n before none_moved =
    let e : i ≡ i + 0 = omega arith in subst (λ (k : ℕ). MovesEach m t scan registers m1 t1 scan1 registers1 k) e before
each-then m m1 t t1 scan scan1 registers registers1 i m2 t2 scan2 registers2 n before (one_moved ma mb ta tb sa sb ra rb k each one moves) =
    let e : suc (i + k) ≡ i + suc k = omega arith in
    subst (λ (j : ℕ). MovesEach m t scan registers m2 t2 scan2 registers2 j) e (one_moved ma m2 ta t2 sa scan2 ra registers2 (i + k) (each-then m m1 t t1 scan scan1 registers registers1 i ma ta sa ra k before each) one moves)

-- the state after several scans
pub many-still : (m : Store) (t : Table) (scan : Scan) (registers : List Parts) (m' : Store) (t' : Table) (scan' : Scan) (registers' : List Parts) (n : ℕ) → ScansMany m t scan registers m' t' scan' registers' n → StillCollects m t scan registers m' t' scan' registers' n
many-still m t scan registers m' t' scan' registers' n nothing = still-same m t scan registers
many-still m t scan registers m' t' scan' registers' n (more ma mb ta tb sa sb ra rb k many one) =
    let e : k + 1 ≡ suc k = omega arith in
    subst (λ (j : ℕ). StillCollects m t scan registers m' t' scan' registers' j) e
    (still-twice m ma m' t ta t' scan sa scan' registers ra registers' k 1 (many-still m t scan registers ma ta sa ra k many) (scanned-still ma m' ta t' sa scan' ra registers' one))
