-- The order of a scan, over memories in lists.
use Rattle.std.proofs.Common.{◌≡◌, ℕ, ◌*◌, ◌/◌, inl, inr, ◌∙◌, arith, List, length}
use Rattle.std.specs.Prelude.{slice_index}
use Rattle.std.specs.List.{range_with_len}
use Rattle.std.proofs.lemmas.Bool.{cases_lt}
use Rattle.std.proofs.lemmas.List.{get_or_past, length-map}
use Rattle.std.proofs.lemmas.List.FromFn.{length-range_with_len}
use Rattle.store_word.specs.Words.{Parts}
use Rattle.mem_port.specs.Store.{Store}
use Rattle.area_space.specs.Table.{Table}
use Rattle.scavenger.specs.declared.scan_set.Progress.TheVariants.{Scanned}
use Rattle.scavenger.specs.Scan.{Scan}
use Rattle.scavenger.specs.Scanning.{Scans, ScansRegister, ScansWord, StillCollects, register, word}
use Rattle.scavenger.specs.Sweeping.{ScansMany, ScansUpTo, nothing, more}
use Rattle.lisp_heap.specs.HeapView.{lists_of, store_of}
use Rattle.lisp_heap.specs.Units.{FollowsOrder}
use Rattle.lisp_heap.proofs.ListedMemory.{remarked_collects, same_mark}
use Rattle.word_graph.specs.lisp_meaning.Interpretation.{by_map}

-- a memory with its marks in a list
abbrev pub in_lists : Store → Store
in_lists m = store_of (lists_of m)

-- a page without marks has none in the list
pub unmarked : (m : Store) (page : ℕ) → m.marks page ≡ 0 → slice_index (lists_of m).marks page ≡ 0
unmarked m page none = elim (cases_lt page (16 * length m.levels)) [
  | inl low ↦ same_mark m page low ∙ none
  | inr high ↦ get_or_past (lists_of m).marks page 0 (let a = length-map (range_with_len 0 (16 * length m.levels)) m.marks in let b = length-range_with_len 0 (16 * length m.levels) in omega arith)
]

module _ {m m' : Store} {t t' : Table} {scan scan' : Scan} {registers registers' : List Parts} where
  still_listed : (count : ℕ) → StillCollects m t scan registers m' t' scan' registers' count → StillCollects (in_lists m) t scan registers (in_lists m') t' scan' registers' count
  still_listed count still it values x =
      let y = still it values (remarked_collects (in_lists m) m.marks t scan registers it values x) in
      record {
        map = y.map;
        collects = remarked_collects m' (λ page. slice_index (lists_of m').marks page) t' scan' registers' (by_map it y.map) values y.collects;
        refines = y.refines;
        moves = y.moves;
        units = y.units;
      }

  register_listed : (r : ℕ) → ScansRegister m t scan registers m' t' scan' registers' r → ScansRegister (in_lists m) t scan registers (in_lists m') t' scan' registers' r
  register_listed r x = record {
    next = x.next;
    done = x.done;
    word = x.word;
    written = x.written;
    settled = x.settled;
    moves = x.moves;
    live = record { table = x.live.table; words = x.live.words };
    still = still_listed 1 x.still;
  }

  word_listed : (a : ℕ) → ScansWord m t scan registers m' t' scan' registers' a → ScansWord (in_lists m) t scan registers (in_lists m') t' scan' registers' a
  word_listed a x = record {
    next = x.next;
    done = x.done;
    registers_same = x.registers_same;
    settled = x.settled;
    moves = x.moves;
    remarked = λ ended clean. unmarked m' (a / 256) (x.remarked ended clean);
    live = record { table = x.live.table; words = x.live.words };
    still = still_listed 1 x.still;
  }

one_listed : (m m' : Store) (t t' : Table) (scan scan' : Scan) (registers registers' : List Parts) → Scans m t scan registers m' t' scan' registers' Scanned → Scans (in_lists m) t scan registers (in_lists m') t' scan' registers' Scanned
one_listed m m' t t' scan scan' registers registers' (register r x) = register r (register_listed r x)
one_listed m m' t t' scan scan' registers registers' (word a x) = word a (word_listed a x)

many_listed : (m : Store) (t : Table) (scan : Scan) (registers : List Parts) (m' : Store) (t' : Table) (scan' : Scan) (registers' : List Parts) (count : ℕ)
    → ScansMany m t scan registers m' t' scan' registers' count → ScansMany (in_lists m) t scan registers (in_lists m') t' scan' registers' count
many_listed m t scan registers m' t' scan' registers' count nothing = nothing
many_listed m t scan registers m' t' scan' registers' count (more m1 m2 t1 t2 s1 s2 r1 r2 n many one) =
    more (in_lists m1) (in_lists m2) t1 t2 s1 s2 r1 r2 n (many_listed m t scan registers m1 t1 s1 r1 n many) (one_listed m1 m2 t1 t2 s1 s2 r1 r2 one)

pub up_to_listed : {m m' : Store} {t t' : Table} {scan scan' : Scan} {registers registers' : List Parts} {limit : ℕ}
    → ScansUpTo m t scan registers m' t' scan' registers' limit → FollowsOrder (in_lists m) t scan registers (in_lists m') t' scan' registers' limit
up_to_listed x = record { count = x.count; many = many_listed _ _ _ _ _ _ _ _ x.count x.many; counted = x.counted; few = x.few; all = x.all }
