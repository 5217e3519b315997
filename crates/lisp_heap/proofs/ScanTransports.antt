-- The transports of a scan, over memories in lists.
use Rattle.std.proofs.Common.{◌≡◌, ℕ, ◌*◌, inl, inr, sym, ◌∙◌, ap, arith, List, length, length-set, Option, Some, None}
use Rattle.std.specs.Prelude.{IfNone, IfSome, map, slice_index, slice_set}
use Rattle.std.specs.List.{range_with_len}
use Rattle.std.proofs.lemmas.Bool.{cases_lt}
use Rattle.std.proofs.lemmas.List.{get_or_past}
use Rattle.std.proofs.lemmas.List.FromFn.{length-map-range_with_len}
use Rattle.store_word.specs.Words.{Parts}
use Rattle.mem_port.specs.Store.{Store, StoresNothing}
use Rattle.area_space.specs.Ground.{with_level}
use Rattle.area_space.specs.Table.{Table}
use Rattle.heap_state.specs.lisp_ground.Placing.{Opens}
use Rattle.heap_state.specs.transporter.Moving.{MovesAtMost, Transported, WritesLive, none, written, moved}
use Rattle.heap_state.specs.transporter.Relocations.{Moves, Relocates}
use Rattle.heap_state.specs.transporter.Transports.{MovesFrom, there, moved as from_old}
use Rattle.heap_state.specs.transporter.Writes.{Writes}
use Rattle.heap_state.specs.transporter.declared.parcel.Parcel.{Parcel}
use Rattle.heap_commands.specs.Moves.{MovesOrLays}
use Rattle.heap_commands.specs.cdr_lists.Parts.{LaysPair}
use Rattle.lisp_heap.specs.HeapView.{lists_of}
use Rattle.lisp_heap.proofs.ListedMemory.{same_mark}
use Rattle.lisp_heap.proofs.ScanOrder.{in_lists, unmarked}

-- if a page without marks gets none, it gets none in the list
clean_listed : (m m' : Store) (page : ℕ) → length m'.levels ≡ length m.levels → (m.marks page ≡ 0 → m'.marks page ≡ 0) → slice_index (lists_of m).marks page ≡ 0 → slice_index (lists_of m').marks page ≡ 0
clean_listed m m' page same stays clean = elim (cases_lt page (16 * length m.levels)) [
  | inl low ↦ unmarked m' page (stays (sym (same_mark m page low) ∙ clean))
  | inr high ↦ get_or_past (lists_of m').marks page 0 (let size = length-map-range_with_len m'.marks 0 (16 * length m'.levels) in omega arith)
]

nothing_listed : {m m' : Store} → StoresNothing m m' → StoresNothing (in_lists m) (in_lists m')
nothing_listed {m} {m'} x = record { words = x.words; levels = x.levels; top = x.top; unmarked = λ page clean. clean_listed m m' page (ap (λ (levels : List ℕ). length levels) x.levels) (x.unmarked page) clean }

writes_listed : {m m' : Store} {at count : ℕ} {word : ℕ → Parts} → Writes m m' at count word → Writes (in_lists m) (in_lists m') at count word
writes_listed {m} {m'} x = record {
  size = x.size;
  there = x.there;
  others = x.others;
  levels = x.levels;
  top = x.top;
  unmarked = λ page clean low. clean_listed m m' page (ap (λ (levels : List ℕ). length levels) x.levels) (λ none. x.unmarked page none low) clean;
}

-- the level of a region is set in either
level_listed : (m : Store) (region level : ℕ) → in_lists (with_level m region level) ≡ with_level (in_lists m) region level
level_listed m region level =
    ap (λ (n : ℕ). record { words = m.words; levels = slice_set m.levels region level; marks = λ page. slice_index (map m.marks (range_with_len 0 (16 * n))) page; top = m.top }) (length-set m.levels region level)

opens_listed : {m m' : Store} {t t' : Table} {region : Option ℕ} {area level : ℕ} → Opens m t m' t' region area level → Opens (in_lists m) t (in_lists m') t' region area level
opens_listed {m} {m'} {t} {t'} {region} {area} {level} x = record {
  same = x.same;
  behind = behind region x.behind;
  chain = x.chain;
  region_level = levels region x.region_level;
  free = x.free;
  lowest = x.lowest;
  ground = record { size = x.ground.size; levels_size = x.ground.levels_size; top = x.ground.top; level_live = x.ground.level_live; level_old = x.ground.level_old; blank = x.ground.blank };
  named = x.named;
  sound = x.sound;
}
  where
    behind : (r : Option ℕ) → IfNone r (m' ≡ m) → IfNone r (in_lists m' ≡ in_lists m)
    behind None e = ap in_lists e
    behind (Some r) e = tt

    levels : (r : Option ℕ) → IfSome r (λ r. m' ≡ with_level m r level) → IfSome r (λ r. in_lists m' ≡ with_level (in_lists m) r level)
    levels None e = tt
    levels (Some r) e = ap in_lists e ∙ level_listed m r level

moves_listed : {m m' : Store} {p : Parcel} {to : ℕ} → Moves m m' p to → Moves (in_lists m) (in_lists m') p to
moves_listed x = record { copied = in_lists x.copied; copies = writes_listed x.copies; forwards = writes_listed x.forwards }

relocates_listed : {m m' : Store} {t t' : Table} {p : Parcel} {to : ℕ} → Relocates m t m' t' p to → Relocates (in_lists m) t (in_lists m') t' p to
relocates_listed x = record {
  area = x.area;
  level = x.level;
  old = x.old;
  region = x.region;
  room = in_lists x.room;
  table = x.table;
  opens = opens_listed x.opens;
  needed = x.needed;
  end = x.end;
  moves = moves_listed x.moves;
  commits = x.commits;
  sound = x.sound;
}

from_listed : {m m' : Store} {t t' : Table} {at to : ℕ} → MovesFrom m t m' t' at to → MovesFrom (in_lists m) t (in_lists m') t' at to
from_listed (there final young stays same) = there final young (nothing_listed stays) same
from_listed (from_old here p read final old is stays r) = from_old here p (in_lists read) final old is (nothing_listed stays) (relocates_listed r)

live_listed : {m m' : Store} {t t' : Table} → WritesLive m t m' t' → WritesLive (in_lists m) t (in_lists m') t'
live_listed x = record { room = x.room; opens = x.opens; but = x.but; words = x.words; codes = x.codes }

transported_listed : {m : Store} {t : Table} {m' : Store} {t' : Table} {count : ℕ} → Transported m t m' t' count → Transported (in_lists m) t (in_lists m') t' count
transported_listed none = none
transported_listed (written x w) = written (transported_listed x) (live_listed w)
transported_listed (moved x f) = moved (transported_listed x) (from_listed f)

pub most_listed : {m m' : Store} {t t' : Table} {most : ℕ} → MovesAtMost m t m' t' most → MovesAtMost (in_lists m) t (in_lists m') t' most
most_listed x = record { count = x.count; few = x.few; moves = transported_listed x.moves }

-- A cell that became a pair

lays_listed : {m m' : Store} {t t' : Table} {cell : ℕ} {car cdr : Parts} → LaysPair m t m' t' cell car cdr → LaysPair (in_lists m) t (in_lists m') t' cell car cdr
lays_listed x = record { room = x.room; opens = x.opens; area = x.area; level = x.level; needed = x.needed; class = x.class; at = x.at; end = x.end; commit = x.commit; first = x.first; second = x.second; forward = x.forward; rest = x.rest }

pub laid_listed : {m m' : Store} {t t' : Table} {target cdr : Parts} → MovesOrLays m t m' t' target cdr → MovesOrLays (in_lists m) t (in_lists m') t' target cdr
laid_listed (inl x) = inl (most_listed x)
laid_listed (inr x) = inr (record {
  ready = in_lists x.ready;
  table = x.table;
  settled = most_listed x.settled;
  cell = x.cell;
  place = record { reference = x.place.reference; is = x.place.is; final = x.place.final; last = record { inside = x.place.last.inside; no_forward = x.place.last.no_forward } };
  no_pair = x.no_pair;
  between = in_lists x.between;
  room = x.room;
  car = most_listed x.car;
  lays = lays_listed x.lays;
})
