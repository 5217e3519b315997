-- Transports, one after another.
use Rattle.std.proofs.Common.{ℕ, suc, ◌≡◌, ◌≢◌, ◌+◌, ◌/◌, ◌<◌, ◌≤◌, List, length, slice_set, refl, sym, ◌∙◌, ap, subst, inl, inr, arith}
use Rattle.std.proofs.lemmas.Bool.{cases_eq}
use Rattle.std.proofs.lemmas.List.{get_or-set_same, get_or-set_other}
use Rattle.store_word.specs.Words.{Parts, null_word}
use Rattle.mem_port.specs.Store.{Store, StoresNothing}
use Rattle.area_space.specs.Table.{Table, IsOld}
use Rattle.obj_layout.specs.Forwards.{word_at, Final}
use Rattle.obj_layout.proofs.ForwardChains.{stores_nothing-twice}
use Rattle.transporter.specs.LiveWordsUnchanged.{IsLiveWord}
use Rattle.transporter.specs.Growth.{OpensOrStays}
use Rattle.transporter.specs.Moving.{MovesFor, stays as stays_put, moves as moves_for, FetchMoves, WritesLive, Transported, none, written, moved, MovesAtMost}
use Rattle.transporter.specs.Parcels.{IsParcel}
use Rattle.transporter.specs.Relocations.{OpensAtMost, MovesHere}
use Rattle.transporter.specs.Settling.{Replaces, Settles}
use Rattle.transporter.specs.Transports.{MovesFrom, there, moved as moved_from}
use Rattle.transporter.proofs.FetchedWords.{same-code}
use Rattle.transporter.proofs.TableGrowth.{opens-faulted}
use Rattle.transporter.proofs.TransportClauses.{moves-from, stays-faulted}

-- Words that are read before, and after

-- nothing is stored if nothing is done
pub same-stores : {m : Store} → StoresNothing m m
same-stores = record { words = refl; levels = refl; top = refl; unmarked = λ page h. h }

pub moves-read : {m mid m' : Store} {t t' : Table} {at to : ℕ} → StoresNothing m mid → MovesFrom mid t m' t' at to → MovesFrom m t m' t' at to
moves-read {m} {mid} {m'} {t} {t'} {at} {to} read (there final young n same) =
    there (subst (λ (ws : List Parts). Final ws at to) read.words final) young (stores_nothing-twice read n) same
moves-read {m} {mid} {m'} {t} {t'} {at} {to} read (moved_from here p mid2 final old is n r) =
    moved_from here p mid2 (subst (λ (ws : List Parts). Final ws at here) read.words final) old (subst (λ (ws : List Parts). IsParcel ws here p) read.words is) (stores_nothing-twice read n) r

pub moves_for-read : {m mid m' : Store} {t t' : Table} {old new : Parts} → StoresNothing m mid → MovesFor mid t m' t' old new → MovesFor m t m' t' old new
moves_for-read read (stays_put young n same is) = stays_put young (stores_nothing-twice read n) same is
moves_for-read read (moves_for at to at_is old from is) = moves_for at to at_is old (moves-read read from) is

replaces-read : {m m' m2 : Store} {at : ℕ} {old new : Parts} → Replaces m m' at old new → StoresNothing m' m2 → Replaces m m2 at old new
replaces-read (inl same) n = inl (same.0, stores_nothing-twice same.1 n)
replaces-read (inr stores) n =
    let s = stores.1 in
    inr (stores.0, record { words = n.words ∙ s.words; levels = n.levels ∙ s.levels; top = n.top ∙ s.top; unmarked = λ page clean other. n.unmarked page (s.unmarked page clean other) })

-- for a word that is fetched
pub fetch_moves-read : {m mid m' m2 : Store} {t t' : Table} {a : ℕ} → StoresNothing m mid → FetchMoves mid t m' t' a → StoresNothing m' m2 → FetchMoves m t m2 t' a
fetch_moves-read {m} {mid} {m'} {m2} {t} {t'} {a} read f n =
    let before : word_at mid.words a ≡ word_at m.words a = ap (λ (ws : List Parts). word_at ws a) read.words in
    let after : word_at m'.words a ≡ word_at m2.words a = ap (λ (ws : List Parts). word_at ws a) (sym n.words) in
    let P : Parts → Type 0 = λ w. MovesFor m t f.between t' w (word_at m2.words a) in
    let Q : Parts → Type 0 = λ w. Replaces f.between m2 a w (word_at m2.words a) in
    record {
      between = f.between;
      moves = subst P before (subst (λ (w : Parts). MovesFor m t f.between t' (word_at mid.words a) w) after (moves_for-read read f.moves));
      stored = subst Q before (subst (λ (w : Parts). Replaces f.between m2 a (word_at mid.words a) w) after (replaces-read f.stored n));
    }

pub fetch_moves-of : {m mid m1 m2 : Store} {t t1 : Table} {at : ℕ} {old new : Parts} → StoresNothing m mid → word_at m.words at ≡ old → MovesFor mid t m1 t1 old new → Replaces m1 m2 at old new → word_at m2.words at ≡ new → FetchMoves m t m2 t1 at
fetch_moves-of {m} {mid} {m1} {m2} {t} {t1} {at} {old} {new} read old_is f r new_is =
    let P : Parts → Type 0 = λ w. MovesFor m t m1 t1 w (word_at m2.words at) in
    let Q : Parts → Type 0 = λ w. Replaces m1 m2 at w (word_at m2.words at) in
    record {
      between = m1;
      moves = subst P (sym old_is) (subst (λ (w : Parts). MovesFor m t m1 t1 old w) (sym new_is) (moves_for-read read f));
      stored = subst Q (sym old_is) (subst (λ (w : Parts). Replaces m1 m2 at old w) (sym new_is) r);
    }

-- If nothing is placed

-- no word changes
unwritten : {m m' : Store} {t t' : Table} → OpensOrStays t t' → m'.words ≡ m.words → WritesLive m t m' t'
unwritten {m} {m'} {t} {t'} opens same = record {
  room = t';
  opens = opens;
  but = refl;
  words = λ a free. ap (λ (ws : List Parts). word_at ws a) same;
  codes = λ a. ap (λ (ws : List Parts). (word_at ws a).cdr) same;
}

pub read-writes : {m m' : Store} (t : Table) → StoresNothing m m' → WritesLive m t m' t
read-writes t n = unwritten (inl refl) n.words

pub faulted-writes : {m mid m' : Store} {t t' : Table} → StoresNothing m mid → OpensAtMost mid t m' t' → WritesLive m t m' t'
faulted-writes {m} {mid} {m'} {t} {t'} read o = unwritten (opens-faulted o) (stays-faulted read o).words

-- one word of a live region does, and keeps its code
pub stored-writes : {m m' : Store} {t : Table} (at : ℕ) (new : Parts) → IsLiveWord t at → at < length m.words → new.cdr ≡ (word_at m.words at).cdr → m'.words ≡ slice_set m.words at new → WritesLive m t m' t
stored-writes {m} {m'} {t} at new alive inside code stored = record {
  room = t;
  opens = inl refl;
  but = refl;
  words = λ a free. other a (λ e. free (subst (λ (b : ℕ). IsLiveWord t b) (sym e) alive));
  codes = λ a. elim (cases_eq a at) [
    | inl e ↦
        let here : (word_at m'.words at).cdr ≡ new.cdr = ap (λ (ws : List Parts). (word_at ws at).cdr) stored ∙ ap (λ (w : Parts). w.cdr) (get_or-set_same m.words at new null_word inside) in
        ap (λ (b : ℕ). (word_at m'.words b).cdr) e ∙ (here ∙ code) ∙ ap (λ (b : ℕ). (word_at m.words b).cdr) (sym e)
    | inr ne ↦ ap (λ (w : Parts). w.cdr) (other a ne)
  ];
}
  where
    other : (a : ℕ) → a ≢ at → word_at m'.words a ≡ word_at m.words a
    other a ne = ap (λ (ws : List Parts). word_at ws a) stored ∙ get_or-set_other m.words at a new null_word ne

pub replaced-writes : {m m' : Store} {t : Table} {at : ℕ} {old new : Parts} → IsLiveWord t at → at < length m.words → new.cdr ≡ (word_at m.words at).cdr → Replaces m m' at old new → WritesLive m t m' t
replaced-writes {m} {m'} {t} {at} {old} {new} alive inside code (inl same) = read-writes t same.1
replaced-writes {m} {m'} {t} {at} {old} {new} alive inside code (inr stores) = stored-writes at new alive inside code stores.1.words

-- How many transports

pub transported-then : {m m1 : Store} {t t1 : Table} {m2 : Store} {t2 : Table} {n k : ℕ} → Transported m t m1 t1 n → Transported m1 t1 m2 t2 k → Transported m t m2 t2 (n + k)
transported-then {m} {m1} {t} {t1} {m2} {t2} {n} {k} x none = subst (λ (c : ℕ). Transported m t m1 t1 c) (let e : n ≡ n + 0 = omega arith in e) x
transported-then {m} {m1} {t} {t1} {m2} {t2} {n} {k} x (written y w) = written (transported-then x y) w
transported-then {m} {m1} {t} {t1} {m2} {t2} {n} {k} x (moved {count = c} y f) =
    subst (λ (i : ℕ). Transported m t m2 t2 i) (let e : suc (n + c) ≡ n + suc c = omega arith in e) (moved (transported-then x y) f)

pub moves-then : {m m1 m2 : Store} {t t1 t2 : Table} {n k : ℕ} → MovesAtMost m t m1 t1 n → MovesAtMost m1 t1 m2 t2 k → MovesAtMost m t m2 t2 (n + k)
moves-then x y = record { count = x.count + y.count; few = (let a = x.few in let b = y.few in omega arith); moves = transported-then x.moves y.moves }

pub moves-more : {m m' : Store} {t t' : Table} {n k : ℕ} → n ≤ k → MovesAtMost m t m' t' n → MovesAtMost m t m' t' k
moves-more more x = record { count = x.count; few = (let a = x.few in omega arith); moves = x.moves }

pub writes-moves : {m m' : Store} {t t' : Table} → WritesLive m t m' t' → MovesAtMost m t m' t' 0
writes-moves w = record { count = 0; few = omega arith; moves = written none w }

pub moves-once : {m m' : Store} {t t' : Table} {at to : ℕ} → MovesFrom m t m' t' at to → MovesAtMost m t m' t' 1
moves-once f = record { count = 1; few = omega arith; moves = moved none f }

-- what was read before makes no difference
pub moves-after_read : {m mid m' : Store} {t t' : Table} {n : ℕ} → StoresNothing m mid → MovesAtMost mid t m' t' n → MovesAtMost m t m' t' n
moves-after_read {m} {mid} {m'} {t} {t'} {n} read x = moves-more (let e : 0 + n ≤ n = omega arith in e) (moves-then (writes-moves (read-writes t read)) x)

-- Of single calls

pub read-once : {m m' : Store} (t : Table) → StoresNothing m m' → MovesAtMost m t m' t 1
read-once t n = moves-more (omega arith) (writes-moves (read-writes t n))

pub moved-once : {m mid m' : Store} {t t' : Table} {at : ℕ} (here to : ℕ) → Final m.words at here → StoresNothing m mid → IsOld t (here / 4096) → MovesHere mid t m' t' here to → MovesAtMost m t m' t' 1
moved-once here to final read old m = moves-once (moves-from here to final read old m)

pub faulted-once : {m mid m' : Store} {t t' : Table} → StoresNothing m mid → OpensAtMost mid t m' t' → MovesAtMost m t m' t' 1
faulted-once read o = moves-more (omega arith) (writes-moves (faulted-writes read o))

-- one was settled, between a read and a write at a live address
pub fetched-once : {m mid m1 m2 : Store} {t t1 : Table} {at : ℕ} {old new : Parts} → StoresNothing m mid → MovesAtMost mid t m1 t1 1 → IsLiveWord t1 at → at < length m1.words → word_at m1.words at ≡ old → Settles t t1 old new → Replaces m1 m2 at old new → MovesAtMost m t m2 t1 1
fetched-once {m} {mid} {m1} {m2} {t} {t1} {at} {old} {new} read x alive inside is settled r =
    let code : new.cdr ≡ (word_at m1.words at).cdr = same-code settled ∙ ap (λ (w : Parts). w.cdr) (sym is) in
    moves-then (moves-then (writes-moves (read-writes t read)) x) (writes-moves (replaced-writes alive inside code r))

-- and the write failed
pub unwritten-once : {m mid m1 m2 : Store} {t t1 : Table} → StoresNothing m mid → MovesAtMost mid t m1 t1 1 → StoresNothing m1 m2 → MovesAtMost m t m2 t1 1
unwritten-once {m} {mid} {m1} {m2} {t} {t1} read x n = moves-then (moves-then (writes-moves (read-writes t read)) x) (writes-moves (read-writes t1 n))
