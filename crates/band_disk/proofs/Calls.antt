-- The calls of a log's entries, and the effect of one more entry on them.
use Rattle.std.proofs.Common.{◌≡◌, ℕ, ◌+◌, ◌≤◌, List, [], ◌∷◌, ◌++◌, length, take, drop, sum_by, vec_capacity, refl, sym, ◌∙◌, ap, arith, length-append}
use Rattle.std.proofs.lemmas.List.{take_all, drop_all, drop_at, drop-append-le, take-append-le, drop-drop, length_push, length-drop}
use Rattle.std.proofs.lemmas.List.Sums.{fold_push, sum_by-append}
use Rattle.band_disk.specs.declared.log.Entry.{Entry}
use Rattle.band_disk.specs.declared.log.Entry.TheVariants.{Write, Sync, Restart}
use Rattle.band_disk.specs.declared.log.Log.{Log}
use Rattle.band_disk.specs.Logs.{Call, Wrote, Synced, Restarted, Writes, entries_of, unsynced, unsynced_after, writes_in}
use Rattle.band_disk.specs.Entries.{IsLog, IsNoted, bytes_behind, calls_of, entries_behind, log_calls, written_size}

pub calls_of-append : (entries rest : List Entry) (written : List ℕ) → calls_of (entries ++ rest) written ≡ calls_of entries written ++ calls_of rest (drop (written_size entries) written)
calls_of-append [] rest written = refl
calls_of-append (Write at len ∷ entries) rest written =
    ap (λ (l : List Call). Wrote at (take len written) ∷ l) (calls_of-append entries rest (drop len written))
    ∙ ap (λ (w : List ℕ). Wrote at (take len written) ∷ (calls_of entries (drop len written) ++ calls_of rest w)) (drop-drop (written_size entries) len written)
calls_of-append (Sync ∷ entries) rest written = ap (λ (l : List Call). Synced ∷ l) (calls_of-append entries rest written)
calls_of-append (Restart ∷ entries) rest written = ap (λ (l : List Call). Restarted ∷ l) (calls_of-append entries rest written)

-- bytes after those of the entries don't change the calls
pub calls_of-longer : (entries : List Entry) (written more : List ℕ) → written_size entries ≤ length written → calls_of entries (written ++ more) ≡ calls_of entries written
calls_of-longer [] written more le = refl
calls_of-longer (Write at len ∷ entries) written more le =
    ap (λ (w : List ℕ). Wrote at w ∷ calls_of entries (drop len (written ++ more))) (take-append-le len written more (omega arith))
    ∙ ap (λ (w : List ℕ). Wrote at (take len written) ∷ calls_of entries w) (drop-append-le len written more (omega arith))
    ∙ ap (λ (l : List Call). Wrote at (take len written) ∷ l) (calls_of-longer entries (drop len written) more (omega (arith, length-drop len written)))
calls_of-longer (Sync ∷ entries) written more le = ap (λ (l : List Call). Synced ∷ l) (calls_of-longer entries written more le)
calls_of-longer (Restart ∷ entries) written more le = ap (λ (l : List Call). Restarted ∷ l) (calls_of-longer entries written more le)

pub written_size-append : (entries rest : List Entry) → written_size (entries ++ rest) ≡ written_size entries + written_size rest
written_size-append [] rest = omega arith
written_size-append (Write at len ∷ entries) rest = omega (arith, written_size-append entries rest)
written_size-append (Sync ∷ entries) rest = written_size-append entries rest
written_size-append (Restart ∷ entries) rest = written_size-append entries rest

pub writes_in-append : (calls rest : List Call) → writes_in (calls ++ rest) ≡ writes_in calls ++ writes_in rest
writes_in-append [] rest = refl
writes_in-append (Wrote at piece ∷ calls) rest = ap (λ (l : Writes). (at, piece) ∷ l) (writes_in-append calls rest)
writes_in-append (Synced ∷ calls) rest = writes_in-append calls rest
writes_in-append (Restarted ∷ calls) rest = writes_in-append calls rest

-- one more write
pub calls_of-write : (entries : List Entry) (written piece : List ℕ) (at len : ℕ) → written_size entries ≡ length written → len ≡ length piece
    → calls_of (entries ++ Write at len ∷ []) (written ++ piece) ≡ calls_of entries written ++ Wrote at piece ∷ []
calls_of-write entries written piece at len size long =
    calls_of-append entries (Write at len ∷ []) (written ++ piece)
    ∙ ap (λ (l : List Call). l ++ Wrote at (take len (drop (written_size entries) (written ++ piece))) ∷ []) (calls_of-longer entries written piece (omega arith))
    ∙ ap (λ (w : List ℕ). calls_of entries written ++ Wrote at w ∷ []) (ap (λ (w : List ℕ). take len w) (drop_at written piece (written_size entries) (sym size)) ∙ take_all len piece (omega arith))

-- the log with a write
pub noted_write : (old new : Log) (at : ℕ) (piece : List ℕ) → IsLog old → old.taken + 2 ≤ old.places → length old.written.items + length piece ≤ old.space
    → new.entries.items ≡ old.entries.items ++ Write at (length piece) ∷ [] → vec_capacity old.entries ≤ vec_capacity new.entries
    → new.written.items ≡ old.written.items ++ piece → vec_capacity old.written ≤ vec_capacity new.written
    → new.taken ≡ old.taken + 2 → new.first ≡ old.first → new.first_byte ≡ old.first_byte → new.places ≡ old.places → new.space ≡ old.space
    → IsNoted old (Wrote at piece) new
noted_write old new at piece is place room entries capacity written wide taken first first_byte places space = record {
  log = record {
    places = omega (arith, is.places);
    space = omega (arith, is.space);
    few = omega arith;
    taken = omega (arith, is.taken, ap (sum_by entries_of) calls, sum_by-append entries_of (log_calls old) (Wrote at piece ∷ []));
    noted = omega (arith, is.noted, more);
    kept = λ lt. omega (arith, is.noted, more);
    short = omega (arith, longer);
    size = ap written_size entries ∙ written_size-append old.entries.items (Write at (length piece) ∷ []) ∙ omega (arith, is.size, longer);
    first = omega (arith, is.first, more);
    first_byte = omega (arith, is.first_byte, longer);
    size_behind = ap written_size behind ∙ written_size-append (entries_behind old) (Write at (length piece) ∷ []) ∙ omega (arith, is.size_behind, is.first_byte, longer);
    writes_behind = ap writes_in tail_calls ∙ writes_in-append (calls_of (entries_behind old) (bytes_behind old)) (Wrote at piece ∷ []) ∙ ap (λ (l : Writes). l ++ (at, piece) ∷ []) is.writes_behind ∙ sym unsynced_now;
    all = ap length unsynced_now ∙ omega (arith, length_push (unsynced (log_calls old)) (at, piece), is.all, is.first, more);
  };
  calls = calls;
  places = places;
  space = space;
}
  where
    calls : log_calls new ≡ log_calls old ++ Wrote at piece ∷ []
    calls = ap (λ (es : List Entry). calls_of es new.written.items) entries ∙ ap (calls_of (old.entries.items ++ Write at (length piece) ∷ [])) written ∙ calls_of-write old.entries.items old.written.items piece at (length piece) is.size refl

    more : length new.entries.items ≡ length old.entries.items + 1
    more = ap length entries ∙ length_push old.entries.items (Write at (length piece))

    longer : length new.written.items ≡ length old.written.items + length piece
    longer = ap length written ∙ length-append old.written.items piece

    behind : entries_behind new ≡ entries_behind old ++ Write at (length piece) ∷ []
    behind = ap (λ n. drop n new.entries.items) first ∙ ap (drop old.first) entries ∙ drop-append-le old.first old.entries.items (Write at (length piece) ∷ []) is.first

    behind_bytes : bytes_behind new ≡ bytes_behind old ++ piece
    behind_bytes = ap (λ n. drop n new.written.items) first_byte ∙ ap (drop old.first_byte) written ∙ drop-append-le old.first_byte old.written.items piece is.first_byte

    tail_calls : calls_of (entries_behind new) (bytes_behind new) ≡ calls_of (entries_behind old) (bytes_behind old) ++ Wrote at piece ∷ []
    tail_calls = ap (λ (es : List Entry). calls_of es (bytes_behind new)) behind ∙ ap (calls_of (entries_behind old ++ Write at (length piece) ∷ [])) behind_bytes
        ∙ calls_of-write (entries_behind old) (bytes_behind old) piece at (length piece) (omega (arith, is.size_behind, length-drop old.first_byte old.written.items)) refl

    unsynced_now : unsynced (log_calls new) ≡ unsynced (log_calls old) ++ (at, piece) ∷ []
    unsynced_now = ap unsynced calls ∙ fold_push unsynced_after [] (log_calls old) (Wrote at piece)

-- the log with a sync or a restart, after which everything is synced
pub noted_settled : (old new : Log) (entry : Entry) (call : Call) → ((written : List ℕ) → calls_of (entry ∷ []) written ≡ call ∷ []) → written_size (entry ∷ []) ≡ 0 → ((writes : Writes) → unsynced_after writes call ≡ [])
    → IsLog old → length old.entries.items + 1 ≤ new.taken → new.taken ≤ old.places → new.taken ≡ old.taken + entries_of call
    → new.entries.items ≡ old.entries.items ++ entry ∷ [] → vec_capacity old.entries ≤ vec_capacity new.entries
    → new.written ≡ old.written → new.first ≡ length new.entries.items → new.first_byte ≡ length new.written.items → new.places ≡ old.places → new.space ≡ old.space
    → IsNoted old call new
noted_settled old new entry call says none settles is noted few taken entries capacity written first first_byte places space = record {
  log = record {
    places = omega (arith, is.places);
    space = omega (arith, is.space, ap (λ v. vec_capacity v) written);
    few = omega arith;
    taken = omega (arith, is.taken, ap (sum_by entries_of) calls, sum_by-append entries_of (log_calls old) (call ∷ []));
    noted = omega (arith, more);
    kept = λ lt. absurd (omega arith);
    short = omega (arith, is.short, same);
    size = ap written_size entries ∙ written_size-append old.entries.items (entry ∷ []) ∙ omega (arith, is.size, same, none);
    first = omega arith;
    first_byte = omega arith;
    size_behind = ap written_size no_entry ∙ omega arith;
    writes_behind = ap (λ (es : List Entry). writes_in (calls_of es (drop new.first_byte new.written.items))) no_entry ∙ sym unsynced_now;
    all = ap length unsynced_now ∙ omega arith;
  };
  calls = calls;
  places = places;
  space = space;
}
  where
    calls : log_calls new ≡ log_calls old ++ call ∷ []
    calls = ap (λ (es : List Entry). calls_of es new.written.items) entries ∙ calls_of-append old.entries.items (entry ∷ []) new.written.items
        ∙ ap (λ (l : List Call). calls_of old.entries.items new.written.items ++ l) (says (drop (written_size old.entries.items) new.written.items))
        ∙ ap (λ v. calls_of old.entries.items v.items ++ call ∷ []) written

    more : length new.entries.items ≡ length old.entries.items + 1
    more = ap length entries ∙ length_push old.entries.items entry

    same : length new.written.items ≡ length old.written.items
    same = ap (λ v. length v.items) written

    no_entry : drop new.first new.entries.items ≡ []
    no_entry = drop_all new.first new.entries.items (omega arith)

    unsynced_now : unsynced (log_calls new) ≡ []
    unsynced_now = ap unsynced calls ∙ fold_push unsynced_after [] (log_calls old) call ∙ settles (unsynced (log_calls old))
