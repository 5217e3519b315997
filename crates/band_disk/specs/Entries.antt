-- The representation of a log in memory: its entries, and separately the bytes of its writes, one write after another.
use Rattle.std.specs.Prelude.{◌≡◌, ℕ, ◌+◌, ◌-◌, ◌<◌, ◌≤◌, List, [], ◌∷◌, ◌++◌, length, take, drop, sum_by, vec_capacity}
use Rattle.band_disk.specs.declared.log.Entry.{Entry}
use Rattle.band_disk.specs.declared.log.Entry.TheVariants.{Write, Sync, Restart}
use Rattle.band_disk.specs.declared.log.Log.{Log}
use Rattle.band_disk.specs.Logs.{Call, Wrote, Synced, Restarted, entries_of, unsynced, writes_in}

-- the calls of these entries
abbrev pub calls_of : List Entry → List ℕ → List Call
calls_of [] written = []
calls_of (Write at len ∷ entries) written = Wrote at (take len written) ∷ calls_of entries (drop len written)
calls_of (Sync ∷ entries) written = Synced ∷ calls_of entries written
calls_of (Restart ∷ entries) written = Restarted ∷ calls_of entries written

-- how many bytes these entries wrote
abbrev pub written_size : List Entry → ℕ
written_size [] = 0
written_size (Write at len ∷ entries) = len + written_size entries
written_size (Sync ∷ entries) = written_size entries
written_size (Restart ∷ entries) = written_size entries

-- the calls of a log
abbrev pub log_calls : Log → List Call
log_calls log = calls_of log.entries.items log.written.items

-- the entries since the last sync or restart, and the bytes that they wrote
abbrev pub entries_behind : Log → List Entry
entries_behind log = drop log.first log.entries.items

abbrev pub bytes_behind : Log → List ℕ
bytes_behind log = drop log.first_byte log.written.items

-- the allocated memory is enough, the counts are right, and the writes since the last sync are at the log's positions
pub record IsLog (log : Log) : Type 0 where
  pub places : log.places ≤ vec_capacity log.entries
  pub space : log.space ≤ vec_capacity log.written
  pub few : log.taken ≤ log.places
  pub taken : log.taken ≡ sum_by entries_of (log_calls log)
  pub noted : length log.entries.items ≤ log.taken
  pub kept : log.first < length log.entries.items → length log.entries.items < log.taken
  pub short : length log.written.items ≤ log.space
  pub size : written_size log.entries.items ≡ length log.written.items
  pub first : log.first ≤ length log.entries.items
  pub first_byte : log.first_byte ≤ length log.written.items
  pub size_behind : written_size (entries_behind log) ≡ length log.written.items - log.first_byte
  pub writes_behind : writes_in (calls_of (entries_behind log) (bytes_behind log)) ≡ unsynced (log_calls log)
  -- there is nothing else
  pub all : length (unsynced (log_calls log)) ≡ length log.entries.items - log.first

-- the log after one more call
pub record IsNoted (old : Log) (call : Call) (new : Log) : Type 0 where
  pub log : IsLog new
  pub calls : log_calls new ≡ log_calls old ++ call ∷ []
  pub places : new.places ≡ old.places
  pub space : new.space ≡ old.space
