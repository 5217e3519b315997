-- The representation of a disk in memory.
use Rattle.std.specs.Prelude.{◌≡◌, ℕ, ◌*◌, ◌/◌, ◌≤◌, List, length}
use Rattle.band_disk.specs.declared.log.Log.{Log}
use Rattle.band_disk.specs.Logs.{AreWithin, as_read, contents_of, unsynced}
use Rattle.band_disk.specs.Entries.{IsLog, log_calls}

-- the bytes as read and the bytes as of the last sync result from the log's calls on the bytes at the start
pub record LogInvariant (log : Log) (start bytes synced : List ℕ) (room tear : ℕ) : Type 0 where
  pub is_log : IsLog log
  pub entries : log.places ≡ room / 4
  pub written : log.space ≡ 3 * room
  pub read : bytes ≡ as_read (contents_of tear start (log_calls log))
  pub durable : synced ≡ (contents_of tear start (log_calls log)).synced
  pub within : AreWithin room synced (unsynced (log_calls log))
  pub size : length bytes ≤ room
  pub durable_size : length synced ≤ room
