-- Pages of 256 words in a list of words, one page after another.
use Rattle.std.specs.Prelude.{◌≡◌, ℕ, zero, suc, ◌+◌, ◌*◌, ◌<◌, ◌≤◌, List, length, slice_get, nat_lt, nat_le, ◌&&◌, if◌then◌else◌}
use Rattle.store_word.specs.Words.{Parts}
use Rattle.store_word.specs.declared.sizes.TheConstants.{PAGE_WORDS}
use Rattle.outer_ports.specs.Ports.{next_count}

-- the words of one page become `words`, and no other word changes
pub record Fills (old new : List Parts) (page : ℕ) (words : List Parts) : Type 0 where
  pub size : length new ≡ length old
  pub here : (k : ℕ) → k < PAGE_WORDS → slice_get new (PAGE_WORDS * page + k) ≡ slice_get words k
  pub below : (i : ℕ) → i < PAGE_WORDS * page → slice_get new i ≡ slice_get old i
  pub above : (i : ℕ) → PAGE_WORDS * page + PAGE_WORDS ≤ i → slice_get new i ≡ slice_get old i

-- the page calls so far, including those that failed
pub record Calls : Type 0 where
  pub writes : ℕ
  pub reads : ℕ

-- the page calls after one more write or read; each count saturates at 2^64 - 1
abbrev pub with_write : Calls → Calls
with_write calls = record calls { writes = next_count calls.writes }

abbrev pub with_read : Calls → Calls
with_read calls = record calls { reads = next_count calls.reads }

-- the page calls after this many more writes
abbrev pub with_writes : ℕ → Calls → Calls
with_writes zero calls = calls
with_writes (suc count) calls = with_write (with_writes count calls)

-- a swap device in memory: the words of its pages, the number of the page call that fails, how many page calls there were, and how many writes and reads
pub record Device : Type 0 where
  pub stored : List Parts
  pub fail : ℕ
  pub calls : ℕ
  pub writes : ℕ
  pub reads : ℕ

-- how many page calls failed: one, from the call that has to fail on
abbrev pub faults_of : Device → ℕ
faults_of device = if nat_lt 0 device.fail && nat_le device.fail device.calls then 1 else 0

-- the device after one more page call
abbrev pub after_page_call : Device → Device
after_page_call device = record device { calls = next_count device.calls }

-- the device after one more page write, or read
abbrev pub after_write : Device → Device
after_write device = record (after_page_call device) { writes = next_count device.writes }

abbrev pub after_read : Device → Device
after_read device = record (after_page_call device) { reads = next_count device.reads }
