-- A disk in memory: the bytes that it started with, and a log of every write, sync and restart since.
use Rattle.std.specs.Prelude.{◌≡◌, ℕ, ◌+◌, ◌*◌, ◌/◌, ◌≤◌, List, [], ◌∷◌, ◌++◌, length, take, fold, sum_by, replicate, Bool, false, not, nat_le, ◌==◌, ◌&&◌, ◌||◌, if◌then◌else◌}
use Rattle.outer_ports.specs.Ports.{next_count}
use Rattle.band_disk.specs.Disks.{Torn, overwritten}

-- Calls

-- a write of a piece at a position, a sync, or a restart that found unsynced writes
pub data Call : Type 0 where
  Wrote : (at : ℕ) (piece : List ℕ) → Call
  Synced : Call
  Restarted : Call

-- writes, each with its position and its piece
abbrev pub Writes : Type 0
Writes = List (ℕ × List ℕ)

-- the bytes with each of these writes applied, in order
abbrev pub with_writes : List ℕ → Writes → List ℕ
with_writes bytes [] = bytes
with_writes bytes (write ∷ writes) = with_writes (overwritten write.0 write.1 bytes) writes

-- the same writes, with each byte 255
abbrev pub spoiled : Writes → Writes
spoiled [] = []
spoiled (write ∷ writes) = (write.0, replicate (length write.1) 255) ∷ spoiled writes

-- the writes among these calls
abbrev pub writes_in : List Call → Writes
writes_in [] = []
writes_in (Wrote at piece ∷ calls) = (at, piece) ∷ writes_in calls
writes_in (Synced ∷ calls) = writes_in calls
writes_in (Restarted ∷ calls) = writes_in calls

-- Each write begins within the bytes so far or at their end, and ends within the room.
abbrev pub AreWithin : ℕ → List ℕ → Writes → Type 0
AreWithin room bytes [] = Unit {0}
AreWithin room bytes (write ∷ writes) = (write.0 ≤ length bytes) × (write.0 + length write.1 ≤ room) × AreWithin room (overwritten write.0 write.1 bytes) writes

-- The effect of the calls on the bytes

-- the writes since the last sync or restart, after one more call
abbrev pub unsynced_after : Writes → Call → Writes
unsynced_after writes (Wrote at piece) = writes ++ (at, piece) ∷ []
unsynced_after writes Synced = []
unsynced_after writes Restarted = []

abbrev pub unsynced : List Call → Writes
unsynced calls = fold unsynced_after [] calls

-- the bytes as of the last sync or restart, and the writes since
pub record DiskContents : Type 0 where
  pub synced : List ℕ
  pub writes : Writes

-- the bytes that a read returns: those writes are applied
abbrev pub as_read : DiskContents → List ℕ
as_read contents = with_writes contents.synced contents.writes

-- the effect of a restart with this tear on the synced bytes and the writes since: with 0 the writes are lost, with 1 kept, and with 2 or more all their bytes are 255
abbrev pub left_by : ℕ → List ℕ → Writes → List ℕ
left_by tear synced writes =
    if tear == 0 then synced
    else if tear == 1 then with_writes synced writes
    else with_writes synced (spoiled writes)

abbrev pub synced_after : ℕ → DiskContents → Call → List ℕ
synced_after tear contents (Wrote at piece) = contents.synced
synced_after tear contents Synced = as_read contents
synced_after tear contents Restarted = left_by tear contents.synced contents.writes

-- the contents after one more call
abbrev pub after : ℕ → DiskContents → Call → DiskContents
after tear contents call = record { synced = synced_after tear contents call; writes = unsynced_after contents.writes call }

-- the effect of these calls on the bytes at the start
abbrev pub contents_of : ℕ → List ℕ → List Call → DiskContents
contents_of tear start calls = fold (after tear) (record { synced = start; writes = [] }) calls

-- How much of the log the calls use

-- a write uses a second entry, for a restart after it, so a restart uses none of its own
abbrev pub entries_of : Call → ℕ
entries_of (Wrote at piece) = 2
entries_of Synced = 1
entries_of Restarted = 0

abbrev pub bytes_of : Call → ℕ
bytes_of (Wrote at piece) = length piece
bytes_of Synced = 0
bytes_of Restarted = 0

-- Disks in memory

-- The bytes at the start and the calls since; the room; the tear of a restart; the number of the write or sync that fails, how many were requested, and whether the disk has failed at that one; and how many calls failed
pub record MemoryDisk : Type 0 where
  pub start : List ℕ
  pub calls : List Call
  pub room : ℕ
  pub tear : ℕ
  pub stop : ℕ
  pub count : ℕ
  pub stopped : Bool
  pub faults : ℕ

-- a disk with these bytes, all of them synced, before the first call
abbrev pub fresh : List ℕ → ℕ → ℕ → ℕ → MemoryDisk
fresh bytes room stop tear = record { start = bytes; calls = []; room = room; tear = tear; stop = stop; count = 0; stopped = false; faults = 0 }

abbrev pub contents : MemoryDisk → DiskContents
contents disk = contents_of disk.tear disk.start disk.calls

-- the bytes that a read returns
abbrev pub disk_bytes : MemoryDisk → List ℕ
disk_bytes disk = as_read (contents disk)

-- the unsynced writes lie within the room
abbrev pub LiesWithin : MemoryDisk → Type 0
LiesWithin disk = AreWithin disk.room (contents disk).synced (contents disk).writes

-- The effect of a call

-- the next write or sync is the one that fails, or the disk has already failed
abbrev pub stops : MemoryDisk → Bool
stops disk = disk.stopped || next_count disk.count == disk.stop

-- The log has room for this many more entries and bytes: it has a quarter of the room in entries, and three times the room in bytes.
abbrev pub has_place : MemoryDisk → ℕ → ℕ → Bool
has_place disk entries bytes = nat_le (sum_by entries_of disk.calls + entries) (disk.room / 4) && nat_le (sum_by bytes_of disk.calls + bytes) (3 * disk.room)

abbrev pub goes : MemoryDisk → ℕ → ℕ → Bool
goes disk entries bytes = not (stops disk) && has_place disk entries bytes

-- the write or sync doesn't fail
abbrev pub accepts : MemoryDisk → Call → Bool
accepts disk call = goes disk (entries_of call) (bytes_of call)

-- one more write or sync was requested
abbrev pub counted : MemoryDisk → MemoryDisk
counted disk = record disk { count = next_count disk.count; stopped = stops disk }

-- one more call failed
abbrev pub failed : MemoryDisk → MemoryDisk
failed disk = record disk { faults = next_count disk.faults }

abbrev pub noted : MemoryDisk → Call → MemoryDisk
noted disk call = record disk { calls = disk.calls ++ call ∷ [] }

-- after a write or a sync; if it failed, it isn't logged
abbrev pub after_call : MemoryDisk → Call → MemoryDisk
after_call disk call = if accepts disk call then noted (counted disk) call else failed (counted disk)

-- after a read, which fails only if the disk has failed
abbrev pub after_read : MemoryDisk → MemoryDisk
after_read disk = if disk.stopped then failed disk else disk

-- after a restart, which is logged only if a write wasn't synced
abbrev pub restarted : MemoryDisk → MemoryDisk
restarted disk = record disk { stopped = false; calls = if length (unsynced disk.calls) == 0 then disk.calls else disk.calls ++ Restarted ∷ [] }

-- Possible post-crash states

-- an image: these bytes with the writes applied one after another, each of which may be torn
abbrev pub IsImage : List ℕ → Writes → List ℕ → Type 0
IsImage bytes [] image = image ≡ bytes
IsImage bytes (write ∷ writes) image = (torn : List ℕ) × Torn write.0 (length write.1) bytes torn × IsImage torn writes image

abbrev pub image_of : MemoryDisk → List ℕ → Type 0
image_of disk image = IsImage (contents disk).synced (contents disk).writes image

-- the disk when it had logged this many calls
abbrev pub as_of : ℕ → MemoryDisk → MemoryDisk
as_of count disk = record disk { calls = take count disk.calls }

-- the images of some moment from t on; moments are counted in calls
abbrev pub image_since : MemoryDisk → ℕ → List ℕ → Type 0
image_since disk t image = (moment : ℕ) × (t ≤ moment) × (moment ≤ length disk.calls) × image_of (as_of moment disk) image
