-- The writes and syncs with which saves are written, on a disk in memory.
use Rattle.std.specs.Prelude.{ℕ, ◌+◌, List, [], ◌∷◌, ◌++◌, fold}
use Rattle.band_disk.specs.Logs.{Call, MemoryDisk, Synced, Wrote, after_call}
use Rattle.band_store.specs.Format.{Save, record_of, record_size}

-- those of a save at the gate at this place: the record after it with a closed gate, and then the gate itself
abbrev pub save_calls : ℕ → Save → List Call
save_calls gate save = Wrote (gate + 1) (record_of save ++ 0 ∷ []) ∷ Synced ∷ Wrote gate (1 ∷ []) ∷ Synced ∷ []

-- those of several saves, one after another, the first of them at this gate
abbrev pub all_calls : ℕ → List Save → List Call
all_calls gate [] = []
all_calls gate (save ∷ saves) = save_calls gate save ++ all_calls (gate + record_size save) saves

-- the disk after these calls
abbrev pub after_calls : MemoryDisk → List Call → MemoryDisk
after_calls disk calls = fold after_call disk calls
