-- The disk on which the program runs.
use Rattle.std.specs.Prelude.{ℕ, List, [], ◌∷◌, ◌++◌}
use Rattle.band_store.specs.band_disk.Logs.{MemoryDisk, fresh}
use Rattle.band_store.specs.Format.{header}

-- a store without bands: the header, and a closed gate
abbrev pub empty_store : List ℕ
empty_store = header ++ 0 ∷ []

-- the number of bytes that the disk has room for
abbrev pub room : ℕ
room = 16777216

-- the disk in memory with which the program starts, without a planned crash
abbrev pub new_disk : MemoryDisk
new_disk = fresh empty_store room 0 0
