use Rattle.std.proofs.Common.{◌≡◌, ◌≤◌, length, drop, vec_capacity}
use Rattle.band_disk.specs.Logs.{AreWithin, spoiled, with_writes, writes_in}
use Rattle.band_disk.specs.Entries.{calls_of, written_size}
use Rattle.band_disk.proofs.log.spoil_writes.Given as goal

-- the remaining writes lead to the whole
abbrev pub invariant-loop-entry : goal.invariant-loop-entry
invariant-loop-entry l =
    let left = spoiled (writes_in (calls_of (drop l.entry-index l.entries) l.rest)) in
    record {
      all : with_writes l.bytes.items left ≡ with_writes l.fn.bytes.items (spoiled (writes_in (calls_of l.entries l.written)));
      within : AreWithin (vec_capacity l.fn.bytes) l.bytes.items left;
      size : written_size (drop l.entry-index l.entries) ≡ length l.rest;
      capacity : vec_capacity l.fn.bytes ≤ vec_capacity l.bytes;
    }
