-- Saves that the room holds don't fill the log of a disk in memory.
use Rattle.std.proofs.Common.{◌≡◌, ℕ, ◌+◌, ◌*◌, ◌/◌, ◌≤◌, List, [], ◌∷◌, ◌++◌, length, length-append, Bool, true, false, refl, sym, ◌∙◌, subst, arith}
use Rattle.std.specs.Prelude.{sum_by, nat_le, not, ◌&&◌, ◌==◌, if◌then◌else◌}
use Rattle.std.specs.List.{All}
use Rattle.std.proofs.lemmas.Bool.{ne_eqb}
use Rattle.std.proofs.lemmas.Bool.Decides.{nat_tests}
use Rattle.std.proofs.lemmas.List.Elements.{All-head, All-tail}
use Rattle.std.proofs.lemmas.List.Sums.{sum_by-append, sum_by-cons}
use Rattle.band_disk.specs.outer_ports.Ports.{next_count}
use Rattle.band_disk.specs.Logs.{Call, MemoryDisk, Synced, Wrote, accepts, after_call, bytes_of, counted, entries_of, failed, fresh, has_place, noted, stops}
use Rattle.band_store.specs.Format.{Save, record_of, record_size}
use Rattle.band_store.specs.Calls.{after_calls, all_calls}
use Rattle.band_store.proofs.RecordBytes.{length-record_of}

-- no call of the disk has failed, and its log has this number of entries and bytes
record Fits (room : ℕ) (disk : MemoryDisk) (entries bytes : ℕ) : Type 0 where
  pub room_is : disk.room ≡ room
  pub never : disk.stop ≡ 0
  pub going : disk.stopped ≡ false
  pub entries_are : sum_by entries_of disk.calls ≡ entries
  pub bytes_are : sum_by bytes_of disk.calls ≡ bytes
  pub none : disk.faults ≡ 0

goes_on : (disk : MemoryDisk) → disk.stop ≡ 0 → disk.stopped ≡ false → stops disk ≡ false
goes_on disk never going =
    let some : next_count disk.count == disk.stop ≡ false = ne_eqb (next_count disk.count) disk.stop (λ e. omega arith) in
    rw (going, some) refl

both_hold : (a b c d : ℕ) → a ≤ b → c ≤ d → (nat_le a b && nat_le c d) ≡ true
both_hold a b c d first second =
    let one : nat_le a b ≡ true = grind (arith, nat_tests) in
    let two : nat_le c d ≡ true = grind (arith, nat_tests) in
    rw (one, two) refl

accepted : (a b : Bool) → a ≡ false → b ≡ true → (not a && b) ≡ true
accepted a b off on = rw (off, on) refl

one_call : {room : ℕ} {disk : MemoryDisk} {entries bytes : ℕ} (call : Call) → Fits room disk entries bytes → 4 * (entries + entries_of call) ≤ room → bytes + bytes_of call ≤ 3 * room
    → Fits room (after_call disk call) (entries + entries_of call) (bytes + bytes_of call)
one_call {room} {disk} {entries} {bytes} call fits place space =
    let going : stops disk ≡ false = goes_on disk fits.never fits.going in
    let roomy : has_place disk (entries_of call) (bytes_of call) ≡ true =
    both_hold (sum_by entries_of disk.calls + entries_of call) (disk.room / 4) (sum_by bytes_of disk.calls + bytes_of call) (3 * disk.room)
    (omega (arith, fits.entries_are, fits.room_is, place)) (omega (arith, fits.bytes_are, fits.room_is, space)) in
    let yes : accepts disk call ≡ true = accepted (stops disk) (has_place disk (entries_of call) (bytes_of call)) going roomy in
    subst (λ (b : Bool). Fits room (if b then noted (counted disk) call else failed (counted disk)) (entries + entries_of call) (bytes + bytes_of call)) (sym yes)
    (record {
      room_is = fits.room_is;
      never = fits.never;
      going = going;
      entries_are = sum_by-append entries_of disk.calls (call ∷ []) ∙ omega (arith, fits.entries_are);
      bytes_are = sum_by-append bytes_of disk.calls (call ∷ []) ∙ omega (arith, fits.bytes_are);
      none = fits.none;
    })

record_length : (save : Save) → length (record_of save ++ 0 ∷ []) ≡ record_size save
record_length save = omega (arith, length-append (record_of save) (0 ∷ []), length-record_of save)

all_fit : (room gate : ℕ) (saves : List Save) (disk : MemoryDisk) (entries bytes held : ℕ) → Fits room disk entries bytes → 4 * entries ≤ held → bytes ≤ 2 * held → All (λ save. 24 ≤ record_size save) saves → held + sum_by record_size saves ≤ room
    → (after_calls disk (all_calls gate saves)).faults ≡ 0
all_fit room gate [] disk entries bytes held fits few short large within = fits.none
all_fit room gate (save ∷ saves) disk entries bytes held fits few short large within =
    let size = record_length save in
    let sum : sum_by record_size (save ∷ saves) ≡ record_size save + sum_by record_size saves = sum_by-cons record_size save saves in
    let least : 24 ≤ record_size save = All-head (λ s. 24 ≤ record_size s) save saves large in
    let first = one_call (Wrote (gate + 1) (record_of save ++ 0 ∷ [])) fits (omega arith) (omega arith) in
    let second = one_call Synced first (omega arith) (omega arith) in
    let third = one_call (Wrote gate (1 ∷ [])) second (omega arith) (omega arith) in
    let fourth = one_call Synced third (omega arith) (omega arith) in
    all_fit room (gate + record_size save) saves _ _ _ (held + record_size save) fourth (omega arith) (omega arith) (All-tail (λ s. 24 ≤ record_size s) save saves large) (omega arith)

pub saves_fit : (bytes : List ℕ) (room tear gate : ℕ) (saves : List Save) → All (λ save. 24 ≤ record_size save) saves → sum_by record_size saves ≤ room → (after_calls (fresh bytes room 0 tear) (all_calls gate saves)).faults ≡ 0
saves_fit bytes room tear gate saves large within =
    all_fit room gate saves (fresh bytes room 0 tear) 0 0 0 (record { room_is = refl; never = refl; going = refl; entries_are = refl; bytes_are = refl; none = refl }) (omega arith) (omega arith) large (omega arith)
