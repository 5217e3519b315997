-- What the calls of a disk in memory ensure, by its value before and after.
use Rattle.std.proofs.Common.{◌≡◌, ℕ, ◌==◌, not, Bool, true, false, if◌then◌else◌, List, [], ◌∷◌, ◌++◌, length, Result, Ok, Err, is_ok, OnOk, refl, sym, ◌∙◌, ap, subst, arith}
use Rattle.std.proofs.lemmas.Bool.Decides.{nat_tests}
use Rattle.std.proofs.lemmas.List.{nil_from_length}
use Rattle.band_disk.specs.Disks.{Elapses, Follows, Only, Torn, overwritten}
use Rattle.band_disk.specs.Logs.{AreWithin, Call, DiskContents, IsImage, MemoryDisk, Restarted, Synced, Writes, Wrote, accepts, after, after_call, as_read, contents, contents_of, counted, disk_bytes, failed, image_of, image_since, noted, restarted, unsynced, with_writes}
use Rattle.band_disk.proofs.Images.{elapses_push, elapses_same, image_left, image_push, image_whole}
use Rattle.band_disk.proofs.Invariant.{contents_push, writes_are}
use Rattle.band_disk.proofs.WriteSequences.{with_writes-append}
use Rattle.band_disk.proofs.TornWrites.{torn_lost}

-- the calls with or without this one added
abbrev pub calls_with : Bool → List Call → Call → List Call
calls_with true calls call = calls ++ call ∷ []
calls_with false calls call = calls

-- what no call changes, and which calls the log has after it
pub record Went (old new : MemoryDisk) (call : Call) (is_noted : Bool) : Type 0 where
  pub start : new.start ≡ old.start
  pub tear : new.tear ≡ old.tear
  pub room : new.room ≡ old.room
  pub calls : new.calls ≡ calls_with is_noted old.calls call

went : (old : MemoryDisk) (call : Call) (b : Bool) → Went old (if b then noted (counted old) call else failed (counted old)) call b
went old call true = record { start = refl; tear = refl; room = refl; calls = refl }
went old call false = record { start = refl; tear = refl; room = refl; calls = refl }

pub call_went : (old new : MemoryDisk) (call : Call) → new ≡ after_call old call → Went old new call (accepts old call)
call_went old new call is = subst (λ (d : MemoryDisk). Went old d call (accepts old call)) (sym is) (went old call (accepts old call))

pub elapses : (old new : MemoryDisk) (call : Call) (b : Bool) → Went old new call b → Elapses (length old.calls) (length new.calls) (image_since old) (image_since new) (image_of new)
elapses old new call true w = elapses_push old new call w.start w.tear w.calls
elapses old new call false w = elapses_same old new w.start w.tear w.calls

-- the contents after the call
contents_went : (old new : MemoryDisk) (call : Call) → Went old new call true → contents new ≡ after old.tear (contents old) call
contents_went old new call w = (λ i. contents_of (w.tear i) (w.start i) (w.calls i)) ∙ contents_push old.tear old.start old.calls call

contents_same : (old new : MemoryDisk) (call : Call) → Went old new call false → contents new ≡ contents old
contents_same old new call w i = contents_of (w.tear i) (w.start i) (w.calls i)

-- images along equal contents
at_contents : (a b : DiskContents) (image : List ℕ) → a ≡ b → IsImage a.synced a.writes image → IsImage b.synced b.writes image
at_contents a b image e is = subst (λ (c : DiskContents). IsImage c.synced c.writes image) e is

-- a write

pub write_follows : (old new : MemoryDisk) (at : ℕ) (piece : List ℕ) (b : Bool) → Went old new (Wrote at piece) b → Follows (Torn at (length piece)) (image_of old) (image_of new)
write_follows old new at piece true w image is =
    image_push (contents old).synced (contents old).writes at piece image (at_contents _ _ image (contents_went old new (Wrote at piece) w) is)
write_follows old new at piece false w image is = (image, at_contents _ _ image (contents_same old new (Wrote at piece) w) is, torn_lost at (length piece) image)

pub write_written : (old new : MemoryDisk) (at : ℕ) (piece : List ℕ) → Went old new (Wrote at piece) true → disk_bytes new ≡ overwritten at piece (disk_bytes old)
write_written old new at piece w = ap as_read (contents_went old new (Wrote at piece) w) ∙ with_writes-append (contents old).synced (contents old).writes ((at, piece) ∷ [])

-- a sync

pub sync_images : (old new : MemoryDisk) (b : Bool) → AreWithin old.room (contents old).synced (contents old).writes → Went old new Synced b → (image : List ℕ) → image_of new image → image_of old image
sync_images old new true within w image is =
    subst (image_of old) (sym (at_contents _ _ image (contents_went old new Synced w) is)) (image_whole old.room (contents old).synced (contents old).writes within)
sync_images old new false within w image is = at_contents _ _ image (contents_same old new Synced w) is

-- if the call succeeded it was logged
pub on_ok : {E : Type 0} (result : Result (Unit {0}) E) (b : Bool) (P : Type 0) → is_ok result ≡ b → (b ≡ true → P) → OnOk result P
on_ok (Ok x) b P is holds = holds (sym is)
on_ok (Err e) b P is holds = tt

-- a restart

pub restart_went : (old new : MemoryDisk) → new ≡ restarted old → Went old new Restarted (not (length (unsynced old.calls) == 0))
restart_went old new is = subst (λ (d : MemoryDisk). Went old d Restarted (not (length (unsynced old.calls) == 0))) (sym is) (by (length (unsynced old.calls) == 0))
  where
    by : (b : Bool) → Went old (record old { stopped = false; calls = if b then old.calls else old.calls ++ Restarted ∷ [] }) Restarted (not b)
    by true = record { start = refl; tear = refl; room = refl; calls = refl }
    by false = record { start = refl; tear = refl; room = refl; calls = refl }

-- if no restart was logged, everything was synced
all_synced : (old : MemoryDisk) → not (length (unsynced old.calls) == 0) ≡ false → (contents old).writes ≡ []
all_synced old none = writes_are old.tear old.start old.calls ∙ nil_from_length (unsynced old.calls) (grind (arith, nat_tests))

pub restart_image : (old new : MemoryDisk) (b : Bool) → not (length (unsynced old.calls) == 0) ≡ b → AreWithin old.room (contents old).synced (contents old).writes → Went old new Restarted b → image_of old (disk_bytes new)
restart_image old new true is within w =
    subst (image_of old) (sym (ap as_read (contents_went old new Restarted w))) (image_left old.room old.tear (contents old).synced (contents old).writes within)
restart_image old new false is within w =
    subst (image_of old) (sym (ap as_read (contents_same old new Restarted w))) (image_whole old.room (contents old).synced (contents old).writes within)

pub restart_durable : (old new : MemoryDisk) (b : Bool) → not (length (unsynced old.calls) == 0) ≡ b → Went old new Restarted b → Only (disk_bytes new) (image_of new)
restart_durable old new true is w image left =
    at_contents _ _ image (contents_went old new Restarted w) left ∙ sym (ap as_read (contents_went old new Restarted w))
restart_durable old new false is w image left =
    let none = ap (λ (c : DiskContents). c.writes) (contents_same old new Restarted w) ∙ all_synced old is in
    subst (λ (writes : Writes). IsImage (contents new).synced writes image → image ≡ with_writes (contents new).synced writes) (sym none) (λ same. same) left
