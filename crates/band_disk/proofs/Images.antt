-- The images that each call of a disk in memory leaves possible.
use Rattle.std.proofs.Common.{◌≡◌, ℕ, ◌+◌, ◌≤◌, inl, inr, ◌==◌, Bool, true, false, if◌then◌else◌, List, [], ◌∷◌, ◌++◌, length, take, replicate, refl, sym, ◌∙◌, ap, subst, arith}
use Rattle.std.proofs.lemmas.Bool.{cases_lt}
use Rattle.std.proofs.lemmas.List.{take-append-le, length-replicate, length_push}
use Rattle.band_disk.specs.Disks.{Elapses, Torn, overwritten}
use Rattle.band_disk.specs.Logs.{AreWithin, Call, IsImage, MemoryDisk, Writes, as_of, contents_of, image_of, image_since, left_by, spoiled, with_writes}
use Rattle.band_disk.specs.Moments.{as_of-all}
use Rattle.band_disk.proofs.WriteSequences.{spoiled_within}
use Rattle.band_disk.proofs.TornWrites.{torn_laid, torn_lost}

-- Images

-- an image after one more write is an image before it, with that write torn
pub image_push : (bytes : List ℕ) (writes : Writes) (at : ℕ) (piece image : List ℕ) → IsImage bytes (writes ++ (at, piece) ∷ []) image → (was : List ℕ) × IsImage bytes writes was × Torn at (length piece) was image
image_push bytes [] at piece image is = (bytes, refl, subst (λ (i : List ℕ). Torn at (length piece) bytes i) (sym is.2) is.1)
image_push bytes (write ∷ writes) at piece image is =
    let rest = image_push is.0 writes at piece image is.2 in (rest.0, (is.0, is.1, rest.1), rest.2)

-- all writes may be lost, all may be whole, and all their bytes may be 255
image_lost : (bytes : List ℕ) (writes : Writes) → IsImage bytes writes bytes
image_lost bytes [] = refl
image_lost bytes (write ∷ writes) = (bytes, torn_lost write.0 (length write.1) bytes, image_lost bytes writes)

pub image_whole : (room : ℕ) (bytes : List ℕ) (writes : Writes) → AreWithin room bytes writes → IsImage bytes writes (with_writes bytes writes)
image_whole room bytes [] within = refl
image_whole room bytes (write ∷ writes) within =
    (overwritten write.0 write.1 bytes, torn_laid write.0 (length write.1) write.1 bytes within.0 refl, image_whole room (overwritten write.0 write.1 bytes) writes within.2)

image_spoiled : (room : ℕ) (bytes : List ℕ) (writes : Writes) → AreWithin room bytes (spoiled writes) → IsImage bytes writes (with_writes bytes (spoiled writes))
image_spoiled room bytes [] within = refl
image_spoiled room bytes (write ∷ writes) within =
    let spoil = replicate (length write.1) 255 in
    (overwritten write.0 spoil bytes, torn_laid write.0 (length write.1) spoil bytes within.0 (length-replicate (length write.1) 255), image_spoiled room (overwritten write.0 spoil bytes) writes within.2)

-- so the result of a restart is an image
pub image_left : (room tear : ℕ) (bytes : List ℕ) (writes : Writes) → AreWithin room bytes writes → IsImage bytes writes (left_by tear bytes writes)
image_left room tear bytes writes within = by (tear == 0) (tear == 1)
  where
    by : (lost all : Bool) → IsImage bytes writes (if lost then bytes else if all then with_writes bytes writes else with_writes bytes (spoiled writes))
    by true all = image_lost bytes writes
    by false true = image_whole room bytes writes within
    by false false = image_spoiled room bytes writes (spoiled_within room bytes bytes writes refl within)

-- Moments

-- the same disk after this many of its calls
same_as_of : (old new : MemoryDisk) (moment : ℕ) (image : List ℕ) → new.start ≡ old.start → new.tear ≡ old.tear → take moment new.calls ≡ take moment old.calls → image_of (as_of moment new) image ≡ image_of (as_of moment old) image
same_as_of old new moment image start tear calls i =
    IsImage (contents_of (tear i) (start i) (calls i)).synced (contents_of (tear i) (start i) (calls i)).writes image

-- a call that isn't logged takes no time
pub elapses_same : (old new : MemoryDisk) → new.start ≡ old.start → new.tear ≡ old.tear → new.calls ≡ old.calls → Elapses (length old.calls) (length new.calls) (image_since old) (image_since new) (image_of new)
elapses_same old new start tear calls = record {
  later = omega (arith, ap length calls);
  nothing_else = λ t image le since. inl (since.0, since.1, omega (arith, since.2, ap length calls), subst (λ (X : Type 0). X) (same_as_of old new since.0 image start tear (ap (take since.0) calls)) since.3);
  keeps = λ t image le since. (since.0, since.1, omega (arith, since.2, ap length calls), subst (λ (X : Type 0). X) (sym (same_as_of old new since.0 image start tear (ap (take since.0) calls))) since.3);
}

-- a call that is logged adds a moment
pub elapses_push : (old new : MemoryDisk) (call : Call) → new.start ≡ old.start → new.tear ≡ old.tear → new.calls ≡ old.calls ++ call ∷ [] → Elapses (length old.calls) (length new.calls) (image_since old) (image_since new) (image_of new)
elapses_push old new call start tear calls = record {
  later = omega (arith, longer);
  nothing_else = λ t image le since. elim (cases_lt (length old.calls) since.0) [
    | inl past ↦ inr (subst (λ (X : Type 0). X) (as_of-all new since.0 image (omega (arith, longer))) since.3)
    | inr before ↦ inl (since.0, since.1, before, subst (λ (X : Type 0). X) (same_as_of old new since.0 image start tear (same since.0 before)) since.3)
  ];
  keeps = λ t image le since. (since.0, since.1, omega (arith, since.2, longer), subst (λ (X : Type 0). X) (sym (same_as_of old new since.0 image start tear (same since.0 since.2))) since.3);
}
  where
    longer : length new.calls ≡ length old.calls + 1
    longer = ap length calls ∙ length_push old.calls call

    same : (moment : ℕ) → moment ≤ length old.calls → take moment new.calls ≡ take moment old.calls
    same moment le = ap (take moment) calls ∙ take-append-le moment old.calls (call ∷ []) le
