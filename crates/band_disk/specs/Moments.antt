-- The images of a disk in memory since a moment.
use Rattle.std.specs.Prelude.{◌≡◌, ℕ, ◌≤◌, List, length}
use Rattle.std.proofs.Common.{sym, ap, subst, arith}
use Rattle.std.proofs.lemmas.List.{take_all}
use Rattle.band_disk.specs.Logs.{Call, MemoryDisk, as_of, contents_of, image_of, image_since, IsImage}

-- the disk after all of its calls is the disk
pub as_of-all : (disk : MemoryDisk) (count : ℕ) (image : List ℕ) → length disk.calls ≤ count → image_of (as_of count disk) image ≡ image_of disk image
as_of-all disk count image le =
    ap (λ (calls : List Call). IsImage (contents_of disk.tear disk.start calls).synced (contents_of disk.tear disk.start calls).writes image) (take_all count disk.calls le)

-- the present moment is one of those since an earlier moment
pub memory_counts_now : (disk : MemoryDisk) (t : ℕ) (image : List ℕ) → t ≤ length disk.calls → image_of disk image → image_since disk t image
memory_counts_now disk t image le now = (length disk.calls, le, omega arith, subst (λ (X : Type 0). X) (sym (as_of-all disk (length disk.calls) image (omega arith))) now)

-- since the present moment there is no other moment
pub memory_only_now : (disk : MemoryDisk) (image : List ℕ) → image_since disk (length disk.calls) image → image_of disk image
memory_only_now disk image since = subst (λ (X : Type 0). X) (as_of-all disk since.0 image since.1) since.3
