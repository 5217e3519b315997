-- The effect of a disk's calls on its bytes, and which post-crash states (images) they leave possible.
use Rattle.std.specs.Prelude.{◌≡◌, ◌⊎◌, ℕ, ◌+◌, ◌-◌, ◌^◌, ◌≤◌, max, min, List, ◌++◌, length, take, drop}

-- the bytes from this position on overwritten with this piece
abbrev pub overwritten : ℕ → List ℕ → List ℕ → List ℕ
overwritten at piece bytes = take at bytes ++ (piece ++ drop (at + length piece) bytes)

-- an image before and after a write of n bytes that a crash may tear: any bytes in the range and past the old end, the same elsewhere
pub record Torn (at n : ℕ) (old new : List ℕ) : Type 0 where
  pub before : take at new ≡ take at old
  pub after : drop (at + n) new ≡ drop (at + n) old
  pub no_shorter : length old ≤ length new
  pub no_longer : length new ≤ max (length old) (at + n)

-- each image that is possible now results by this relation from one that was possible before
abbrev pub Follows : (List ℕ → List ℕ → Type 0) → (List ℕ → Type 0) → (List ℕ → Type 0) → Type 0
Follows step old new = (image : List ℕ) → new image → (was : List ℕ) × old was × step was image

-- the only possible image is these bytes
abbrev pub Only : List ℕ → (List ℕ → Type 0) → Type 0
Only bytes images = (image : List ℕ) → images image → image ≡ bytes

-- a 64-bit count, n higher or saturated
abbrev pub with_more : ℕ → ℕ → ℕ
with_more n count = min (count + n) (2 ^ 64 - 1)

-- Time goes on: a crash since t can have the results that it could have before, or those that it can have now.
pub record Elapses (before now : ℕ) (past since : ℕ → List ℕ → Type 0) (images : List ℕ → Type 0) : Type 0 where
  pub later : before ≤ now
  pub nothing_else : (t : ℕ) (image : List ℕ) → t ≤ before → since t image → past t image ⊎ images image
  pub keeps : (t : ℕ) (image : List ℕ) → t ≤ before → past t image → since t image

-- Each image of a crash at any moment since `old` has P. (Six parameters: a type of disks with the two things shown of a disk on which this depends, the disk before and after, and what each image has.)
pub record LeavesOnly {D : Type 0} (clock : D → ℕ) (images_since : D → ℕ → List ℕ → Type 0) (old new : D) (P : List ℕ → Type 0) : Type 0 where
  pub later : clock old ≤ clock new
  pub each : (image : List ℕ) → images_since new (clock old) image → P image
  -- and so for moments since an earlier one
  pub before : (t : ℕ) (image : List ℕ) → t ≤ clock old → images_since new t image → images_since old t image ⊎ P image

-- Calls that only read: the bytes and the room are unchanged, and during them no image is possible that wasn't possible before. (Eight parameters: a type of disks with the five things shown of a disk on which this depends, and the disk before and after.)
pub record ReadsOnly {D : Type 0} (bytes : D → List ℕ) (space : D → ℕ) (images : D → List ℕ → Type 0) (clock : D → ℕ) (images_since : D → ℕ → List ℕ → Type 0) (old new : D) : Type 0 where
  pub bytes_stay : bytes new ≡ bytes old
  pub space_stays : space new ≡ space old
  pub fewer : (image : List ℕ) → images new image → images old image
  pub leaves : LeavesOnly clock images_since old new (images old)
