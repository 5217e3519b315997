-- The images of states: the possible post-crash states of a disk.
use Rattle.std.proofs.Common.{◌≡◌, inl, ℕ, List, false, Option, Some, None, sym, subst}
use Rattle.band_store.specs.band_disk.Disks.{LeavesOnly, ReadsOnly}
use Rattle.band_store.proofs.band_disk.Moments.{started, weakened}
use Rattle.band_store.specs.Format.{Holds, Save}
use Rattle.band_store.specs.Store.{IsWithOrWithout, Store}
use Rattle.band_run.specs.declared.reply.Reply.{Reply}
use Rattle.band_run.specs.Bands.{Given, IsImageOf, BandState, closed}
use Rattle.band_run.specs.Steps.{Stands, Undone}

-- an image that contains the saves of a state
pub image_holds : (refusal : Option Reply) (first : List ℕ) (s : BandState) (image : List ℕ) → refusal ≡ None → Holds s.saves image → IsImageOf refusal first s image
image_holds None first s image fit holds = inl holds
image_holds (Some refusal) first s image fit holds = absurd cc

-- an image with a pending save or without it
pub image_torn : (refusal : Option Reply) (first : List ℕ) (s : BandState) (save : Save) (image : List ℕ) → refusal ≡ None → IsWithOrWithout s.saves save image → IsImageOf refusal first (record s { pending = Some save; opened = false }) image
image_torn None first s save image fit holds = holds
image_torn (Some refusal) first s save image fit holds = absurd cc

-- closing a store changes no image
pub image_closed : (refusal : Option Reply) (first : List ℕ) (s : BandState) (image : List ℕ) → IsImageOf refusal first s image → IsImageOf refusal first (closed s) image
image_closed None first s image h = h
image_closed (Some refusal) first s image h = h

module _ {D : Type 0} (bytes : D → List ℕ) (space : D → ℕ) (images : D → List ℕ → Type 0) (clock : D → ℕ) (images_since : D → ℕ → List ℕ → Type 0)
    (only_now : (disk : D) (image : List ℕ) → images_since disk (clock disk) image → images disk image)
    (given : Given) (first : List ℕ) (s : BandState) (store : Store) where
  -- a disk that wasn't touched
  pub leaves_still : (old new : D) → new ≡ old → Stands given first s store (bytes old) (space old) (images old) → LeavesOnly clock images_since old new (IsImageOf given.refusal first s)
  leaves_still old new same stands =
      subst (λ (d : D). LeavesOnly clock images_since old d (IsImageOf given.refusal first s)) (sym same)
      (started clock images_since old (IsImageOf given.refusal first s) (λ image left. stands.images_are image (only_now old image left)))

  pub stands_still : (store' : Store) (old new : D) → store' ≡ store → new ≡ old → Stands given first s store (bytes old) (space old) (images old) → Stands given first s store' (bytes new) (space new) (images new)
  stands_still store' old new kept same stands = subst (λ (t : Store). Stands given first s t (bytes new) (space new) (images new)) (sym kept) (subst (λ (d : D). Stands given first s store (bytes d) (space d) (images d)) (sym same) stands)

  pub undone_still : (old new : D) → new ≡ old → Stands given first s store (bytes old) (space old) (images old) → Undone images clock images_since given first s old new
  undone_still old new same stands = record {
    images_are = subst (λ (d : D). (image : List ℕ) → images d image → IsImageOf given.refusal first s image) (sym same) stands.images_are;
    leaves = leaves_still old new same stands;
  }

  -- a disk that was only read
  pub leaves_read : (old new : D) → ReadsOnly bytes space images clock images_since old new → Stands given first s store (bytes old) (space old) (images old) → LeavesOnly clock images_since old new (IsImageOf given.refusal first s)
  leaves_read old new reads stands = weakened clock images_since old new (images old) (IsImageOf given.refusal first s) stands.images_are reads.leaves
