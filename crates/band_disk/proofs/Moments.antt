-- How a sequence of calls of a disk goes on.
use Rattle.std.proofs.Common.{◌≡◌, refl, ◌∙◌, inl, inr, ⊎_elim, ℕ, List, arith}
use Rattle.band_disk.specs.Disks.{Elapses, LeavesOnly, ReadsOnly}

module _ {D : Type 0} (clock : D → ℕ) (images_since : D → ℕ → List ℕ → Type 0) where
  -- before the first call
  pub started : (old : D) (P : List ℕ → Type 0) → ((image : List ℕ) → images_since old (clock old) image → P image) → LeavesOnly clock images_since old old P
  started old P here = record { later = omega arith; each = here; before = λ t image le left. inl left }

  -- one more call, after which each image has P
  pub goes_on : (old mid new : D) (P images : List ℕ → Type 0) → LeavesOnly clock images_since old mid P → Elapses (clock mid) (clock new) (images_since mid) (images_since new) images
      → ((image : List ℕ) → images image → P image) → LeavesOnly clock images_since old new P
  goes_on old mid new P images so_far time here = record {
    later = omega (arith, so_far.later, time.later);
    each = λ image left. ⊎_elim (so_far.each image) (here image) (time.nothing_else (clock old) image so_far.later left);
    before = λ t image le left. ⊎_elim (so_far.before t image le) (λ now. inr (here image now)) (time.nothing_else t image (omega (arith, le, so_far.later)) left);
  }

  -- what has P has Q too
  pub weakened : (old new : D) (P Q : List ℕ → Type 0) → ((image : List ℕ) → P image → Q image) → LeavesOnly clock images_since old new P → LeavesOnly clock images_since old new Q
  weakened old new P Q implies leaves = record {
    later = leaves.later;
    each = λ image left. implies image (leaves.each image left);
    before = λ t image le left. ⊎_elim (λ had. inl had) (λ p. inr (implies image p)) (leaves.before t image le left);
  }

  -- two sequences of calls, one after the other
  pub joined : (old mid new : D) (P : List ℕ → Type 0) → LeavesOnly clock images_since old mid P → LeavesOnly clock images_since mid new P → LeavesOnly clock images_since old new P
  joined old mid new P first second = record {
    later = omega (arith, first.later, second.later);
    each = λ image left. ⊎_elim (first.each image) (λ p. p) (second.before (clock old) image first.later left);
    before = λ t image le left. ⊎_elim (first.before t image le) (λ p. inr p) (second.before t image (omega (arith, le, first.later)) left);
  }

module _ {D : Type 0} (bytes : D → List ℕ) (space : D → ℕ) (images : D → List ℕ → Type 0) (clock : D → ℕ) (images_since : D → ℕ → List ℕ → Type 0) where
  -- before the first read
  pub reads_none : (old : D) → ((image : List ℕ) → images_since old (clock old) image → images old image) → ReadsOnly bytes space images clock images_since old old
  reads_none old only_now = record { bytes_stay = refl; space_stays = refl; fewer = λ image now. now; leaves = started clock images_since old (images old) only_now }

  -- one more read
  pub reads_more : (old mid new : D) → ReadsOnly bytes space images clock images_since old mid → bytes new ≡ bytes mid → space new ≡ space mid → ((image : List ℕ) → images new image → images mid image)
      → Elapses (clock mid) (clock new) (images_since mid) (images_since new) (images new) → ReadsOnly bytes space images clock images_since old new
  reads_more old mid new so_far stay space_stays fewer time = record {
    bytes_stay = stay ∙ so_far.bytes_stay;
    space_stays = space_stays ∙ so_far.space_stays;
    fewer = λ image now. so_far.fewer image (fewer image now);
    leaves = goes_on clock images_since old mid new (images old) (images new) so_far.leaves time (λ image now. so_far.fewer image (fewer image now));
  }

  -- two sequences of reads, one after the other
  pub reads_joined : (old mid new : D) → ReadsOnly bytes space images clock images_since old mid → ReadsOnly bytes space images clock images_since mid new → ReadsOnly bytes space images clock images_since old new
  reads_joined old mid new first second = record {
    bytes_stay = second.bytes_stay ∙ first.bytes_stay;
    space_stays = second.space_stays ∙ first.space_stays;
    fewer = λ image now. first.fewer image (second.fewer image now);
    leaves = joined clock images_since old mid new (images old) first.leaves (weakened clock images_since mid new (images mid) (images old) first.fewer second.leaves);
  }
