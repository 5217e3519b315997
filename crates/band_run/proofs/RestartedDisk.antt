-- A disk that was restarted, and the store that was opened on it.
use Rattle.std.proofs.Common.{◌≡◌, ◌⊎◌, inl, inr, ℕ, List, length, Option, Some, None, Result, Ok, Err, refl, sym, ◌∙◌, ap, subst}
use Rattle.std.specs.Prelude.{IfSome}
use Rattle.band_store.specs.band_disk.Disks.{Elapses, LeavesOnly, Only, ReadsOnly}
use Rattle.band_store.proofs.band_disk.Moments.{goes_on, joined, started, weakened}
use Rattle.band_store.specs.declared.faults.OpenFault.{OpenFault}
use Rattle.band_store.specs.declared.faults.OpenFault.TheVariants as O
use Rattle.band_store.specs.Directory.{directory}
use Rattle.band_store.specs.Format.{Holds, IsDamaged, IsNoStore, Save}
use Rattle.band_store.specs.Store.{IsOpenAnswer, IsReady, Store}
use Rattle.band_store.specs.Store as store_specs
use Rattle.band_run.specs.declared.reading.command.BandCommand.TheVariants as C
use Rattle.band_run.specs.declared.reply.Reply.{Reply}
use Rattle.band_run.specs.declared.reply.Reply.TheVariants as R
use Rattle.band_run.specs.Bands.{Given, IsImageOf, IsUnfit, Opens, BandState, closed, opened_on, with_pending}
use Rattle.band_run.specs.Steps.{Done, Stands}
use Rattle.band_run.proofs.Images.{image_closed, image_holds}

-- the answer is the one that is wanted
answered : (wanted count : ℕ) → IsOpenAnswer (Ok wanted) (Ok count) → count ≡ wanted
answered wanted count (inl e) = cc
answered wanted count (inr (inl e)) = absurd (cc (e))
answered wanted count (inr (inr e)) = absurd (cc (e))

refused : (fault : OpenFault) (count : ℕ) → IsOpenAnswer (Err fault) (Ok count) → ⊥
refused fault count (inl e) = cc (e)
refused fault count (inr (inl e)) = cc (e)
refused fault count (inr (inr e)) = cc (e)

fit_store : (wanted : ℕ) → IsOpenAnswer (Ok wanted) (Err O.NotAStore) → ⊥
fit_store wanted (inl e) = cc (e)
fit_store wanted (inr (inl e)) = cc (e)
fit_store wanted (inr (inr e)) = cc (e)

fit_damaged : (wanted at : ℕ) → IsOpenAnswer (Ok wanted) (Err (O.Damaged at)) → ⊥
fit_damaged wanted at (inl e) = cc (e)
fit_damaged wanted at (inr (inl e)) = cc (e)
fit_damaged wanted at (inr (inr e)) = cc (e)

no_damage : (at : ℕ) → IsOpenAnswer (Err O.NotAStore) (Err (O.Damaged at)) → ⊥
no_damage at (inl e) = cc (e)
no_damage at (inr (inl e)) = cc (e)
no_damage at (inr (inr e)) = cc (e)

is_store : (at : ℕ) → IsOpenAnswer (Err (O.Damaged at)) (Err O.NotAStore) → ⊥
is_store at (inl e) = cc (e)
is_store at (inr (inl e)) = cc (e)
is_store at (inr (inr e)) = cc (e)

same_place : (wanted at : ℕ) → IsOpenAnswer (Err (O.Damaged wanted)) (Err (O.Damaged at)) → at ≡ wanted
same_place wanted at (inl e) = cc
same_place wanted at (inr (inl e)) = absurd (cc (e))
same_place wanted at (inr (inr e)) = absurd (cc (e))

-- what `open` answers for these bytes
pub record Answers (bytes : List ℕ) (result : Result ℕ OpenFault) : Type 0 where
  pub holds : (saves : List Save) → Holds saves bytes → IsOpenAnswer (Ok (length (directory saves))) result
  pub not_a_store : IsNoStore bytes → IsOpenAnswer (Err O.NotAStore) result
  pub damaged : (at : ℕ) → IsDamaged at bytes → IsOpenAnswer (Err (O.Damaged at)) result

-- the saves with which a store was opened
pub record OpenedWith (refusal : Option Reply) (s : BandState) (bytes : List ℕ) (count : ℕ) : Type 0 where
  pub saves : List Save
  pub holds : Holds saves bytes
  pub opens : Opens refusal s (R.Opened count) (opened_on saves)
  pub fit : refusal ≡ None

module _ (first bytes : List ℕ) (s : BandState) where
  opened_with : (refusal : Option Reply) (count : ℕ) → IfSome refusal (IsUnfit first) → IsImageOf refusal first s bytes → Answers bytes (Ok count) → OpenedWith refusal s bytes count
  opened_with None count unfit (inl h) a = record { saves = s.saves; holds = h; opens = (inl refl, answered _ count (a.holds s.saves h)); fit = refl }
  opened_with None count unfit (inr h) a = record { saves = with_pending s.saves s.pending; holds = h; opens = (inr refl, answered _ count (a.holds (with_pending s.saves s.pending) h)); fit = refl }
  opened_with (Some R.NotAStore) count unfit here a = absurd (refused _ count (a.not_a_store (subst IsNoStore (sym here) unfit)))
  opened_with (Some (R.Damaged at)) count unfit here a = absurd (refused _ count (a.damaged at (subst (IsDamaged at) (sym here) unfit)))
  opened_with (Some _) count unfit here a = absurd unfit

  opens_none : (refusal : Option Reply) → IfSome refusal (IsUnfit first) → IsImageOf refusal first s bytes → Answers bytes (Err O.NotAStore) → Opens refusal s R.NotAStore (closed s)
  opens_none None unfit (inl h) a = absurd (fit_store _ (a.holds s.saves h))
  opens_none None unfit (inr h) a = absurd (fit_store _ (a.holds (with_pending s.saves s.pending) h))
  opens_none (Some R.NotAStore) unfit here a = (inl refl, refl)
  opens_none (Some (R.Damaged at)) unfit here a = absurd (is_store at (a.damaged at (subst (IsDamaged at) (sym here) unfit)))
  opens_none (Some _) unfit here a = absurd unfit

  opens_damaged : (refusal : Option Reply) (at : ℕ) → IfSome refusal (IsUnfit first) → IsImageOf refusal first s bytes → Answers bytes (Err (O.Damaged at)) → Opens refusal s (R.Damaged at) (closed s)
  opens_damaged None at unfit (inl h) a = absurd (fit_damaged _ at (a.holds s.saves h))
  opens_damaged None at unfit (inr h) a = absurd (fit_damaged _ at (a.holds (with_pending s.saves s.pending) h))
  opens_damaged (Some R.NotAStore) at unfit here a = absurd (no_damage at (a.not_a_store (subst IsNoStore (sym here) unfit)))
  opens_damaged (Some (R.Damaged place)) at unfit here a = (inl (ap R.Damaged (same_place place at (a.damaged place (subst (IsDamaged place) (sym here) unfit)))), refl)
  opens_damaged (Some _) at unfit here a = absurd unfit

opens_fault : (refusal : Option Reply) (s : BandState) → Opens refusal s R.Fault (closed s)
opens_fault None s = refl
opens_fault (Some refusal) s = (inr refl, refl)

module _ {D : Type 0} (bytes : D → List ℕ) (space : D → ℕ) (images : D → List ℕ → Type 0) (clock : D → ℕ) (images_since : D → ℕ → List ℕ → Type 0)
    (only_now : (disk : D) (image : List ℕ) → images_since disk (clock disk) image → images disk image)
    (old mid new : D) (image_is : images old (bytes mid)) (durable : Only (bytes mid) (images mid)) (space_is : space mid ≡ space old)
    (time : Elapses (clock old) (clock mid) (images_since old) (images_since mid) (images mid)) (reads : ReadsOnly bytes space images clock images_since mid new)
    (given : Given) (first : List ℕ) (s : BandState) (store : Store) (stands : Stands given first s store (bytes old) (space old) (images old)) where
  here : IsImageOf given.refusal first s (bytes mid)
  here = stands.images_are (bytes mid) image_is

  image_here : (image : List ℕ) → images mid image → IsImageOf given.refusal first s image
  image_here image now = subst (IsImageOf given.refusal first s) (sym (durable image now)) here

  restarted : LeavesOnly clock images_since old new (IsImageOf given.refusal first s)
  restarted =
      joined clock images_since old mid new (IsImageOf given.refusal first s)
      (goes_on clock images_since old old mid (IsImageOf given.refusal first s) (images mid) (started clock images_since old (IsImageOf given.refusal first s) (λ image left. stands.images_are image (only_now old image left))) time image_here)
      (weakened clock images_since mid new (images mid) (IsImageOf given.refusal first s) image_here reads.leaves)

  -- the store wasn't opened
  done_closed : (reply : Reply) (store' : Store) → store' ≡ store_specs.closed → Opens given.refusal s reply (closed s) → Done bytes space images clock images_since given first s C.Open reply store' old new
  done_closed reply store' shut opens = record {
    state = closed s;
    step = opens;
    stands = record {
      opened = ap (λ t. t.opened) shut;
      ready = λ is. absurd cc;
      fit = λ is. absurd cc;
      unfit = stands.unfit;
      room_is = reads.space_stays ∙ space_is ∙ stands.room_is;
      images_are = λ image now. image_closed given.refusal first s image (image_here image (reads.fewer image now));
    };
    leaves = weakened clock images_since old new (IsImageOf given.refusal first s) (λ image. IsImageOf given.refusal first s image ⊎ IsImageOf given.refusal first (closed s) image) (λ image p. inl p) restarted;
  }

  pub open_none : (store' : Store) → store' ≡ store_specs.closed → Answers (bytes mid) (Err O.NotAStore) → Done bytes space images clock images_since given first s C.Open R.NotAStore store' old new
  open_none store' shut a = done_closed R.NotAStore store' shut (opens_none first (bytes mid) s given.refusal stands.unfit here a)

  pub open_damaged : (at : ℕ) (store' : Store) → store' ≡ store_specs.closed → Answers (bytes mid) (Err (O.Damaged at)) → Done bytes space images clock images_since given first s C.Open (R.Damaged at) store' old new
  open_damaged at store' shut a = done_closed (R.Damaged at) store' shut (opens_damaged first (bytes mid) s given.refusal at stands.unfit here a)

  pub open_fault : (store' : Store) → store' ≡ store_specs.closed → Done bytes space images clock images_since given first s C.Open R.Fault store' old new
  open_fault store' shut = done_closed R.Fault store' shut (opens_fault given.refusal s)

  pub open_done : (count : ℕ) (store' : Store) → ((saves : List Save) → Holds saves (bytes mid) → IsReady store' (bytes new) (images new) saves) → Answers (bytes mid) (Ok count) → Done bytes space images clock images_since given first s C.Open (R.Opened count) store' old new
  open_done count store' ready a =
      let o = opened_with first (bytes mid) s given.refusal count stands.unfit here a in
      let r = ready o.saves o.holds in
      record {
        state = opened_on o.saves;
        step = o.opens;
        stands = record {
          opened = r.here.opened;
          ready = λ _. r;
          fit = λ _. o.fit;
          unfit = stands.unfit;
          room_is = reads.space_stays ∙ space_is ∙ stands.room_is;
          images_are = λ image now. image_holds given.refusal first (opened_on o.saves) image o.fit (subst (Holds o.saves) (sym (r.durable image now)) r.here.holds);
        };
        leaves = weakened clock images_since old new (IsImageOf given.refusal first s) (λ image. IsImageOf given.refusal first s image ⊎ IsImageOf given.refusal first (opened_on o.saves) image) (λ image p. inl p) restarted;
      }
