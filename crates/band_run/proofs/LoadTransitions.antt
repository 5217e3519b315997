-- A load and a list, and the transitions of the run.
use Rattle.std.proofs.Common.{◌≡◌, ◌⊎◌, inl, inr, ℕ, List, true, false, Bool, Result, Ok, Err, refl, sym, ◌∙◌, ap, arith}
use Rattle.std.specs.Prelude.{if◌then◌else◌, IfOk, OnErr}
use Rattle.lisp_graph.specs.store_word.declared.faults.NoMemory.{NoMemory}
use Rattle.band_store.specs.band_disk.Disks.{ReadsOnly}
use Rattle.band_store.proofs.band_disk.Moments.{weakened}
use Rattle.band_store.specs.Directory.{directory, listing}
use Rattle.band_store.specs.Format.{Save}
use Rattle.band_store.specs.Store.{IsOpenOn, IsReady, Store}
use Rattle.band_store.specs.Store as store_specs
use Rattle.band_run.specs.declared.reading.command.BandCommand.TheVariants as C
use Rattle.band_run.specs.declared.reply.Reply.{Reply}
use Rattle.band_run.specs.declared.reply.Reply.TheVariants as R
use Rattle.band_run.specs.Bands.{Given, IsImageOf, BandState, closed, list_reply}
use Rattle.band_run.specs.Replies.{is_fault, list_text}
use Rattle.band_run.specs.Steps.{Asks, Did, Done, Stands, Tells}
use Rattle.band_run.proofs.Images.{image_closed, leaves_read, leaves_still, stands_still, undone_still}

abbrev list_by : Bool → List ℕ → Reply
list_by opened lines = if opened then R.Listed lines else R.Closed

module _ {D : Type 0} (bytes : D → List ℕ) (space : D → ℕ) (images : D → List ℕ → Type 0) (clock : D → ℕ) (images_since : D → ℕ → List ℕ → Type 0)
    (only_now : (disk : D) (image : List ℕ) → images_since disk (clock disk) image → images disk image)
    (given : Given) (first : List ℕ) (s : BandState) (store store' : Store) (old new : D) (stands : Stands given first s store (bytes old) (space old) (images old)) where
  module _ (name : List ℕ) (reads : ReadsOnly bytes space images clock images_since old new) where
    pub load_fault : store' ≡ store_specs.closed → store.opened ≡ true → Done bytes space images clock images_since given first s (C.Load name) R.Fault store' old new
    load_fault shut is = record {
      state = closed s;
      step = inr (sym stands.opened ∙ is, refl, refl);
      stands = record {
        opened = ap (λ t. t.opened) shut;
        ready = λ e. absurd cc;
        fit = λ e. absurd cc;
        unfit = stands.unfit;
        room_is = reads.space_stays ∙ stands.room_is;
        images_are = λ image now. image_closed given.refusal first s image (stands.images_are image (reads.fewer image now));
      };
      leaves = weakened clock images_since old new (IsImageOf given.refusal first s) (λ image. IsImageOf given.refusal first s image ⊎ IsImageOf given.refusal first (closed s) image) (λ image p. inl p)
          (leaves_read bytes space images clock images_since only_now given first s store old new reads stands);
    }

  -- what is listed
  pub list_done : (reply : Reply) → store' ≡ store → new ≡ old → (store.opened ≡ false → reply ≡ R.Closed) → ((held : List ℕ) (saves : List Save) → IsOpenOn store held saves → reply ≡ R.Listed (list_text (listing (directory saves))))
      → Done bytes space images clock images_since given first s C.List reply store' old new
  list_done reply kept same shut listed = record {
    state = s;
    step = (is s.opened refl, refl);
    stands = stands_still bytes space images clock images_since only_now given first s store store' old new kept same stands;
    leaves = weakened clock images_since old new (IsImageOf given.refusal first s) (λ image. IsImageOf given.refusal first s image ⊎ IsImageOf given.refusal first s image) (λ image p. inl p)
        (leaves_still bytes space images clock images_since only_now given first s store old new same stands);
  }
    where
      is : (opened : Bool) → s.opened ≡ opened → reply ≡ list_reply s
      is true here = listed (bytes old) s.saves (stands.ready here).here ∙ ap (λ (o : Bool). list_by o (list_text (listing (directory s.saves)))) (sym here)
      is false here = shut (stands.opened ∙ here) ∙ ap (λ (o : Bool). list_by o (list_text (listing (directory s.saves)))) (sym here)

-- a list, by its result
pub did_list : {D : Type 0} (bytes : D → List ℕ) (space : D → ℕ) (images : D → List ℕ → Type 0) (clock : D → ℕ) (images_since : D → ℕ → List ℕ → Type 0)
    (only_now : (disk : D) (image : List ℕ) → images_since disk (clock disk) image → images disk image) (store : Store) (disk : D) (result : Result Reply NoMemory)
    → IfOk result (λ reply. store.opened ≡ false → reply ≡ R.Closed) → IfOk result (λ reply. (held : List ℕ) (saves : List Save) → IsOpenOn store held saves → reply ≡ R.Listed (list_text (listing (directory saves))))
    → Did bytes space images clock images_since C.List store store disk disk result
did_list bytes space images clock images_since only_now store disk (Ok reply) shut listed = λ given first s stands. list_done bytes space images clock images_since only_now given first s store store disk disk stands reply refl refl shut listed
did_list bytes space images clock images_since only_now store disk (Err _) shut listed = λ given first s stands. undone_still bytes space images clock images_since only_now given first s store disk disk refl stands

-- if the disk isn't used, a reply that isn't `fault` agrees with an unchanged count
pub calm_tells : (result : Result Reply NoMemory) (faults : ℕ) → IfOk result (λ reply. is_fault reply ≡ false) → IfOk result (λ reply. Tells reply faults faults)
calm_tells (Ok reply) faults calm = record { cause = λ is. absurd (let same : false ≡ true = sym calm ∙ is in cc); quiet = λ _. refl }
calm_tells (Err _) faults calm = tt

pub asks_nothing : (result : Result Reply NoMemory) (changes : ℕ) → IfOk result (λ reply. Asks reply changes changes)
asks_nothing (Ok reply) changes = omega arith
asks_nothing (Err _) changes = tt

pub stays_on_err : (result : Result Reply NoMemory) (faults : ℕ) → OnErr result (faults ≡ faults)
stays_on_err (Ok _) faults = tt
stays_on_err (Err _) faults = refl
