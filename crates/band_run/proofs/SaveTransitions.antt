-- A save, and the transition of the run.
use Rattle.std.proofs.Common.{◌≡◌, ◌≢◌, ◌⊎◌, inl, inr, ⊎_elim, ℕ, ◌+◌, ◌≤◌, List, [], ◌∷◌, ◌++◌, length, true, false, Bool, Option, Some, None, Result, Ok, Err, refl, sym, ◌∙◌, ap, subst, arith}
use Rattle.std.specs.Prelude.{nat_lt, if◌then◌else◌}
use Rattle.band_store.specs.band_disk.Disks.{LeavesOnly}
use Rattle.band_store.proofs.band_disk.Moments.{weakened}
use Rattle.band_store.specs.declared.faults.SaveFault.{SaveFault}
use Rattle.band_store.specs.declared.faults.SaveFault.TheVariants as S
use Rattle.band_store.specs.Format.{Holds, Save, gate_behind}
use Rattle.band_store.specs.Store.{IsReady, IsSaveAnswer, IsWithOrWithout, Store, checked}
use Rattle.band_store.specs.Store as store_specs
use Rattle.band_run.specs.declared.reading.command.BandCommand.TheVariants as C
use Rattle.band_run.specs.declared.reply.Reply.{Reply}
use Rattle.band_run.specs.declared.reply.Reply.TheVariants as R
use Rattle.band_run.specs.Bands.{Given, IsImageOf, Saves, BandState, room_for, save_refusal}
use Rattle.band_run.specs.Steps.{Done, Stands}
use Rattle.band_run.proofs.Images.{image_holds, image_torn}

-- the reply to a save that can't be written
abbrev refusal_of : Result ℕ SaveFault → Option Reply
refusal_of (Ok gate) = None
refusal_of (Err S.Closed) = Some R.Closed
refusal_of (Err (S.TooLarge size)) = Some (R.TooLarge size)
refusal_of (Err (S.Full end)) = Some (R.Full end)
refusal_of (Err S.Disk) = None
refusal_of (Err S.NoMemory) = None

abbrev checked_by : Bool → Bool → Bool → ℕ → ℕ → ℕ → Result ℕ SaveFault
checked_by opened large full size end gate = if opened then (if large then Err (S.TooLarge size) else if full then Err (S.Full end) else Ok gate) else Err S.Closed

abbrev refused_by : Bool → Bool → Bool → ℕ → ℕ → Option Reply
refused_by opened large full size end = if opened then (if large then Some (R.TooLarge size) else if full then Some (R.Full end) else None) else Some R.Closed

same_by : (opened large full : Bool) (size end gate : ℕ) → refusal_of (checked_by opened large full size end gate) ≡ refused_by opened large full size end
same_by true true full size end gate = refl
same_by true false true size end gate = refl
same_by true false false size end gate = refl
same_by false large full size end gate = refl

-- an open store refuses what the run refuses
open_end : (store : Store) (s : BandState) (save : Save) → store.gate ≡ gate_behind s.saves → store.gate + 7 + length save.name + length save.text ≡ room_for s.saves save
open_end store s save gate = omega (arith, gate)

same_refusal : (store : Store) (room : ℕ) (s : BandState) (save : Save) (opened : Bool) → store.opened ≡ opened → s.opened ≡ opened → (opened ≡ true → store.gate ≡ gate_behind s.saves) → refusal_of (checked store room save) ≡ save_refusal room s save
same_refusal store room s save true here there gate =
    let end = open_end store s save (gate refl) in
    ap (λ (o : Bool). refusal_of (checked_by o (nat_lt 1048576 (length save.text)) (nat_lt room (store.gate + 7 + length save.name + length save.text)) (length save.text) (store.gate + 7 + length save.name + length save.text) (store.gate + 6 + length save.name + length save.text))) here
    ∙ same_by true (nat_lt 1048576 (length save.text)) (nat_lt room (store.gate + 7 + length save.name + length save.text)) (length save.text) (store.gate + 7 + length save.name + length save.text) (store.gate + 6 + length save.name + length save.text)
    ∙ ap (λ (n : ℕ). refused_by true (nat_lt 1048576 (length save.text)) (nat_lt room n) (length save.text) n) end
    ∙ ap (λ (o : Bool). refused_by o (nat_lt 1048576 (length save.text)) (nat_lt room (room_for s.saves save)) (length save.text) (room_for s.saves save)) (sym there)
same_refusal store room s save false here there gate =
    ap (λ (o : Bool). refusal_of (checked_by o (nat_lt 1048576 (length save.text)) (nat_lt room (store.gate + 7 + length save.name + length save.text)) (length save.text) (store.gate + 7 + length save.name + length save.text) (store.gate + 6 + length save.name + length save.text))) here
    ∙ ap (λ (o : Bool). refused_by o (nat_lt 1048576 (length save.text)) (nat_lt room (room_for s.saves save)) (length save.text) (room_for s.saves save)) (sym there)

-- the transitions, by the result of the checks
saves_ok : (c : Result ℕ SaveFault) (s : BandState) (save : Save) → IsSaveAnswer c (Ok tt) → Saves (refusal_of c) s save (R.Saved save.name) (record s { saves = s.saves ++ save ∷ [] })
saves_ok (Ok gate) s save a = inl (refl, refl)
saves_ok (Err fault) s save a = absurd (cc (a))

saves_fault : (c : Result ℕ SaveFault) (s : BandState) (save : Save) → IsSaveAnswer c (Err S.Disk) → Saves (refusal_of c) s save R.Fault (record s { pending = Some save; opened = false })
saves_fault (Ok gate) s save a = inr (refl, refl)
saves_fault (Err fault) s save a = let same : fault ≡ S.Disk = cc in subst (λ f. Saves (refusal_of (Err f)) s save R.Fault (record s { pending = Some save; opened = false })) (sym same) (inr (refl, refl))

-- a store that isn't open answers `closed`
open_when : (store : Store) (room : ℕ) (save : Save) (opened : Bool) → store.opened ≡ opened → (result : Result (Unit {0}) SaveFault) → result ≢ Err S.Closed → IsSaveAnswer (checked store room save) result → store.opened ≡ true
open_when store room save true is result other a = is
open_when store room save false is result other a = absurd (other (subst (λ (o : Bool). IsSaveAnswer (checked_by o (nat_lt 1048576 (length save.text)) (nat_lt room (store.gate + 7 + length save.name + length save.text)) (length save.text) (store.gate + 7 + length save.name + length save.text) (store.gate + 6 + length save.name + length save.text)) result) is a))

module _ {D : Type 0} (bytes : D → List ℕ) (space : D → ℕ) (images : D → List ℕ → Type 0) (clock : D → ℕ) (images_since : D → ℕ → List ℕ → Type 0)
    (only_now : (disk : D) (image : List ℕ) → images_since disk (clock disk) image → images disk image)
    (given : Given) (first : List ℕ) (s : BandState) (store store' : Store) (old new : D) (save : Save) (stands : Stands given first s store (bytes old) (space old) (images old)) where
  refusal_is : refusal_of (checked store (space old) save) ≡ save_refusal given.room s save
  refusal_is =
      same_refusal store (space old) s save s.opened stands.opened refl (λ is. (stands.ready is).here.next)
      ∙ ap (λ n. save_refusal n s save) stands.room_is

  step_is : (reply : Reply) (state : BandState) → Saves (refusal_of (checked store (space old) save)) s save reply state → Saves (save_refusal given.room s save) s save reply state
  step_is reply state saves = subst (λ r. Saves r s save reply state) refusal_is saves

  open_here : (result : Result (Unit {0}) SaveFault) → result ≢ Err S.Closed → IsSaveAnswer (checked store (space old) save) result → s.opened ≡ true
  open_here result other a = sym stands.opened ∙ open_when store (space old) save store.opened refl result other a

  -- a crash at any moment of a save results in an image of the state before it or after it
  pub save_done : space new ≡ space old → IsSaveAnswer (checked store (space old) save) (Ok tt) → ((saves : List Save) → IsReady store (bytes old) (images old) saves → IsReady store' (bytes new) (images new) (saves ++ save ∷ []))
      → ((saves : List Save) → IsReady store (bytes old) (images old) saves → LeavesOnly clock images_since old new (IsWithOrWithout saves save)) → Done bytes space images clock images_since given first s (C.Save save.name save.text) (R.Saved save.name) store' old new
  save_done space_is a saved moments =
      let is_open = open_here (Ok tt) (λ e. cc (e)) a in
      let fit = stands.fit is_open in
      let ready = saved s.saves (stands.ready is_open) in
      let state : BandState = record s { saves = s.saves ++ save ∷ [] } in
      record {
        state = state;
        step = step_is (R.Saved save.name) state (saves_ok _ s save a);
        stands = record {
          opened = ready.here.opened ∙ sym is_open;
          ready = λ _. ready;
          fit = λ _. fit;
          unfit = stands.unfit;
          room_is = space_is ∙ stands.room_is;
          images_are = λ image now. image_holds given.refusal first state image fit (subst (Holds state.saves) (sym (ready.durable image now)) ready.here.holds);
        };
        leaves = weakened clock images_since old new (IsWithOrWithout s.saves save) (λ image. IsImageOf given.refusal first s image ⊎ IsImageOf given.refusal first state image)
            (λ image h. ⊎_elim (λ without. inl (image_holds given.refusal first s image fit without)) (λ with_it. inr (image_holds given.refusal first state image fit with_it)) h) (moments s.saves (stands.ready is_open));
      }

  pub save_fault : (counts_now : (disk : D) (t : ℕ) (image : List ℕ) → t ≤ clock disk → images disk image → images_since disk t image) → space new ≡ space old → IsSaveAnswer (checked store (space old) save) (Err S.Disk) → store' ≡ store_specs.closed
      → ((saves : List Save) → IsReady store (bytes old) (images old) saves → LeavesOnly clock images_since old new (IsWithOrWithout saves save)) → Done bytes space images clock images_since given first s (C.Save save.name save.text) R.Fault store' old new
  save_fault counts_now space_is a shut moments =
      let is_open = open_here (Err S.Disk) (λ e. cc (e)) a in
      let fit = stands.fit is_open in
      let leaves = moments s.saves (stands.ready is_open) in
      let state : BandState = record s { pending = Some save; opened = false } in
      record {
        state = state;
        step = step_is R.Fault state (saves_fault _ s save a);
        stands = record {
          opened = ap (λ t. t.opened) shut;
          ready = λ is. absurd cc;
          fit = λ _. fit;
          unfit = stands.unfit;
          room_is = space_is ∙ stands.room_is;
          images_are = λ image now. image_torn given.refusal first s save image fit (leaves.each image (counts_now new (clock old) image leaves.later now));
        };
        leaves = weakened clock images_since old new (IsWithOrWithout s.saves save) (λ image. IsImageOf given.refusal first s image ⊎ IsImageOf given.refusal first state image) (λ image h. inr (image_torn given.refusal first s save image fit h)) leaves;
      }
