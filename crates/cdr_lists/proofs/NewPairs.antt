-- A pair is placed, written and committed.
use Rattle.std.proofs.Common.{◌≡◌, ℕ, suc, ◌+◌, ◌-◌, ◌*◌, ◌/◌, ◌<◌, ◌≤◌, ◌⊎◌, refl, sym, ap, subst, arith, inl, inr, slice_get, List, Option, Some, ◌∙◌}
use Rattle.std.proofs.lemmas.Bool.{cases_eq}
use Rattle.store_word.specs.Words.{Parts}
use Rattle.mem_port.specs.Store as Memory
use Rattle.area_space.specs.Table.{Table, areas_of, levels_of, page_list, quota_of, slot_of}
use Rattle.area_space.specs.Room.{words_of_area}
use Rattle.area_space.specs.Places.{IsEnd}
use Rattle.area_space.specs.Charges.{AllowsOrigin, committed}
use Rattle.area_space.specs.declared.classes.Origin.TheVariants.{New}
use Rattle.area_space.specs.Sound.{IsTable}
use Rattle.transporter.specs.lisp_meaning.Roles.{AsCons, names_as, value_of}
use Rattle.transporter.specs.lisp_ground.Placing.{Opens}
use Rattle.transporter.specs.lisp_ground.Writes.{WritesWithin}
use Rattle.transporter.proofs.lisp_ground.sums.Accounts.{areas_agree, levels_agree}
use Rattle.transporter.proofs.lisp_ground.words.PlaceRoom.{new_room}
use Rattle.transporter.proofs.lisp_ground.words.Places.{new_allowed}
use Rattle.transporter.proofs.lisp_ground.invariant.NewObjects.{pair_made_on}
use Rattle.area_space.specs.PageList.{Adds}
use Rattle.transporter.specs.lisp_meaning.Fits.{PairCode}
use Rattle.obj_layout.specs.Forwards.{word_at}
use Rattle.transporter.specs.LiveWordsUnchanged.{LiveWordsUnchanged, OnlyGrows}
use Rattle.transporter.specs.Preserving.{FreshOn}
use Rattle.transporter.proofs.ScannedWords.{fresh-grown}
use Rattle.transporter.proofs.LiveObjects.{live-then}
use Rattle.transporter.proofs.UsedEnds.{committed-extends}
use Rattle.cdr_lists.proofs.NewWords.{laid_live}
use Rattle.transporter.specs.Making.{PlacesNew}
use Rattle.cdr_lists.specs.Pairs.{CanPair, PairedOn, first_word, second_code, second_word}
use Rattle.transporter.specs.Marking.{MarksFollow}
use Rattle.transporter.specs.Writes.{Writes}
use Rattle.transporter.proofs.PageMarks.{marks-placed, marks-then}
use Rattle.cdr_lists.proofs.NewPlaces.{placed_on, end_there, old_placed, opened_live, opened_or_same, opened_marks}

-- a pair's charge has its two words
pair_charge : (charge : ℕ) → (charge ≡ 2) ⊎ (charge ≡ 3) → 2 ≤ charge
pair_charge charge (inl two) = omega arith
pair_charge charge (inr three) = omega arith

-- and gives the code of the second
pair_code : (charge : ℕ) → (charge ≡ 2) ⊎ (charge ≡ 3) → PairCode charge (second_code charge)
pair_code charge (inl two) = inl (two, ap second_code two)
pair_code charge (inr three) = inr (three, ap second_code three)

-- the words of a pair are fresh if those are that it was made of
pub pair_fresh : (t t2 : Table) (ws : List Parts) (at charge : ℕ) (car cdr : Parts) → OnlyGrows t t2 → word_at ws at ≡ first_word car → word_at ws (at + 1) ≡ second_word charge cdr → FreshOn t car.content → FreshOn t cdr.content
    → (i : ℕ) → i < 2 → FreshOn t2 (word_at ws (at + i)).content
pair_fresh t t2 ws at charge car cdr grows first second car_fresh cdr_fresh i low = elim (cases_eq i 0) [
  | inl e ↦
      let place : at + i ≡ at = omega arith in
      subst (FreshOn t2) (sym (ap (λ (a : ℕ). (word_at ws a).content) place ∙ ap (λ (p : Parts). p.content) first)) (fresh-grown car.content grows car_fresh)
  | inr ne ↦
      let place : at + i ≡ at + 1 = omega arith in
      subst (FreshOn t2) (sym (ap (λ (a : ℕ). (word_at ws a).content) place ∙ ap (λ (p : Parts). p.content) second)) (fresh-grown cdr.content grows cdr_fresh)
]

module _ (m : Memory.Store) (t : Table) (area level charge : ℕ) (car cdr : Parts) (can : CanPair m t area level charge car cdr) where
  pub area_inside : area < areas_of t
  area_inside = let a = areas_agree m t can.it can.kept in let b = can.quota.area_in in omega arith

  pub level_inside : level < levels_of t
  level_inside = let a = levels_agree m t can.it can.kept in let b = can.quota.level_in in omega arith

  pub room_for_pair : words_of_area t area + 2 ≤ 2 * quota_of t area
  room_for_pair = new_room m t can.it can.kept area 2 charge can.quota.area_in (pair_charge charge can.charges) can.quota.fits

  module _ (m1 : Memory.Store) (t1 : Table) (region : Option ℕ) (opens : Opens m t m1 t1 region area level) (at : ℕ) (end : IsEnd t1 (slot_of t area level) at 2) where
    there : IsEnd t1 (slot_of t1 area level) at 2
    there = end_there m t can.it can.kept area level area_inside level_inside m1 t1 region opens at end

    pub pair_allowed : (slot : ℕ) → IsEnd t1 slot at 2 → AllowsOrigin t1 slot charge New
    pair_allowed slot e =
        let after = placed_on m t can.it can.kept area level area_inside level_inside m1 t1 region opens at end can.it can.kept in
        let a = levels_agree m1 t1 can.it after in
        let b = can.quota.level_in in
        new_allowed m1 t1 can.it after area level at 2 can.quota.area_in (omega arith) there charge can.quota.fits slot e

    pub paired_on : (m2 : Memory.Store) (t2 : Table) (first second : Parts) → first ≡ first_word car → second ≡ second_word charge cdr → WritesWithin m1 m2 at 2 → slice_get m2.words at ≡ Some first → slice_get m2.words (at + 1) ≡ Some second
        → t2 ≡ record (committed t1 (slot_of t1 area level) at 2 charge New) { pages = t2.pages } → IsTable t2 → PairedOn m t m2 t2 area level charge car cdr at
    paired_on m2 t2 first second is_first is_second writes first_at second_at commit sound it car_value cdr_value on quota car_is cdr_is =
        let placed = placed_on m t can.it can.kept area level area_inside level_inside m1 t1 region opens at end it on in
        let made = pair_made_on m1 m2 t1 t2 it at area level charge car_value cdr_value placed quota.area_in quota.level_in quota.fits (record {
          commits = record { end = there; writes = writes; commit = commit; sound = sound };
          first = first;
          first_at = first_at;
          first_code = ap (λ (p : Parts). p.cdr) is_first;
          car_is = ap (λ (p : Parts). value_of it.map.role p.content) is_first ∙ car_is;
          second = second;
          second_at = ap (slice_get m2.words) (let e : suc at ≡ at + 1 = omega arith in e) ∙ second_at;
          second_code = subst (λ (p : Parts). PairCode charge p.cdr) (sym is_second) (pair_code charge can.charges);
          cdr_is = ap (λ (p : Parts). value_of it.map.role p.content) is_second ∙ cdr_is;
        }) in
        record {
          map = made.map;
          kept = made.kept;
          refines = made.refines;
          there = ap (λ (a : ℕ). names_as AsCons (made.map.role a)) (let e : at ≡ at + 0 = omega arith in e) ∙ made.there 0 (omega arith);
          old = (
              let before = old_placed m t can.it can.kept area level area_inside level_inside m1 t1 region opens at end it on in
              let after = made.old in
              omega arith);
        }

    module _ (m2 : Memory.Store) (t2 : Table) (writes : WritesWithin m1 m2 at 2) (commit : t2 ≡ record (committed t1 (slot_of t1 area level) at 2 charge New) { pages = t2.pages }) (pages : Adds (page_list t1) (page_list t2) (at / 256) ((at + 2 - 1) / 256)) where
      pub pair_placed : PlacesNew t t2 area level at 2 charge
      pair_placed = record {
        room = t1;
        opens = opened_or_same m t can.it can.kept area level area_inside level_inside m1 t1 region opens at end;
        end = there;
        commit = commit;
        pages = pages;
      }

      pub pair_marks : {word : ℕ → Parts} → IsTable t2 → Writes m1 m2 at 2 word → MarksFollow m t m2 t2
      pair_marks sound written =
          marks-then (opened_marks m t can.it can.kept area level area_inside level_inside m1 t1 region opens at end)
          (marks-placed sound (committed-extends t1 t2 (slot_of t1 area level) at 2 charge New t2.pages t1.last there commit pages) written)

      pub pair_live : LiveWordsUnchanged m t m2 t2
      pair_live =
          live-then (opened_live m t can.it can.kept area level area_inside level_inside m1 t1 region opens at end m1 (record { words = refl; levels = refl; top = refl; unmarked = λ page e. e }))
          (laid_live m1 m2 t1 t2 (slot_of t1 area level) at 2 (committed-extends t1 t2 (slot_of t1 area level) at 2 charge New t2.pages t1.last there commit pages) writes)
