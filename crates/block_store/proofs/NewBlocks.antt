-- A block is placed, written and committed.
use Rattle.std.proofs.Common.{◌≡◌, ℕ, suc, ◌+◌, ◌-◌, ◌*◌, ◌/◌, ◌<◌, ◌≤◌, refl, sym, ◌∙◌, ap, subst, arith, List, [], ◌∷◌, length, replicate, get_or, slice_get, Option, Some}
use Rattle.std.proofs.lemmas.List.{length-replicate, get_or-replicate}
use Rattle.std.proofs.lemmas.Option.{slice_get-get_or}
use Rattle.store_word.specs.Words.{Parts, null_word}
use Rattle.store_word.specs.declared.word.CdrCode.TheVariants.{Next}
use Rattle.store_word.specs.declared.word.Content.TheVariants.{Header}
use Rattle.area_space.specs.lisp_graph.declared.object.Value.{Value}
use Rattle.area_space.specs.lisp_graph.declared.object.Value.TheVariants as V
use Rattle.area_space.specs.lisp_graph.declared.object.Body.TheVariants.{Block}
use Rattle.mem_port.specs.Store as Memory
use Rattle.area_space.specs.declared.classes.Origin.TheVariants.{New}
use Rattle.area_space.specs.Table.{Table, areas_of, levels_of, page_list, quota_of, slot_of}
use Rattle.area_space.specs.Room.{words_of_area}
use Rattle.area_space.specs.Places.{IsEnd}
use Rattle.area_space.specs.PageList.{Adds}
use Rattle.area_space.specs.Charges.{AllowsOrigin, committed}
use Rattle.area_space.specs.Sound.{IsTable}
use Rattle.transporter.specs.lisp_meaning.State.{rule_of}
use Rattle.transporter.specs.lisp_meaning.Charges.{account}
use Rattle.transporter.specs.lisp_meaning.Changes.{with_made}
use Rattle.transporter.specs.lisp_meaning.Roles.{AsBlock, RoleMap, names_as, value_of}
use Rattle.obj_layout.specs.Forwards.{word_at}
use Rattle.transporter.specs.lisp_ground.Placing.{Opens}
use Rattle.transporter.specs.lisp_ground.After.{AfterOn}
use Rattle.transporter.specs.lisp_ground.Making.{Commits, MakesBlock as WritesBlock}
use Rattle.transporter.proofs.lisp_ground.sums.Accounts.{areas_agree, levels_agree}
use Rattle.transporter.proofs.lisp_ground.words.PlaceRoom.{new_room}
use Rattle.transporter.proofs.lisp_ground.words.Places.{new_allowed, place_kept_on}
use Rattle.transporter.proofs.lisp_ground.invariant.NewObjects.{block_made_on}
use Rattle.transporter.specs.LiveWordsUnchanged.{LiveWordsUnchanged}
use Rattle.transporter.specs.Writes.{Writes}
use Rattle.transporter.specs.Marking.{MarksFollow}
use Rattle.transporter.proofs.LiveObjects.{live-then}
use Rattle.transporter.proofs.UsedEnds.{committed-extends}
use Rattle.transporter.proofs.PageMarks.{marks-opened, marks-placed, marks-then}
use Rattle.transporter.proofs.MovedParcels.{within-written}
use Rattle.transporter.specs.Making.{PlacesNew}
use Rattle.block_store.specs.Making.{CanMake, MakesBlock, block_word}
use Rattle.transporter.proofs.NewRegions.{end_there, opened_live, opened_or_same, opened_stays, words_inside}
use Rattle.block_store.proofs.ObjectWords.{live_laid}

-- the fields of a new block
abbrev nils : ℕ → List Value
nils count = replicate count V.Nil

nils_length : (count : ℕ) → length (nils count) ≡ count
nils_length count = length-replicate count V.Nil

-- the words that were written are those of a block whose fields are nil
words_block : (m m2 : Memory.Store) (t t2 : Table) (k : RoleMap) (at area level code count : ℕ) → IsEnd t (slot_of t area level) at (count + 1) → at + (count + 1) ≤ length m.words → Writes m m2 at (count + 1) (block_word code count)
    → t2 ≡ record (committed t (slot_of t area level) at (count + 1) (count + 1) New) { pages = t2.pages } → IsTable t2 → WritesBlock m t m2 t2 k at area level code (nils count)
words_block m m2 t t2 k at area level code count end inside w commit sound = record {
  commits = subst (λ (c : ℕ). Commits m t m2 t2 at c area level c) same (record { end = end; writes = within-written w; commit = commit; sound = sound });
  header_at = slice_get-get_or m2.words at null_word (let size = w.size in omega arith)
      ∙ ap (λ (x : Parts). Some x) (ap (λ (a : ℕ). word_at m2.words a) (let e : at ≡ at + 0 = omega arith in e) ∙ w.there 0 (omega arith))
      ∙ ap (λ (c : ℕ). Some (record { cdr = Next; content = Header code c })) (sym (nils_length count));
  fields_at = λ i low. field i (let e = nils_length count in omega arith);
}
  where
    same : count + 1 ≡ suc (length (nils count))
    same = let e = nils_length count in omega arith

    field : (i : ℕ) → i < count → (x : Parts) × (slice_get m2.words (suc at + i) ≡ Some x) × (value_of k.role x.content ≡ Some (get_or (nils count) i V.Nil))
    field i low = (
      block_word code count (suc i),
      slice_get-get_or m2.words (suc at + i) null_word (let size = w.size in omega arith)
          ∙ ap (λ (x : Parts). Some x) (ap (λ (a : ℕ). word_at m2.words a) (let e : suc at + i ≡ at + suc i = omega arith in e) ∙ w.there (suc i) (omega arith)),
      ap (λ (x : Value). Some x) (sym (get_or-replicate count i V.Nil V.Nil low)),
    )

module _ (m : Memory.Store) (t : Table) (area level count : ℕ) (can : CanMake m t area level count) where
  pub area_inside : area < areas_of t
  area_inside = let a = areas_agree m t can.it can.kept in let b = can.quota.area_in in omega arith

  pub level_inside : level < levels_of t
  level_inside = let a = levels_agree m t can.it can.kept in let b = can.quota.level_in in omega arith

  pub room_for_block : words_of_area t area + (count + 1) ≤ 2 * quota_of t area
  room_for_block =
      let room = new_room m t can.it can.kept area (suc count) (suc count) can.quota.area_in (omega arith) can.quota.fits in
      omega arith

  module _ (m1 : Memory.Store) (t1 : Table) (region : Option ℕ) (opens : Opens m t m1 t1 region area level) (at : ℕ) (end : IsEnd t1 (slot_of t area level) at (count + 1)) where
    there : IsEnd t1 (slot_of t1 area level) at (count + 1)
    there = end_there m t can.it can.kept area level area_inside level_inside m1 t1 region opens at (count + 1) end

    pub block_inside : at + (count + 1) ≤ length m1.words
    block_inside = words_inside m t can.it can.kept area level area_inside level_inside m1 t1 region opens at (count + 1) end

    pub block_allowed : (slot : ℕ) → IsEnd t1 slot at (count + 1) → AllowsOrigin t1 slot (count + 1) New
    block_allowed slot e =
        let after = place_kept_on m m1 t t1 region area level can.it can.kept area_inside level_inside opens in
        let a = levels_agree m1 t1 can.it after in
        let b = can.quota.level_in in
        let fits = can.quota.fits in
        new_allowed m1 t1 can.it after area level at (count + 1) can.quota.area_in (omega arith) there (count + 1) (omega arith) slot e

    module _ (m2 : Memory.Store) (t2 : Table) (code : ℕ) (w : Writes m1 m2 at (count + 1) (block_word code count))
        (commit : t2 ≡ record (committed t1 (slot_of t1 area level) at (count + 1) (count + 1) New) { pages = t2.pages }) (pages : Adds (page_list t1) (page_list t2) (at / 256) ((at + (count + 1) - 1) / 256)) (sound : IsTable t2) where
      pub block_live : LiveWordsUnchanged m t m2 t2
      block_live =
          live-then (opened_live m t can.it can.kept area level area_inside level_inside m1 t1 region opens m1 (record { words = refl; levels = refl; top = refl; unmarked = λ page e. e }))
          (live_laid m1 m2 t1 t2 opens.sound area level at (count + 1) (block_word code count) there w commit pages)

      pub block_marks : MarksFollow m t m2 t2
      block_marks =
          marks-then (marks-opened region can.kept.table area_inside level_inside opens)
          (marks-placed sound (committed-extends t1 t2 (slot_of t1 area level) at (count + 1) (count + 1) New t2.pages t1.last there commit pages) w)

      pub block_placed : PlacesNew t t2 area level at (count + 1) (count + 1)
      block_placed = record {
        room = t1;
        opens = opened_or_same m t can.it can.kept area level area_inside level_inside m1 t1 region opens;
        end = there;
        commit = commit;
        pages = pages;
      }

      pub block_made : MakesBlock m t m2 t2 area level code count at
      block_made it on quota =
          let stays = opened_stays m t can.it can.kept area level area_inside level_inside m1 t1 region opens m1 (record { words = refl; levels = refl; top = refl; unmarked = λ page e. e }) in
          let same = nils_length count in
          let fits = subst (λ (c : ℕ). account it.top it.store it.aim area + suc c ≤ (rule_of it.areas area).quota) (sym same) quota.fits in
          let made = block_made_on m1 m2 t1 t2 it at area level code (nils count) (stays.kept it on) quota.area_in quota.level_in fits
          (words_block m1 m2 t1 t2 it.map at area level code count there block_inside w commit sound) in
          let after = subst (λ (c : ℕ). AfterOn m1 t1 m2 t2 it (with_made it.store (record { area = area; charge = suc c; body = Block code (nils count) } ∷ []) level) 0 AsBlock at 1 (λ i. length it.store.objects)) same made in
          record {
            map = after.map;
            kept = after.kept;
            refines = after.refines;
            there = ap (λ (a : ℕ). names_as AsBlock (after.map.role a)) (let e : at ≡ at + 0 = omega arith in e) ∙ after.there 0 (omega arith);
            old = (let old = after.old in let was = stays.old it on in omega arith);
          }
