-- The cells of a list are placed, written and committed.
use Rattle.std.proofs.Common.{◌≡◌, ℕ, suc, refl, ◌+◌, ◌-◌, ◌/◌, ◌*◌, ◌<◌, ◌≤◌, Bool, sym, ◌∙◌, ap, subst, arith, List, length, Option, Some, if◌then◌else◌}
use Rattle.std.proofs.lemmas.Bool.{eq-eqb, ne_eqb}
use Rattle.std.proofs.lemmas.Option.{slice_get-get_or}
use Rattle.store_word.specs.Words.{Parts, null_word}
use Rattle.store_word.specs.declared.word.CdrCode.TheVariants.{Next as CdrNext, Nil as CdrNil}
use Rattle.mem_port.specs.Store as Memory
use Rattle.area_space.specs.Table.{Table, areas_of, levels_of, page_list, quota_of, slot_of}
use Rattle.area_space.specs.Room.{words_of_area}
use Rattle.area_space.specs.Places.{IsEnd}
use Rattle.area_space.specs.Charges.{AllowsOrigin, committed}
use Rattle.area_space.specs.declared.classes.Origin.TheVariants.{New}
use Rattle.area_space.specs.Sound.{IsTable}
use Rattle.transporter.specs.lisp_meaning.Roles.{AsCons, names_as}
use Rattle.transporter.specs.lisp_ground.Placing.{Opens}
use Rattle.transporter.specs.lisp_ground.Making.{Commits}
use Rattle.transporter.proofs.lisp_ground.sums.Accounts.{areas_agree, levels_agree}
use Rattle.transporter.proofs.lisp_ground.words.PlaceRoom.{new_room}
use Rattle.transporter.proofs.lisp_ground.words.Places.{new_allowed}
use Rattle.transporter.proofs.lisp_ground.invariant.NewObjects.{list_made_on}
use Rattle.transporter.specs.Writes.{Writes}
use Rattle.transporter.proofs.MovedParcels.{within-written}
use Rattle.cdr_lists.specs.Lists.{CanList, ListedOn, cell_code, cell_word, item_word}
use Rattle.cdr_lists.proofs.NewPlaces.{placed_on, end_there, old_placed, opened_live, opened_marks, opened_or_same}
use Rattle.cdr_lists.proofs.NewWords.{laid_live}
use Rattle.transporter.specs.Making.{PlacesNew}
use Rattle.area_space.specs.PageList.{Adds}
use Rattle.obj_layout.specs.Forwards.{word_at}
use Rattle.transporter.specs.LiveWordsUnchanged.{LiveWordsUnchanged, OnlyGrows}
use Rattle.transporter.specs.Preserving.{FreshOn}
use Rattle.transporter.proofs.ScannedWords.{fresh-grown}
use Rattle.transporter.specs.Marking.{MarksFollow}
use Rattle.transporter.proofs.LiveObjects.{live-then}
use Rattle.transporter.proofs.PageMarks.{marks-placed, marks-then}
use Rattle.transporter.proofs.UsedEnds.{committed-extends}

-- what can be made of items can be of the same ones
pub same_items : {m : Memory.Store} {t : Table} {area level : ℕ} {registers : List Parts} {items same : List ℕ} → same ≡ items → CanList m t area level registers items → CanList m t area level registers same
same_items {m} {t} {area} {level} {registers} e can = subst (CanList m t area level registers) (sym e) can

-- the codes of the cells
next_coded : (count i : ℕ) → suc i < count → cell_code count i ≡ CdrNext
next_coded count i low = ap (λ (b : Bool). if b then CdrNil else CdrNext) (ne_eqb (suc i) count (λ e. omega arith))

nil_coded : (count i : ℕ) → suc i ≡ count → cell_code count i ≡ CdrNil
nil_coded count i e = ap (λ (b : Bool). if b then CdrNil else CdrNext) (eq-eqb (suc i) count e)

-- the cells of a list are fresh if the items are
pub cells_fresh : (t t2 : Table) (ws : List Parts) (at : ℕ) (registers : List Parts) (items : List ℕ) → OnlyGrows t t2 → ((i : ℕ) → i < length items → word_at ws (at + i) ≡ cell_word registers items i)
    → ((i : ℕ) → i < length items → FreshOn t (item_word registers items i).content) → (i : ℕ) → i < length items → FreshOn t2 (word_at ws (at + i)).content
cells_fresh t t2 ws at registers items grows cells fresh i low = subst (FreshOn t2) (sym (ap (λ (p : Parts). p.content) (cells i low))) (fresh-grown (item_word registers items i).content grows (fresh i low))

module _ (m : Memory.Store) (t : Table) (area level : ℕ) (registers : List Parts) (items : List ℕ) (can : CanList m t area level registers items) where
  pub list_area : area < areas_of t
  list_area = let a = areas_agree m t can.it can.kept in let b = can.quota.area_in in omega arith

  pub list_level : level < levels_of t
  list_level = let a = levels_agree m t can.it can.kept in let b = can.quota.level_in in omega arith

  pub list_room : words_of_area t area + length items ≤ 2 * quota_of t area
  list_room = new_room m t can.it can.kept area (length items) (3 * length items) can.quota.area_in (omega arith) can.quota.fits

  module _ (m1 : Memory.Store) (t1 : Table) (region : Option ℕ) (opens : Opens m t m1 t1 region area level) (at : ℕ) (end : IsEnd t1 (slot_of t area level) at (length items)) where
    there : IsEnd t1 (slot_of t1 area level) at (length items)
    there = end_there m t can.it can.kept area level list_area list_level m1 t1 region opens at end

    pub list_allowed : (slot : ℕ) → IsEnd t1 slot at (length items) → AllowsOrigin t1 slot (3 * length items) New
    list_allowed slot e =
        let after = placed_on m t can.it can.kept area level list_area list_level m1 t1 region opens at end can.it can.kept in
        let a = levels_agree m1 t1 can.it after in
        let b = can.quota.level_in in
        new_allowed m1 t1 can.it after area level at (length items) can.quota.area_in (omega arith) there (3 * length items) can.quota.fits slot e

    pub listed_on : (m2 : Memory.Store) (t2 : Table) → Writes m1 m2 at (length items) (cell_word registers items) → at + length items ≤ length m1.words
        → t2 ≡ record (committed t1 (slot_of t1 area level) at (length items) (3 * length items) New) { pages = t2.pages } → IsTable t2 → ListedOn m t m2 t2 area level registers items at
    listed_on m2 t2 writes inside commit sound it values on quota means =
        let placed = placed_on m t can.it can.kept area level list_area list_level m1 t1 region opens at end it on in
        let size = writes.size in
        let some = can.some in
        let few = can.few in
        let count = means.count in
        let commits : Commits m1 t1 m2 t2 at (length items) area level (3 * length items) = record { end = there; writes = within-written writes; commit = commit; sound = sound } in
        let made = list_made_on m1 m2 t1 t2 it at area level values placed quota.area_in quota.level_in (let fits = quota.fits in omega arith) (omega arith) (record {
          commits = subst (λ (n : ℕ). Commits m1 t1 m2 t2 at n area level (3 * n)) (sym count) commits;
          cells_at = λ i low. (
            cell_word registers items i,
            slice_get-get_or m2.words (at + i) null_word (omega arith) ∙ ap (λ (w : Parts). Some w) (writes.there i (omega arith)),
            means.each i (omega arith),
            λ inner. next_coded (length items) i (omega arith),
            λ last. nil_coded (length items) i (last ∙ count),
          );
        }) in
        record {
          map = made.map;
          kept = made.kept;
          refines = made.refines;
          there = ap (λ (a : ℕ). names_as AsCons (made.map.role a)) (let e : at ≡ at + 0 = omega arith in e) ∙ made.there 0 (omega arith) ∙ ap (λ (n : ℕ). Some n) (let e : length it.store.objects + 0 ≡ length it.store.objects = omega arith in e);
          old = (
              let before = old_placed m t can.it can.kept area level list_area list_level m1 t1 region opens at end it on in
              let after = made.old in
              omega arith);
        }

    module _ (m2 : Memory.Store) (t2 : Table) (writes : Writes m1 m2 at (length items) (cell_word registers items))
        (commit : t2 ≡ record (committed t1 (slot_of t1 area level) at (length items) (3 * length items) New) { pages = t2.pages }) (pages : Adds (page_list t1) (page_list t2) (at / 256) ((at + length items - 1) / 256)) where
      pub list_placed : PlacesNew t t2 area level at (length items) (3 * length items)
      list_placed = record {
        room = t1;
        opens = opened_or_same m t can.it can.kept area level list_area list_level m1 t1 region opens at end;
        end = there;
        commit = commit;
        pages = pages;
      }

      pub list_marks : IsTable t2 → MarksFollow m t m2 t2
      list_marks sound =
          marks-then (opened_marks m t can.it can.kept area level list_area list_level m1 t1 region opens at end)
          (marks-placed sound (committed-extends t1 t2 (slot_of t1 area level) at (length items) (3 * length items) New t2.pages t1.last there commit pages) writes)

      pub list_live : LiveWordsUnchanged m t m2 t2
      list_live =
          live-then (opened_live m t can.it can.kept area level list_area list_level m1 t1 region opens at end m1 (record { words = refl; levels = refl; top = refl; unmarked = λ page e. e }))
          (laid_live m1 m2 t1 t2 (slot_of t1 area level) at (length items) (committed-extends t1 t2 (slot_of t1 area level) at (length items) (3 * length items) New t2.pages t1.last there commit pages) (within-written writes))
