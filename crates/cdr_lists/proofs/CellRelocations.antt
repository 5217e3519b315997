-- A cell is relocated as a pair.
use Rattle.std.proofs.Common.{◌≡◌, ℕ, suc, ◌+◌, ◌-◌, ◌*◌, ◌/◌, ◌%◌, ◌<◌, ◌≤◌, ◌&&◌, true, false, Bool, nat_eq, refl, sym, ◌∙◌, ap, subst, arith, List, length, slice_get, Option, None, Some}
use Rattle.std.specs.Prelude.{Contains, IfNone, IfSome, IsSome}
use Rattle.std.proofs.lemmas.Grind.{common_steps}
use Rattle.store_word.specs.Words.{Parts}
use Rattle.store_word.specs.declared.word.Content.TheVariants.{HeaderForward}
use Rattle.store_word.specs.declared.word.CdrCode.TheVariants.{Next, Normal}
use Rattle.lisp_graph.specs.Totals.{if_true}
use Rattle.mem_port.specs.Store.{StoresNothing}
use Rattle.mem_port.specs.Store as Memory
use Rattle.area_space.specs.declared.classes.Class.{Class as ClassOf}
use Rattle.area_space.specs.declared.classes.Origin.TheVariants.{Reserve}
use Rattle.area_space.specs.Table.{Table, IsOld, IsUnclassed, areas_of, chain, class_number, levels_of, live, slot_of, stale, quota_of, used_of, page_list}
use Rattle.area_space.specs.Room.{words_of_area}
use Rattle.area_space.specs.Places.{IsEnd}
use Rattle.area_space.specs.Charges.{committed}
use Rattle.area_space.specs.Sound.{IsTable}
use Rattle.transporter.specs.lisp_meaning.State.{is_held}
use Rattle.transporter.specs.lisp_meaning.Image.{Live, Region, is_free}
use Rattle.transporter.specs.lisp_meaning.Forwards.{forward_of}
use Rattle.transporter.specs.lisp_meaning.Classes.{class_at, classes, in_class}
use Rattle.transporter.specs.lisp_meaning.ChargesIn.{is_cell, spare_in, spares_in}
use Rattle.transporter.specs.lisp_meaning.Roles.{AsCons, Cell, RoleMap, names_as, owner, value_of, car_of}
use Rattle.transporter.specs.lisp_meaning.Rewriting.{StandsThere}
use Rattle.transporter.proofs.lisp_meaning.roles.RunNames.{cell_there}
use Rattle.transporter.proofs.lisp_meaning.layout.ObjectWords.{cell_fits}
use Rattle.transporter.proofs.lisp_meaning.reading.ReadRoles.{used_where}
use Rattle.obj_layout.specs.Forwards.{word_at}
use Rattle.transporter.specs.lisp_ground.Image.{ground_image, no_rest}
use Rattle.transporter.specs.lisp_ground.GroundInvariant.{GroundInvariant}
use Rattle.transporter.specs.lisp_meaning.Interpretation.{Interpretation}
use Rattle.transporter.specs.lisp_ground.Placing.{Opens}
use Rattle.transporter.proofs.lisp_ground.sums.Accounts.{areas_agree, levels_agree}
use Rattle.transporter.proofs.lisp_ground.regions.Classes.{class_live, classes_are}
use Rattle.transporter.proofs.lisp_ground.words.FinalAddresses.{at_place, name_in_use}
use Rattle.transporter.proofs.lisp_ground.words.PlaceRoom.{at_most_total, spare_room}
use Rattle.transporter.proofs.lisp_ground.invariant.Relocations.{cell_relaid_on}
use Rattle.transporter.proofs.lisp_ground.regions.Regions.{region_free, region_is}
use Rattle.transporter.proofs.lisp_ground.regions.Slots.{slot_area, slot_level}
use Rattle.transporter.proofs.lisp_ground.words.FinalAddresses.{same_forward}
use Rattle.cdr_lists.specs.Opening.{OpensIfNeeded}
use Rattle.cdr_lists.specs.Parts.{IsCellAt, LaysPair, WritesRelay}
use Rattle.cdr_lists.proofs.ConsAddresses.{CanSetAt, SetsCdrAt}
use Rattle.cdr_lists.specs.Words.{plain}
use Rattle.area_space.specs.PageList.{Adds}
use Rattle.transporter.specs.Growth.{OpensOrStays}
use Rattle.transporter.specs.LiveWordsUnchanged.{IsLiveWord, LiveWordsUnchangedExcept}
use Rattle.transporter.specs.Preserving.{NoOldAddresses, FreshOn, PreservesScanned}
use Rattle.transporter.proofs.UsedEnds.{Extends, committed-extends}
use Rattle.transporter.proofs.ScannedWords.{fresh-grown, fresh-value}
use Rattle.cdr_lists.proofs.ScannedWords.{relay_stays_fresh, relay_first, relay_forward, relay_others, relay_second, relay_preserves, relay_rest, relay_marks}
use Rattle.cdr_lists.proofs.SettledCell.{cell_live}
use Rattle.transporter.specs.Marking.{MarksFollow}
use Rattle.transporter.proofs.MovedParcels.{within-written}
use Rattle.transporter.proofs.lisp_ground.words.WrittenWords.{stores_within}
use Rattle.transporter.proofs.PageMarks.{marks-then, no-forward}
use Rattle.cdr_lists.proofs.NewPlaces.{KeepsOn, end_there, none_placed, old_placed, opened_or_same, placed_on, same_areas, same_slot, same_top, same_words, still_in, opened_marks}

both_true : (a b : Bool) → a ≡ true → b ≡ true → (a && b) ≡ true
both_true a b e f = ap (λ (x : Bool). x && b) e ∙ f

same_number : (a b : ℕ) → a ≡ b → nat_eq a b ≡ true
same_number a b e = grind (arith, common_steps)

-- a class that the table names for a region
pub record IsClassOf (t : Table) (region : ℕ) (class : ClassOf) : Type 0 where
  pub area : class.area < areas_of t
  pub level : class.level < levels_of t
  pub some : Contains (chain t (class_number t class)) region

pub class_found : (t : Table) {region : ℕ} {class : ClassOf} (found : Option ClassOf) → found ≡ Some class → IfSome found (λ class. class.area < areas_of t) → IfSome found (λ class. class.level < levels_of t) → IfSome found (λ class. Contains (chain t (class_number t class)) region) → IsClassOf t region class
class_found t {region} found is area level some = record {
  area = subst (λ (o : Option ClassOf). IfSome o (λ class. class.area < areas_of t)) is area;
  level = subst (λ (o : Option ClassOf). IfSome o (λ class. class.level < levels_of t)) is level;
  some = subst (λ (o : Option ClassOf). IfSome o (λ class. Contains (chain t (class_number t class)) region)) is some;
}

-- it is a live one
class_is_live : (t : Table) (class : ClassOf) (region : ℕ) → (IsOld t region → ⊥) → Contains (chain t (class_number t class)) region → Contains (chain t (live (slot_of t class.area class.level))) region
class_is_live t class region none there = go class.stale refl
  where
    go : (b : Bool) → class.stale ≡ b → Contains (chain t (live (slot_of t class.area class.level))) region
    go false e = subst (λ (x : Bool). Contains (chain t (Rattle.area_space.specs.Table.class_from x (slot_of t class.area class.level))) region) e there
    go true e =
        let old : Contains (chain t (stale (slot_of t class.area class.level))) region = subst (λ (x : Bool). Contains (chain t (Rattle.area_space.specs.Table.class_from x (slot_of t class.area class.level))) region) e there in
        absurd (none (slot_of t class.area class.level, old))

module _ (m : Memory.Store) (t : Table) (cell : ℕ) (car cdr : Parts) (can : CanSetAt m t cell cdr) (is : IsCellAt m cell car) where
  here : (word_at m.words cell).cdr ≡ Normal → ⊥
  here e = is.no_pair (sym (ap (λ (w : Parts). w.cdr) is.is) ∙ e)

  stands : (k : RoleMap) (n : ℕ) → names_as AsCons (k.role cell) ≡ Some n → StandsThere (ground_image m t) k AsCons cell n
  stands k n named = record { named = named; here = sym (same_forward (word_at m.words cell).content) ∙ is.final.no_forward }

  role_is : (it : Interpretation) (n : ℕ) (on : GroundInvariant m t it) → names_as AsCons (it.map.role cell) ≡ Some n → (i : ℕ) × (it.map.role cell ≡ Cell n i)
  role_is it n on named = cell_there (word_at m.words) (classes (ground_image m t)) it.map it.store on.kept.roled cell n named (stands it.map n named).here here

  -- the region of the cell isn't free
  cell_used : IsUnclassed t (cell / 4096) → ⊥
  cell_used free =
      let role = role_is can.it can.name can.can.kept can.can.named in
      let used = (used_where (ground_image m t) can.it.map can.it.store can.can.kept.kept.roled can.can.kept.kept.covered cell can.name (ap owner role.1)).1 in
      let is_it : is_free (class_at (classes (ground_image m t)) cell).standing ≡ true = ap (λ (r : Region). is_free r.standing) (region_is m t no_rest (cell / 4096) can.can.kept.table ∙ region_free t (cell / 4096) free) in
      cc

  -- so it has a class
  pub cell_classed : (class : Option ClassOf) → IfNone class (IsUnclassed t (cell / 4096)) → IsSome class
  cell_classed (Some class) free = refl
  cell_classed None free = absurd (cell_used free)

  module _ (class : ClassOf) (area_in : class.area < areas_of t) (level_in : class.level < levels_of t) (there : Contains (chain t (class_number t class)) (cell / 4096)) where
    in_live : Contains (chain t (live (slot_of t class.area class.level))) (cell / 4096)
    in_live = class_is_live t class (cell / 4096) can.fresh there

    class_here : class_at (classes (ground_image m t)) cell ≡ record { area = class.area; level = class.level; standing = Live }
    class_here =
        let slot = slot_of t class.area class.level in
        classes_are m t no_rest (cell / 4096) can.can.kept.table ∙ (class_live t (cell / 4096) (slot_of t class.area class.level) can.can.kept.table in_live ∙ (
        ap (λ (x : ℕ). record { area = x; level = slot_of t class.area class.level % levels_of t; standing = Live }) (slot_area t class.area class.level level_in)
        ∙ ap (λ (x : ℕ). record { area = class.area; level = x; standing = Live }) (slot_level t class.area class.level level_in)))

    -- the cell's charge has paid for two words more
    spared : 2 ≤ spares_in can.it.store can.it.map (classes (ground_image m t)) (in_class class.area class.level)
    spared =
        let n = can.name in
        let cls = classes (ground_image m t) in
        let place : can.it.map.at can.name ≡ cell = sym (at_place m t can.it can.can.kept AsCons cell can.name (stands can.it.map can.name can.can.named)) in
        let role = role_is can.it can.name can.can.kept can.can.named in
        let held : is_held can.it.store can.name ≡ true = name_in_use m t can.it can.can.kept AsCons cell can.name can.can.named in
        let low = can.can.kept.kept.names can.name held in
        let inside : in_class class.area class.level can.name (class_at (classes (ground_image m t)) (can.it.map.at can.name)) ≡ true =
        ap (λ (a : ℕ). in_class class.area class.level can.name (class_at (classes (ground_image m t)) a)) place
        ∙ ap (in_class class.area class.level can.name) class_here
        ∙ both_true (nat_eq class.area class.area) (nat_eq class.level class.level) (same_number class.area class.area refl) (same_number class.level class.level refl) in
        let cell_is : is_cell (can.it.map.role (can.it.map.at can.name)) ≡ true = ap (λ (a : ℕ). is_cell (can.it.map.role a)) place ∙ ap is_cell role.1 in
        let test = both_true (is_held can.it.store can.name) (in_class class.area class.level can.name (class_at (classes (ground_image m t)) (can.it.map.at can.name)) && is_cell (can.it.map.role (can.it.map.at can.name))) held
        (both_true (in_class class.area class.level can.name (class_at (classes (ground_image m t)) (can.it.map.at can.name))) (is_cell (can.it.map.role (can.it.map.at can.name))) inside cell_is) in
        let one : spare_in can.it.store can.it.map (classes (ground_image m t)) (in_class class.area class.level) can.name ≡ 2 = ap (λ (b : Bool). if_true b 2) test in
        let most = at_most_total (spare_in can.it.store can.it.map (classes (ground_image m t)) (in_class class.area class.level)) can.name (length can.it.store.objects) low in
        omega arith

    pub room_for_relay : words_of_area t class.area + 2 ≤ 2 * quota_of t class.area
    room_for_relay =
        let a = areas_agree m t can.it can.can.kept in
        let l = levels_agree m t can.it can.can.kept in
        spare_room m t can.it can.can.kept class.area 2 class.level (omega arith) (omega arith) spared

    module _ (m1 : Memory.Store) (t1 : Table) (region : Option ℕ) (opens : Opens m t m1 t1 region class.area class.level) (at : ℕ) (end : IsEnd t1 (slot_of t class.area class.level) at 2) where
      keeps : KeepsOn m t m1 t1
      keeps = placed_on m t can.it can.can.kept class.area class.level area_in level_in m1 t1 region opens at end

      words_same : m1.words ≡ m.words
      words_same = same_words m t can.it can.can.kept class.area class.level area_in level_in m1 t1 region opens at end

      word_same : word_at m1.words cell ≡ word_at m.words cell
      word_same = ap (λ (ws : List Parts). word_at ws cell) words_same

      pub cell_inside : cell < length m1.words
      cell_inside = subst (λ (ws : List Parts). cell < length ws) (sym words_same) is.final.inside

      there_after : Contains (chain t1 (live (slot_of t1 class.area class.level))) (cell / 4096)
      there_after =
          let same = same_slot m t can.it can.can.kept class.area class.level area_in level_in m1 t1 region opens at end in
          subst (λ (slot : ℕ). Contains (chain t1 (live slot)) (cell / 4096)) same
          (still_in m t can.it can.can.kept class.area class.level area_in level_in m1 t1 region opens at end (slot_of t class.area class.level) (cell / 4096) in_live)

      pub cell_set : (m2 : Memory.Store) (t2 : Table) (first second : Parts) → WritesRelay m1 m2 cell at first second → first ≡ record car { cdr = Normal } → second ≡ record cdr { cdr = Next }
          → t2 ≡ record (committed t1 (slot_of t1 class.area class.level) at 2 0 Reserve) { pages = t2.pages } → IsTable t2 → SetsCdrAt m t m2 t2 cell cdr.content
      cell_set m2 t2 first second w is_first is_second commit sound it registers n old_car old_cdr new x body value =
          let on = x.kept in
          let named = x.named in
          let role = role_is it n on named in
          let fits = cell_fits (word_at m.words) (classes (ground_image m t)) it.map it.store on.kept.roled n cell role.0 role.1 in
          let holds : value_of it.map.role (word_at m.words cell).content ≡ Some old_car = fits.car.2 ∙ sym fits.car.1 ∙ ap car_of body in
          let st : StandsThere (ground_image m1 t1) it.map AsCons cell n = record { named = named; here = ap (λ (p : Parts). forward_of p.content) word_same ∙ (stands it.map n named).here } in
          let areas_same = same_areas m t can.it can.can.kept class.area class.level area_in level_in m1 t1 region opens at end in
          let top_same = same_top m t can.it can.can.kept class.area class.level area_in level_in m1 t1 region opens at end in
          let made = cell_relaid_on m1 w.mid m2 t1 t2 it cell at n class.area class.level old_car old_cdr new first second (keeps it on) st
          (λ e. here (sym (ap (λ (p : Parts). p.cdr) word_same) ∙ e)) body (record {
            area_in = omega arith;
            level_in = omega arith;
            stands = there_after;
            end = end_there m t can.it can.can.kept class.area class.level area_in level_in m1 t1 region opens at end;
            writes = within-written w.pair;
            rewrites = stores_within w.mid m2 cell (plain (HeaderForward at)) w.rest;
            forward = plain (HeaderForward at);
            forward_at = w.forward_at;
            leads = refl;
            blanks = λ j some low. absurd (omega arith);
            sound = sound;
          }) commit
          w.first_at (ap (λ (p : Parts). p.cdr) is_first) (ap (λ (p : Parts). value_of it.map.role p.content) is_first ∙ ap (λ (p : Parts). value_of it.map.role p.content) (sym is.is) ∙ holds)
          (ap (slice_get w.mid.words) (let e : suc at ≡ at + 1 = omega arith in e) ∙ w.second_at) (ap (λ (p : Parts). p.cdr) is_second) (ap (λ (p : Parts). value_of it.map.role p.content) is_second ∙ value) in
          let before = old_placed m t can.it can.can.kept class.area class.level area_in level_in m1 t1 region opens at end it on in
          let none = none_placed m t can.it can.can.kept class.area class.level area_in level_in m1 t1 region opens at end in
          let some = ap (λ (x : Table). x.placed) commit in
          record { map = made.map; kept = made.kept; refines = made.refines; work = (let after = made.old in omega arith) }

      module _ (m2 : Memory.Store) (t2 : Table) (first second : Parts) (w : WritesRelay m1 m2 cell at first second) (sound : IsTable t2) (commit : t2 ≡ record (committed t1 (slot_of t1 class.area class.level) at 2 0 Reserve) { pages = t2.pages })
          (pages : Adds (page_list t1) (page_list t2) (at / 256) ((at + 2 - 1) / 256)) where
        extends : Extends t1 t2 (slot_of t1 class.area class.level) at 2
        extends =
            committed-extends t1 t2 (slot_of t1 class.area class.level) at 2 0 Reserve t2.pages t1.last
            (end_there m t can.it can.can.kept class.area class.level area_in level_in m1 t1 region opens at end) commit pages

        opened_only : OpensOrStays t t1
        opened_only = opened_or_same m t can.it can.can.kept class.area class.level area_in level_in m1 t1 region opens at end

        pub cell_preserves : PreservesScanned m t m2 t2
        cell_preserves = relay_preserves m m1 m2 t t1 t2 can.can.kept.table sound words_same opened_only (slot_of t1 class.area class.level) at cell first second extends w

        live_cell : IsLiveWord t cell
        live_cell = cell_live m t cell cdr can (record { final = is.final; is = refl; no_pair = λ e. is.no_pair (sym (ap (λ (p : Parts). p.cdr) is.is) ∙ e) })

        pub cell_marks : MarksFollow m t m2 t2
        cell_marks =
            let no_forward = ap (λ (p : Parts). forward_of p.content) word_same ∙ is.final.no_forward in
            marks-then (opened_marks m t can.it can.can.kept class.area class.level area_in level_in m1 t1 region opens at end)
            (relay_marks m m1 m2 t t1 t2 can.can.kept.table sound words_same opened_only (slot_of t1 class.area class.level) at cell first second extends w cell_inside live_cell (no-forward _ no_forward))

        pub cell_others : LiveWordsUnchangedExcept m t m2 t2 cell
        cell_others = relay_others m m1 m2 t t1 t2 can.can.kept.table sound words_same opened_only (slot_of t1 class.area class.level) at cell first second extends w

        pub cell_laid : OpensIfNeeded t t1 class.area class.level 2 → first ≡ record car { cdr = Normal } → second ≡ record cdr { cdr = Next } → LaysPair m t m2 t2 cell car cdr
        cell_laid needed is_first is_second = record {
          room = t1;
          opens = opened_only;
          area = class.area;
          level = class.level;
          needed = needed;
          class = there_after;
          at = at;
          end = end_there m t can.it can.can.kept class.area class.level area_in level_in m1 t1 region opens at end;
          commit = commit;
          first = relay_first m m1 m2 t t1 t2 can.can.kept.table sound words_same opened_only (slot_of t1 class.area class.level) at cell first second extends w live_cell ∙ is_first;
          second = relay_second m m1 m2 t t1 t2 can.can.kept.table sound words_same opened_only (slot_of t1 class.area class.level) at cell first second extends w live_cell ∙ is_second;
          forward = relay_forward m m1 m2 t t1 t2 can.can.kept.table sound words_same opened_only (slot_of t1 class.area class.level) at cell first second extends w;
          rest = relay_rest m m1 m2 t t1 t2 can.can.kept.table sound words_same opened_only (slot_of t1 class.area class.level) at cell first second extends w;
        }

        pub cell_stays_fresh : first ≡ record car { cdr = Normal } → second ≡ record cdr { cdr = Next } → FreshOn t car.content → NoOldAddresses m t → NoOldAddresses m2 t2
        cell_stays_fresh is_first is_second fresh =
            let preserves = cell_preserves in
            let first_fresh = subst (λ (p : Parts). FreshOn t2 p.content) (sym is_first) (fresh-grown car.content preserves.grows fresh) in
            let second_fresh = subst (λ (p : Parts). FreshOn t2 p.content) (sym is_second) (fresh-grown cdr.content preserves.grows (fresh-value can.it.map.role t cdr.content can.value can.value_is can.young)) in
            relay_stays_fresh m m1 m2 t t1 t2 can.can.kept.table sound words_same opened_only (slot_of t1 class.area class.level) at cell first second extends w live_cell first_fresh second_fresh
