-- The total of a level is that of its objects and husks.
use Rattle.std.proofs.Common.{◌≡◌, ℕ, suc, ◌+◌, ◌*◌, ◌/◌, ◌<◌, ◌⊎◌, inl, inr, Bool, true, false, ◌&&◌, nat_eq, length, refl, sym, ◌∙◌, ap, arith, Option, Some, None, is_some}
use Rattle.std.proofs.Math.Nat.{div-lt_iff_lt-mul}
use Rattle.std.proofs.lemmas.Bool.{eq-eqb, ne_eqb}
use Rattle.area_space.specs.lisp_graph.Totals.{total, if_true}
use Rattle.area_space.proofs.lisp_graph.Totals.{total-add, total-cong}
use Rattle.area_space.specs.mem_port.Store.{Store}
use Rattle.area_space.specs.Table.{Table, areas_of, levels_of, slots_of, slot_of, live, IsUnclassed, IsLive, IsOld}
use Rattle.area_space.specs.Accounts.{debt, level_total}
use Rattle.lisp_meaning.specs.State.{State, no_aim, in_use, object}
use Rattle.lisp_meaning.specs.Charges.{charges, is_level}
use Rattle.lisp_meaning.specs.Charges as M
use Rattle.lisp_meaning.specs.Image.{Region, Image, Standing, is_live, is_free, region}
use Rattle.lisp_meaning.specs.Classes.{classes, in_class}
use Rattle.lisp_meaning.specs.ChargesIn.{charge_in, charges_in}
use Rattle.lisp_meaning.specs.Roles.{RoleMap}
use Rattle.lisp_meaning.proofs.sums.Charges.{total-none, total-one, total-swap}
use Rattle.lisp_ground.specs.Image.{region_at, no_rest, ground_image}
use Rattle.lisp_ground.specs.GroundInvariant.{GroundInvariant}
use Rattle.lisp_meaning.specs.Interpretation.{interpretation}
use Rattle.lisp_ground.specs.Laws.{LevelTotalsOn}
use Rattle.lisp_meaning.proofs.reading.Adequacy.{where_held}
use Rattle.lisp_ground.proofs.sums.Accounts.{levels_agree, areas_agree}
use Rattle.lisp_ground.proofs.regions.Classes.{slot_inside}
use Rattle.lisp_ground.proofs.sums.Charges.{by_class_at}
use Rattle.lisp_ground.proofs.regions.Owners.{region_cases}
use Rattle.lisp_ground.proofs.regions.Regions.{region_is, region_free, region_live, region_old}

module _ (m : Store) (t : Table) (k : RoleMap) (s : State) (on : GroundInvariant m t (record (interpretation k s) { aim = no_aim })) (level : ℕ) (low : level < suc s.space.levels) where
  abbrev g : Image
  g = ground_image m t

  area_inside : (slot : ℕ) → slot < slots_of t → slot / levels_of t < areas_of t
  area_inside slot inside = (div-lt_iff_lt-mul {k = levels_of t} {x = slot} {y = areas_of t} (omega arith)).1 inside

  -- a name that is held is in one of the areas
  area_low : (n : ℕ) → in_use s.store n → (object s.store n).area < length s.areas
  area_low n u = by_chain (region_cases t (k.at n / 4096))
    where
      is : (r : Region) → region_at t (k.at n / 4096) ≡ r → r.area ≡ (object s.store n).area
      is r e = ap (λ (x : Region). x.area) (sym e ∙ sym (region_is m t no_rest (k.at n / 4096) on.table)) ∙ on.kept.classes_of.area n u

      by_chain : IsUnclassed t (k.at n / 4096) ⊎ (IsLive t (k.at n / 4096) ⊎ IsOld t (k.at n / 4096)) → (object s.store n).area < length s.areas
      by_chain (inl free) =
          let not : is_free (region g (k.at n)).standing ≡ false = (where_held g (record (interpretation k s) { aim = no_aim }) on.kept n u).2 in
          let yes : is_free (region g (k.at n)).standing ≡ true = ap (λ (x : Region). is_free x.standing) (region_is m t no_rest (k.at n / 4096) on.table ∙ region_free t (k.at n / 4096) free) in
          absurd (cc)
      by_chain (inr (inl l)) =
          let e = is _ (region_live t (k.at n / 4096) l.0 on.table l.1) in
          let a = area_inside l.0 (slot_inside t (live l.0) l.0 (k.at n / 4096) on.table (omega arith) l.1) in
          let b = areas_agree m t (record (interpretation k s) { aim = no_aim }) on in
          omega arith
      by_chain (inr (inr o)) =
          let e = is _ (region_old t (k.at n / 4096) o.0 on.table o.1) in
          let a = area_inside o.0 (slot_inside t (2 * o.0 + 1) o.0 (k.at n / 4096) on.table (omega arith) o.1) in
          let b = areas_agree m t (record (interpretation k s) { aim = no_aim }) on in
          omega arith

  -- over all areas a name counts once, at its level
  abbrev counts : ℕ → ℕ → ℕ
  counts n area = charge_in s.store k.at (classes g) (in_class area level) n

  each : (n : ℕ) (h : Option ℕ) → s.store.held n ≡ h → total (counts n) (length s.areas) ≡ if_true (is_level level h) (object s.store n).charge
  each n None e =
      total-none (counts n) (length s.areas)
      (λ area l. ap (λ (h : Option ℕ). if_true (is_some h && in_class area level n (classes g (k.at n / 4096))) (object s.store n).charge) e)
  each n (Some l) e =
      let u : in_use s.store n = ap is_some e in
      let there = on.kept.classes_of.spared n l e refl in
      let area = (object s.store n).area in
      let counted : (x : ℕ) → counts n x ≡ if_true (nat_eq area x && nat_eq l level) (object s.store n).charge = λ x.
      (ap (λ (h : Option ℕ). if_true (is_some h && in_class x level n (classes g (k.at n / 4096))) (object s.store n).charge) e
      ∙ ap (λ (y : Standing). if_true (is_live y && (nat_eq (region g (k.at n)).area x && nat_eq (region g (k.at n)).level level)) (object s.store n).charge) there.0
      ∙ ap (λ (y : ℕ). if_true (nat_eq y x && nat_eq (region g (k.at n)).level level) (object s.store n).charge) (on.kept.classes_of.area n u)
      ∙ ap (λ (y : ℕ). if_true (nat_eq area x && nat_eq y level) (object s.store n).charge) there.1) in
      total-one (counts n) area (length s.areas) (area_low n u)
      (λ x q ne. counted x ∙ ap (λ (b : Bool). if_true (b && nat_eq l level) (object s.store n).charge) (ne_eqb area x (λ (z : area ≡ x). ne (sym z))))
      ∙ counted area ∙ ap (λ (b : Bool). if_true (b && nat_eq l level) (object s.store n).charge) (eq-eqb area area refl)

  charges_agree : total (λ area. charges_in s.store k.at (classes g) (in_class area level)) (length s.areas) ≡ charges s.store (λ n. is_level level (s.store.held n))
  charges_agree =
      total-swap (λ area n. counts n area) (length s.areas) (length s.store.objects)
      ∙ total-cong (λ n. total (counts n) (length s.areas)) (λ n. if_true (is_level level (s.store.held n)) (object s.store n).charge) (length s.store.objects) (λ n l. each n (s.store.held n) refl)

  totals_agree : level_total t level ≡ M.level_total s level
  totals_agree =
      ap (total (λ area. debt t (live (slot_of t area level)))) (areas_agree m t (record (interpretation k s) { aim = no_aim }) on)
      ∙ total-cong (λ area. debt t (live (slot_of t area level))) (λ area. charges_in s.store k.at (classes g) (in_class area level) + s.store.husks area level) (length s.areas) both
      ∙ total-add (λ area. charges_in s.store k.at (classes g) (in_class area level)) (λ area. s.store.husks area level) (length s.areas)
      ∙ ap (λ (x : ℕ). x + total (λ area. s.store.husks area level) (length s.areas)) charges_agree
    where
      both : (area : ℕ) → area < length s.areas → debt t (live (slot_of t area level)) ≡ charges_in s.store k.at (classes (ground_image m t)) (in_class area level) + s.store.husks area level
      both area l =
          let levels = levels_agree m t (record (interpretation k s) { aim = no_aim }) on in
          let a = by_class_at t live t.charges area level (omega arith) in
          let b = by_class_at t live t.husks area level (omega arith) in
          let c = on.kept.live_charges area level in
          let d = on.kept.live_husks area level in
          omega arith

pub level_totals_on : LevelTotalsOn
level_totals_on m t k s on level low = totals_agree m t k s on level (omega arith)
