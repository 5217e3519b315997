-- What moves out of an old class is charged there.
use Rattle.std.proofs.Common.{ℕ, ◌≡◌, ◌+◌, ◌/◌, ◌%◌, ◌<◌, ◌≤◌, slice_index, ◌∙◌, ap, arith}
use Rattle.mem_port.specs.Store.{Store}
use Rattle.area_space.specs.Table.{Table, levels_of, slot_of, stale}
use Rattle.area_space.specs.Sound.{IsTable}
use Rattle.lisp_ground.specs.lisp_meaning.Image.{Old}
use Rattle.lisp_ground.specs.lisp_meaning.Classes.{Class, class_of, class_at, classes}
use Rattle.lisp_ground.specs.Image.{no_rest, ground_image}
use Rattle.lisp_ground.specs.GroundInvariant.{GroundInvariant}
use Rattle.lisp_ground.proofs.sums.DepartedObjects.{standing_charged}
use Rattle.lisp_ground.proofs.regions.Regions.{region_is, region_old}
use Rattle.lisp_ground.proofs.regions.Slots.{slot_area, slot_level}
use Rattle.lisp_ground.proofs.sums.Charges.{by_class_at}
use Rattle.transporter.specs.declared.parcel.Parcel.{Parcel}
use Rattle.transporter.specs.Relocations.{IsOldIn}
use Rattle.transporter.proofs.ParcelRoles.{Stands}
use Rattle.lisp_ground.specs.lisp_meaning.Interpretation.{Interpretation}

-- the class of an address in an old region
pub old_class_at : (m : Store) (t : Table) (a area level : ℕ) → IsTable t → IsOldIn t a area level → class_at (classes (ground_image m t)) a ≡ record { area = area; level = level; standing = Old }
old_class_at m t a area level v old =
    let c : Class = record { area = slot_of t area level / levels_of t; level = slot_of t area level % levels_of t; standing = Old } in
    ap class_of (region_is m t no_rest (a / 4096) v) ∙ ap class_of (region_old t (a / 4096) (slot_of t area level) v old.region)
    ∙ ap (λ (n : ℕ). record c { area = n }) (slot_area t area level old.level_in) ∙ ap (λ (n : ℕ). record c { area = area; level = n }) (slot_level t area level old.level_in)

module _ (m : Store) (t : Table) (it : Interpretation) (h : GroundInvariant m t it) (p : Parcel) (stands : Stands it.map it.store p) (some : p.objects ≤ p.words)
    (area level : ℕ) (old : IsOldIn t p.at area level) where
  class_there : (i : ℕ) → i < p.objects → class_at (classes (ground_image m t)) (p.at + i) ≡ record { area = area; level = level; standing = Old }
  class_there i l = ap (classes (ground_image m t)) (stands.near i (omega arith)) ∙ old_class_at m t p.at area level h.table old

  pub charged_image : p.charge ≤ (ground_image m t).old_charge area level
  charged_image =
      let bound = standing_charged m t it h p.at p.objects area level stands.name stands.used stands.place class_there in
      let charge = stands.charge in
      omega arith

  pub charged_there : p.charge ≤ slice_index t.charges (stale (slot_of t area level))
  charged_there = let c = charged_image in let e = by_class_at t stale t.charges area level old.level_in in omega arith
