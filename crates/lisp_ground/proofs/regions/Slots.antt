-- Slots: an area and a level as one number.
use Rattle.std.proofs.Common.{◌≡◌, ◌≢◌, ℕ, ◌/◌, ◌%◌, ◌<◌, sym, ◌∙◌, ap}
use Rattle.area_space.specs.Table.{Table, levels_of, slot_of}
use Rattle.std.proofs.lemmas.Nat.{div-mul-add, mod-mul-add}

pub slot_area : (t : Table) (area level : ℕ) → level < levels_of t → slot_of t area level / levels_of t ≡ area
slot_area t area level low = div-mul-add area (levels_of t) level low

pub slot_level : (t : Table) (area level : ℕ) → level < levels_of t → slot_of t area level % levels_of t ≡ level
slot_level t area level low = mod-mul-add area (levels_of t) level low

-- another area or level is another slot
pub slot_other : (t : Table) (area level x y : ℕ) → level < levels_of t → y < levels_of t → ((x ≡ area) × (y ≡ level) → ⊥) → slot_of t x y ≢ slot_of t area level
slot_other t area level x y low lower ne e =
    ne (
      sym (slot_area t x y lower) ∙ (ap (λ (k : ℕ). k / levels_of t) e ∙ slot_area t area level low),
      sym (slot_level t x y lower) ∙ (ap (λ (k : ℕ). k % levels_of t) e ∙ slot_level t area level low),
    )
