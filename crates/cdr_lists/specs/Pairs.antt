-- A new cons, as a pair.
use Rattle.std.specs.Prelude.{◌≡◌, ◌⊎◌, ◌==◌, if◌then◌else◌, ℕ, zero, suc, [], ◌∷◌, Some}
use Rattle.store_word.specs.Words.{Parts}
use Rattle.store_word.specs.declared.word.CdrCode.{CdrCode}
use Rattle.store_word.specs.declared.word.CdrCode.TheVariants.{Next as CdrNext, Normal as CdrNormal, Second as CdrSecond}
use Rattle.lisp_graph.specs.declared.object.Value.{Value}
use Rattle.lisp_graph.specs.declared.object.Body.TheVariants.{Cons}
use Rattle.mem_port.specs.Store as Memory
use Rattle.area_space.specs.Table.{Table}
use Rattle.transporter.specs.lisp_meaning.Changes.{with_made}
use Rattle.transporter.specs.lisp_meaning.Roles.{AsCons, value_of}
use Rattle.transporter.specs.lisp_ground.GroundInvariant.{GroundInvariant}
use Rattle.transporter.specs.lisp_meaning.Interpretation.{Interpretation}
use Rattle.transporter.specs.Making.{HasQuota, MadeOn}

-- the first word of a pair
abbrev pub first_word : Parts → Parts
first_word car = record car { cdr = CdrNormal }

-- the cdr code of the second, by the charge
abbrev pub second_code : ℕ → CdrCode
second_code charge = if charge == 3 then CdrNext else CdrSecond

-- the second word
abbrev pub second_word : ℕ → Parts → Parts
second_word charge cdr = record cdr { cdr = second_code charge }

-- its words, one by one
abbrev pub words_of_pair : Parts → Parts → ℕ → Parts
words_of_pair first second zero = first
words_of_pair first second (suc i) = second

-- a pair of this charge can be made of these words: the ground represents some objects, for which there is quota, and of which the words have values. (Seven parameters: a ground, the two words, and the area, the level and the charge, which vary independently.)
pub record CanPair (m : Memory.Store) (t : Table) (area level charge : ℕ) (car cdr : Parts) : Type 0 where
  pub it : Interpretation
  pub kept : GroundInvariant m t it
  pub charges : (charge ≡ 2) ⊎ (charge ≡ 3)
  pub quota : HasQuota it area level charge
  pub car_value : (v : Value) × (value_of it.map.role car.content ≡ Some v)
  pub cdr_value : (v : Value) × (value_of it.map.role cdr.content ≡ Some v)

-- a pair of this charge was made at an address: whatever objects the ground represented, it represents them and a new cons. (Ten parameters: memory and table, each before and after, the two words, and the area, the level, the charge and the address, which vary independently.)
abbrev pub PairedOn : Memory.Store → Table → Memory.Store → Table → ℕ → ℕ → ℕ → Parts → Parts → ℕ → Type 0
PairedOn m t m' t' area level charge first second at =
    (it : Interpretation) (car cdr : Value)
    → GroundInvariant m t it → HasQuota it area level charge → value_of it.map.role first.content ≡ Some car → value_of it.map.role second.content ≡ Some cdr
    → MadeOn m t m' t' it (with_made it.store (record { area = area; charge = charge; body = Cons car cdr } ∷ []) level) AsCons at
