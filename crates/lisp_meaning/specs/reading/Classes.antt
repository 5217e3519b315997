-- Classes of regions: an area, a level, and whether it is live or old.
use Rattle.std.specs.Prelude.{ℕ, ◌/◌, Bool, ◌&&◌, nat_eq, get_or}
use Rattle.lisp_graph.specs.store_word.declared.sizes.TheConstants.{REGION_WORDS}
use Rattle.lisp_meaning.specs.reading.Image.{Standing, is_live, is_old, Region, no_region, Image}

-- the class of a region; a free one has area and level 0
pub record Class : Type 0 where
  pub area : ℕ
  pub level : ℕ
  pub standing : Standing

abbrev pub class_of : Region → Class
class_of r = record { area = r.area; level = r.level; standing = r.standing }

-- the classes of the regions, by their numbers
abbrev pub classes : Image → (ℕ → Class)
classes g = λ i. class_of (get_or g.regions i no_region)

abbrev pub region_of : ℕ → ℕ
region_of a = a / REGION_WORDS

-- the class of an address
abbrev pub class_at : (ℕ → Class) → ℕ → Class
class_at regions a = regions (region_of a)

abbrev pub is_old_at : (ℕ → Class) → ℕ → Bool
is_old_at regions a = is_old (class_at regions a).standing

abbrev pub is_live_at : (ℕ → Class) → ℕ → Bool
is_live_at regions a = is_live (class_at regions a).standing

-- Tests of regions

-- of the live class of an area and a level
abbrev pub of_class : ℕ → ℕ → Region → Bool
of_class area level r = is_live r.standing && (nat_eq r.area area && nat_eq r.level level)

-- of an old class of an area
abbrev pub old_of : ℕ → Region → Bool
old_of area r = is_old r.standing && nat_eq r.area area

-- Tests of names with their classes

abbrev pub in_class : ℕ → ℕ → ℕ → Class → Bool
in_class area level n c = is_live c.standing && (nat_eq c.area area && nat_eq c.level level)

abbrev pub in_old_class : ℕ → ℕ → ℕ → Class → Bool
in_old_class area level n c = is_old c.standing && (nat_eq c.area area && nat_eq c.level level)

abbrev pub in_old : ℕ → Class → Bool
in_old n c = is_old c.standing
