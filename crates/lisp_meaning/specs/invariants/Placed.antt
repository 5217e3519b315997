-- What placing and writing words changes in the table and the memory, in numbers alone.
use Rattle.std.specs.Prelude.{◌≡◌, ℕ, ◌+◌, ◌<◌, ◌≤◌, true, false, length, get_or}
use Rattle.lisp_graph.specs.store_word.declared.sizes.TheConstants.{MAX_OBJECT_WORDS}
use Rattle.lisp_meaning.specs.reading.Image.{Image, word, region, is_free, is_used, used_words, Live, no_region}
use Rattle.lisp_meaning.specs.reading.Classes.{classes, class_at, region_of, of_class, old_of}

-- words were placed at the end of the chain of an area and a level, and written; all else is unchanged
pub record Placed (g g' : Image) (b count area level : ℕ) : Type 0 where
  pub words : (a : ℕ) → ((b ≤ a) × (a < b + count) → ⊥) → word g' a ≡ word g a
  pub unused : (a : ℕ) → b ≤ a → a < b + count → is_used g a ≡ false
  pub used_in : (a : ℕ) → b ≤ a → a < b + count → is_used g' a ≡ true
  pub used_out : (a : ℕ) → ((b ≤ a) × (a < b + count) → ⊥) → is_used g' a ≡ is_used g a
  pub near : (j : ℕ) → j < count → region_of (b + j) ≡ region_of b
  -- a free region may have been opened
  pub class : (a : ℕ) → is_free (region g a).standing ≡ false → class_at (classes g') a ≡ class_at (classes g) a
  pub class_there : class_at (classes g') b ≡ record { area = area; level = level; standing = Live }
  pub free : (a : ℕ) → is_free (region g' a).standing ≡ true → is_free (region g a).standing ≡ true
  pub used_class : used_words g' (of_class area level) ≡ used_words g (of_class area level) + count
  pub used_else : (x y : ℕ) → ((x ≡ area) × (y ≡ level) → ⊥) → used_words g' (of_class x y) ≡ used_words g (of_class x y)
  pub used_old : (x : ℕ) → used_words g' (old_of x) ≡ used_words g (old_of x)
  pub chains : (i : ℕ) → i < length g'.regions → is_free (get_or g'.regions i no_region).standing ≡ false → g'.is_last i ≡ false → MAX_OBJECT_WORDS < (get_or g'.regions i no_region).used

-- and they are charged to their class, as those of a new object
pub record Charged (g g' : Image) (area level charge : ℕ) : Type 0 where
  pub live_class : g'.live_charge area level ≡ g.live_charge area level + charge
  pub live_else : (x y : ℕ) → ((x ≡ area) × (y ≡ level) → ⊥) → g'.live_charge x y ≡ g.live_charge x y
  pub old : (x y : ℕ) → g'.old_charge x y ≡ g.old_charge x y
  pub live_husks : (x y : ℕ) → g'.live_husks x y ≡ g.live_husks x y
  pub old_husks : (x y : ℕ) → g'.old_husks x y ≡ g.old_husks x y

-- and they are charged to their class, and no longer to an old class of the area, as those of an object that moved
pub record Rehomed (g g' : Image) (area from level charge : ℕ) : Type 0 where
  pub live_class : g'.live_charge area level ≡ g.live_charge area level + charge
  pub live_else : (x y : ℕ) → ((x ≡ area) × (y ≡ level) → ⊥) → g'.live_charge x y ≡ g.live_charge x y
  pub old_class : g'.old_charge area from + charge ≡ g.old_charge area from
  pub old_else : (x y : ℕ) → ((x ≡ area) × (y ≡ from) → ⊥) → g'.old_charge x y ≡ g.old_charge x y
  pub live_husks : (x y : ℕ) → g'.live_husks x y ≡ g.live_husks x y
  pub old_husks : (x y : ℕ) → g'.old_husks x y ≡ g.old_husks x y

-- and the charge and husk of an object in their class change, as for an object that was relocated
pub record Recharged (g g' : Image) (area level before after husk : ℕ) : Type 0 where
  pub live_class : g'.live_charge area level + before ≡ g.live_charge area level + after
  pub live_else : (x y : ℕ) → ((x ≡ area) × (y ≡ level) → ⊥) → g'.live_charge x y ≡ g.live_charge x y
  pub old : (x y : ℕ) → g'.old_charge x y ≡ g.old_charge x y
  pub husks_class : g'.live_husks area level ≡ g.live_husks area level + husk
  pub husks_else : (x y : ℕ) → ((x ≡ area) × (y ≡ level) → ⊥) → g'.live_husks x y ≡ g.live_husks x y
  pub old_husks : (x y : ℕ) → g'.old_husks x y ≡ g.old_husks x y
