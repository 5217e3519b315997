-- What a flip and a reclaim do to classes, words and the table's numbers.
use Rattle.std.specs.Prelude.{◌≡◌, ℕ, suc, ◌<◌, Bool, true, false, not, ◌&&◌, if◌then◌else◌, List, length, get_or}
use Rattle.lisp_graph.specs.store_word.declared.sizes.TheConstants.{MAX_OBJECT_WORDS}
use Rattle.lisp_graph.specs.store_word.Words.{Parts, null_word}
use Rattle.lisp_graph.specs.declared.world.AreaRule.{AreaRule}
use Rattle.lisp_graph.specs.declared.command.Condemn.{Condemn}
use Rattle.lisp_graph.specs.Totals.{total, if_true}
use Rattle.lisp_meaning.specs.machine.State.{rule_of, is_static, condemns}
use Rattle.lisp_meaning.specs.reading.Image.{Free, Old, no_region, Image, word, is_live, is_old, is_free, is_used, used_words}
use Rattle.lisp_meaning.specs.reading.Classes.{Class, classes, is_old_at, of_class, old_of}
use Rattle.lisp_meaning.specs.reading.Marks.{Marks}

-- A flip

-- the classes that a flip condemns: those of condemned levels, in areas that aren't static
abbrev pub condemned_classes : List AreaRule → Condemn → ℕ → ℕ → Bool
condemned_classes areas what area level = not (is_static (rule_of areas area).kind) && condemns what level

-- the classes that pass become old
abbrev pub condemned_class : (ℕ → ℕ → Bool) → Class → Class
condemned_class test c = if is_live c.standing && test c.area c.level then record c { standing = Old } else c

-- the live classes that pass become old, with their charges and husks; no word changes
pub record TableFlipped (g g' : Image) (top : ℕ) (test : ℕ → ℕ → Bool) : Type 0 where
  pub words : (a : ℕ) → word g' a ≡ word g a
  pub classes_old : (i : ℕ) → classes g' i ≡ condemned_class test (classes g i)
  pub used : (a : ℕ) → is_used g' a ≡ is_used g a
  pub live_words : (x y : ℕ) → used_words g' (of_class x y) ≡ if_true (not (test x y)) (used_words g (of_class x y))
  pub old_words : (x : ℕ) → used_words g' (old_of x) ≡ total (λ y. if_true (test x y) (used_words g (of_class x y))) (suc top)
  pub live_charge : (x y : ℕ) → g'.live_charge x y ≡ if_true (not (test x y)) (g.live_charge x y)
  pub old_charge : (x y : ℕ) → g'.old_charge x y ≡ if_true (test x y) (g.live_charge x y)
  pub live_husks : (x y : ℕ) → g'.live_husks x y ≡ if_true (not (test x y)) (g.live_husks x y)
  pub old_husks : (x y : ℕ) → g'.old_husks x y ≡ if_true (test x y) (g.live_husks x y)
  pub chains : (i : ℕ) → i < length g'.regions → is_free (get_or g'.regions i no_region).standing ≡ false → g'.is_last i ≡ false → MAX_OBJECT_WORDS < (get_or g'.regions i no_region).used
  pub marks : Marks g'

-- A reclaim

abbrev pub free_class : Class
free_class = record { area = 0; level = 0; standing = Free }

-- old regions are free
abbrev pub freed : (ℕ → Class) → (ℕ → Class)
freed regions = λ i. if is_old (regions i).standing then free_class else regions i

-- and their words blank
abbrev pub cleared : (ℕ → Class) → (ℕ → Parts) → (ℕ → Parts)
cleared regions W = λ a. if is_old_at regions a then null_word else W a

-- old regions are free and empty, all else is unchanged
pub record TableFreed (g g' : Image) : Type 0 where
  pub words : (a : ℕ) → word g' a ≡ cleared (classes g) (word g) a
  pub classes_free : (i : ℕ) → classes g' i ≡ freed (classes g) i
  pub used_live : (a : ℕ) → is_old_at (classes g) a ≡ false → is_used g' a ≡ is_used g a
  pub used_old : (a : ℕ) → is_old_at (classes g) a ≡ true → is_used g' a ≡ false
  pub live_words : (x y : ℕ) → used_words g' (of_class x y) ≡ used_words g (of_class x y)
  pub old_words : (x : ℕ) → used_words g' (old_of x) ≡ 0
  pub live_charge : (x y : ℕ) → g'.live_charge x y ≡ g.live_charge x y
  pub old_charge : (x y : ℕ) → g'.old_charge x y ≡ 0
  pub live_husks : (x y : ℕ) → g'.live_husks x y ≡ g.live_husks x y
  pub old_husks : (x y : ℕ) → g'.old_husks x y ≡ 0
  pub chains : (i : ℕ) → i < length g'.regions → is_free (get_or g'.regions i no_region).standing ≡ false → g'.is_last i ≡ false → MAX_OBJECT_WORDS < (get_or g'.regions i no_region).used
  pub marks : Marks g'
