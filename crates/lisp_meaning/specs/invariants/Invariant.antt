-- The invariant that every transition keeps. It implies which state a machine represents.
use Rattle.std.specs.Prelude.{◌≡◌, ℕ, suc, ◌+◌, ◌<◌, ◌≤◌, true, false, ◌&&◌, length, get_or, Some, IsTrue}
use Rattle.lisp_graph.specs.store_word.declared.sizes.TheConstants.{MAX_OBJECT_WORDS}
use Rattle.lisp_graph.specs.store_word.Words.{null_word}
use Rattle.lisp_graph.specs.declared.object.Value.TheVariants as V
use Rattle.lisp_graph.specs.Totals.{total}
use Rattle.lisp_meaning.specs.machine.State.{rule_of, State, in_use}
use Rattle.lisp_meaning.specs.machine.Charges.{charges, per_area, account}
use Rattle.lisp_meaning.specs.machine.Sound.{Reach}
use Rattle.lisp_meaning.specs.reading.Image.{Image, word, region, no_region, is_free, is_used, used_words}
use Rattle.lisp_meaning.specs.reading.Classes.{classes, class_at, of_class, old_of, in_class, in_old_class}
use Rattle.lisp_meaning.specs.invariants.Roles.{Blank, Scratch, RoleMap, value_of}
use Rattle.lisp_meaning.specs.invariants.Interpretation.{Interpretation, interpretation}
use Rattle.lisp_meaning.specs.invariants.Fits.{Roled}
use Rattle.lisp_meaning.specs.invariants.ChargesIn.{charges_in, spares_in, husk_word_in}
use Rattle.lisp_meaning.specs.reading.Marks.{Marks}
use Rattle.lisp_meaning.specs.reading.Stands.{Classes, PhaseOf, Work}

-- The used words are those that have a role: a word below a used end isn't blank, all others are, and no word is written without a role.
pub record Covered (g : Image) (k : RoleMap) : Type 0 where
  pub used : (a : ℕ) → IsTrue (is_used g a) → k.role a ≡ Blank → ⊥
  pub unused : (a : ℕ) → is_used g a ≡ false → k.role a ≡ Blank
  pub free : (a : ℕ) → is_free (region g a).standing ≡ true → k.role a ≡ Blank
  pub done : (a : ℕ) → k.role a ≡ Scratch → ⊥

-- in each live class the words of husks, below any bound, are at most the table's husks
abbrev pub HusksFit : Image → RoleMap → Type 0
HusksFit g k = (area level count : ℕ) → total (husk_word_in k (classes g) area level) count ≤ g.live_husks area level

-- the invariant of a memory and its table for what they represent: without registers and counters
pub record MemoryInvariant (g : Image) (it : Interpretation) : Type 0 where
  pub roled : Roled (word g) (classes g) it.map it.store
  pub covered : Covered g it.map
  -- names that are held are below the next name; those condemned or bound are held
  pub names : (n : ℕ) → in_use it.store n → n < length it.store.objects
  pub condemned : (n : ℕ) → IsTrue (it.aim.condemned n) → in_use it.store n
  pub bound : (n : ℕ) → IsTrue (it.aim.bound n) → in_use it.store n
  pub classes_of : Classes g it.top it.store it.aim it.map.at
  pub levels : (n : ℕ) → in_use it.store n → (class_at (classes g) (it.map.at n)).level < suc it.top
  -- the table's numbers, class by class
  pub live_charges : (area level : ℕ) → g.live_charge area level ≡ charges_in it.store it.map.at (classes g) (in_class area level)
  pub old_charges : (area level : ℕ) → g.old_charge area level ≡ charges_in it.store it.map.at (classes g) (in_old_class area level)
  pub live_husks : (area level : ℕ) → g.live_husks area level ≡ it.store.husks area level
  pub old_husks : (area : ℕ) → total (g.old_husks area) (suc it.top) ≡ it.aim.gone area
  pub quota : (a : ℕ) → a < length it.areas → account it.top it.store it.aim a ≤ (rule_of it.areas a).quota
  -- room
  pub room_live : (area level : ℕ) → used_words g (of_class area level) + spares_in it.store it.map (classes g) (in_class area level) ≤ g.live_charge area level + g.live_husks area level
  pub room_husks : HusksFit g it.map
  pub room_old : (area : ℕ) → used_words g (old_of area) ≤ charges it.store (λ n. it.aim.condemned n && per_area it.store area n) + it.aim.gone area
  pub chains : (i : ℕ) → i < length g.regions → is_free (get_or g.regions i no_region).standing ≡ false → g.is_last i ≡ false → MAX_OBJECT_WORDS < (get_or g.regions i no_region).used
  pub marks : Marks g

-- the whole machine
pub record MachineInvariant (g : Image) (k : RoleMap) (s : State) : Type 0 where
  pub kept : MemoryInvariant g (interpretation k s)
  pub count : length g.registers ≡ length s.registers
  pub registers : (r : ℕ) → r < length s.registers → value_of k.role (get_or g.registers r null_word).content ≡ Some (get_or s.registers r V.Nil)
  pub phase : PhaseOf g s.phase
  pub reach : Reach s s.phase
  pub work : Work g s.store k.at s.phase
