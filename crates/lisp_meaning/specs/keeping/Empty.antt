-- A machine before anything was made in it.
use Rattle.std.specs.Prelude.{◌≡◌, ℕ, ◌<◌, [], length, get_or, None}
use Rattle.lisp_graph.specs.store_word.Words.{null_word}
use Rattle.lisp_graph.specs.store_word.declared.word.Content.TheVariants.{Nil as NilWord}
use Rattle.lisp_graph.specs.declared.object.Value.TheVariants as V
use Rattle.lisp_graph.specs.declared.world.World.{World}
use Rattle.lisp_meaning.specs.reading.Image.{Image, word, no_region}
use Rattle.lisp_meaning.specs.invariants.Roles.{RoleMap, Blank}

-- every word is NULL and every region free, nothing is charged, this many registers are nil, and no collection runs
pub record IsEmpty (g : Image) (registers : ℕ) : Type 0 where
  pub words : (a : ℕ) → word g a ≡ null_word
  pub regions : (i : ℕ) → get_or g.regions i no_region ≡ no_region
  pub live_charge : (area level : ℕ) → g.live_charge area level ≡ 0
  pub live_husks : (area level : ℕ) → g.live_husks area level ≡ 0
  pub old_charge : (area level : ℕ) → g.old_charge area level ≡ 0
  pub old_husks : (area level : ℕ) → g.old_husks area level ≡ 0
  pub count : length g.registers ≡ registers
  pub nil : (r : ℕ) → r < registers → (get_or g.registers r null_word).content ≡ NilWord
  pub collection : g.collection ≡ None

-- a world without objects, whose roots are all nil
pub record IsBare (w : World) : Type 0 where
  pub objects : w.objects ≡ []
  pub roots : (r : ℕ) → r < length w.roots → get_or w.roots r V.Nil ≡ V.Nil

-- the map under which no word is for anything
abbrev pub blank_map : RoleMap
blank_map = record { role = λ a. Blank; age = λ a. 0; at = λ n. 0 }
