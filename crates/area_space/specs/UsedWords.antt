-- The used words of the classes after each call.
use Rattle.std.specs.Prelude.{◌≡◌, ◌≢◌, if◌then◌else◌, ℕ, ◌+◌, ◌<◌}
use Rattle.lisp_graph.specs.declared.command.Condemn.{Condemn}
use Rattle.area_space.specs.declared.classes.Origin.{Origin}
use Rattle.area_space.specs.Table.{Table, slots_of, live, stale, IsUnclassed, IsOld}
use Rattle.area_space.specs.Sound.{IsTable}
use Rattle.area_space.specs.Room.{words_of_class}
use Rattle.area_space.specs.Places.{IsEnd, opened}
use Rattle.area_space.specs.Charges.{committed}
use Rattle.area_space.specs.Flips.{condemns, Condemns}
use Rattle.area_space.specs.Frees.{Frees}

-- A region that is opened adds no used words, a commit adds its words to the class of the place and to no other, a flip moves those of a condemned live class to the old one, and a reclaim keeps those of the live classes and leaves none in the old ones.
pub record UsedWordsOfClasses : Type 0 where
  pub opening : (t : Table) (slot region class : ℕ) → IsTable t → slot < slots_of t → IsUnclassed t region
      → words_of_class (opened t (live slot) region) class ≡ words_of_class t class
  pub commit : (t u : Table) (slot at words charge : ℕ) (o : Origin) → IsTable t → IsEnd t slot at words
      → u ≡ record (committed t slot at words charge o) { pages = u.pages }
      → words_of_class u (live slot) ≡ words_of_class t (live slot) + words
  pub others : (t u : Table) (slot at words charge class : ℕ) (o : Origin) → IsTable t → IsEnd t slot at words
      → u ≡ record (committed t slot at words charge o) { pages = u.pages }
      → class ≢ live slot → words_of_class u class ≡ words_of_class t class
  pub flipped_live : (t u : Table) (what : Condemn) (slot : ℕ) → Condemns t u what → slot < slots_of t
      → words_of_class u (live slot) ≡ (if condemns t what slot then 0 else words_of_class t (live slot))
  pub flipped_old : (t u : Table) (what : Condemn) (slot : ℕ) → ((region : ℕ) → IsOld t region → ⊥) → Condemns t u what → slot < slots_of t
      → words_of_class u (stale slot) ≡ (if condemns t what slot then words_of_class t (live slot) else 0)
  pub freed_live : (t u : Table) (slot : ℕ) → IsTable t → Frees t u → slot < slots_of t
      → words_of_class u (live slot) ≡ words_of_class t (live slot)
  pub freed_old : (t u : Table) (slot : ℕ) → Frees t u → slot < slots_of t → words_of_class u (stale slot) ≡ 0
