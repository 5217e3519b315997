-- Which levels a flip may name.
use Rattle.std.specs.Prelude.{ℕ, ◌≤◌, ⊤}
use Rattle.store_word.specs.declared.levels.Levels.{Levels}
use Rattle.store_word.specs.Sets.{HasLevel}
use Rattle.lisp_graph.specs.declared.command.Condemn.{Condemn}
use Rattle.lisp_graph.specs.declared.command.Condemn.TheVariants as what
use Rattle.lisp_graph.specs.declared.command.Command.{Command}
use Rattle.lisp_graph.specs.declared.command.Command.TheVariants as C

-- one level at least, and none above this one
pub record AreChosen (top : ℕ) (levels : Levels) : Type 0 where
  pub some : (level : ℕ) × (1 ≤ level) × HasLevel levels.0 level
  pub within : (level : ℕ) → 1 ≤ level → HasLevel levels.0 level → level ≤ top

-- what is condemned is everything, or levels up to this one
abbrev pub CondemnsWithin : ℕ → Condemn → Type 0
CondemnsWithin top what.Full = ⊤
CondemnsWithin top (what.Chosen levels) = AreChosen top levels

-- if the command is a flip, it names levels up to this one only
abbrev pub InLevels : ℕ → Command → Type 0
InLevels top (C.Flip condemned) = CondemnsWithin top condemned
InLevels top _ = ⊤
