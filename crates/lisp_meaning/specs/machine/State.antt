-- The state of a run: what a program and a collector know, without words and addresses.
use Rattle.std.specs.Prelude.{ℕ, suc, ◌-◌, Bool, true, false, ◌&&◌, ◌==◌, nat_lt, if◌then◌else◌, List, get_or, Option, is_some, IsTrue}
use Rattle.std.specs.Int.{bit_at}
use Rattle.lisp_graph.specs.store_word.declared.space.Space.{Space}
use Rattle.lisp_graph.specs.store_word.declared.levels.Levels.{Levels}
use Rattle.lisp_graph.specs.declared.object.Value.{Value}
use Rattle.lisp_graph.specs.declared.object.Object.{Object}
use Rattle.lisp_graph.specs.declared.world.AreaKind.{AreaKind}
use Rattle.lisp_graph.specs.declared.world.AreaKind.TheVariants.{Static, Dynamic, Ephemeral}
use Rattle.lisp_graph.specs.declared.world.AreaRule.{AreaRule}
use Rattle.lisp_graph.specs.declared.command.Condemn.{Condemn}
use Rattle.lisp_graph.specs.declared.command.Condemn.TheVariants.{Full, Chosen}
use Rattle.lisp_graph.specs.Graph.{object_at}

-- Areas

-- the rule that is read past the last area
abbrev pub no_rule : AreaRule
no_rule = record { name = Rattle.std.specs.Prelude.[]; kind = Static; quota = 0 }

abbrev pub rule_of : List AreaRule → ℕ → AreaRule
rule_of areas a = get_or areas a no_rule

abbrev pub is_static : AreaKind → Bool
is_static Static = true
is_static Dynamic = false
is_static Ephemeral = false

-- the level of a new object in such an area
abbrev pub new_level : AreaKind → ℕ
new_level Ephemeral = 1
new_level Static = 0
new_level Dynamic = 0

-- Levels

-- a level is in a set of levels
abbrev pub has_level : Levels → ℕ → Bool
has_level levels level = nat_lt 0 level && bit_at levels.0 (level - 1) == 1

-- a flip of this condemns the level
abbrev pub condemns : Condemn → ℕ → Bool
condemns Full level = true
condemns (Chosen levels) level = has_level levels level

-- the level of a survivor of this level; `top` is the greatest level
abbrev pub survivor : ℕ → Condemn → ℕ → ℕ
survivor top Full level = 0
survivor top (Chosen levels) level = if nat_lt level top then suc level else 0

-- Phases

-- the aim of a collection, which its flip fixes: what was condemned, the names condemned, the names bound, the base pages to scan, and by area the words of husks condemned
pub record Condemned : Type 0 where
  pub what : Condemn
  pub condemned : ℕ → Bool
  pub bound : ℕ → Bool
  pub pages : ℕ
  pub gone : ℕ → ℕ

-- the aim while no collection runs: nothing is condemned, bound or gone
abbrev pub no_aim : Condemned
no_aim = record { what = Full; condemned = λ n. false; bound = λ n. false; pages = 0; gone = λ a. 0 }

-- a collection that runs: its aim, the work owed, the work paid, and whether its scan has finished (`over`)
pub record Collection : Type 0 where
  pub aim : Condemned
  pub owed : ℕ
  pub paid : ℕ
  pub over : Bool

pub data Phase : Type 0 where
  Idle : Phase
  Running : Collection → Phase

abbrev pub aim_of : Phase → Condemned
aim_of Idle = no_aim
aim_of (Running c) = c.aim

abbrev pub is_over : Phase → Bool
is_over Idle = false
is_over (Running c) = c.over

abbrev pub is_idle : Phase → Bool
is_idle Idle = true
is_idle (Running c) = false

-- States

-- the store that a memory represents: the objects by their names, the level of each name that is held, and the words of husks by area and level
pub record Store : Type 0 where
  pub objects : List Object
  pub held : ℕ → Option ℕ
  pub husks : ℕ → ℕ → ℕ

-- the whole state; the sizes and the areas never change
pub record State : Type 0 where
  pub space : Space
  pub areas : List AreaRule
  pub registers : List Value
  pub store : Store
  pub phase : Phase

abbrev pub object : Store → ℕ → Object
object s n = object_at s.objects n

abbrev pub is_held : Store → ℕ → Bool
is_held s n = is_some (s.held n)

-- the name is held
abbrev pub in_use : Store → ℕ → Type 0
in_use s n = IsTrue (is_held s n)
