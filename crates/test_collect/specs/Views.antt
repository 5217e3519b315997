-- The definitions of this crate on grounds, stated for their views.
use Rattle.std.specs.Prelude.{List, ℕ}
use Rattle.area_space.specs.View.{GroundView}
use Rattle.lisp_graph.specs.declared.reply.Reply.{Reply}
use Rattle.store_word.specs.Words.{Parts}
use Rattle.test_collect.specs.Machines as machines

abbrev pub IsMade : GroundView → List Parts → GroundView → List Parts → ℕ → ℕ → Reply → Type 0
IsMade v registers v' = machines.IsMade v.mem.store v.table registers v'.mem.store v'.table

abbrev pub IsPlayed : GroundView → List Parts → GroundView → List Parts → Type 0
IsPlayed v registers v' = machines.IsPlayed v.mem.store v.table registers v'.mem.store v'.table
