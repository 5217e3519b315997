-- What a run requires of whatever runs its commands.
use Rattle.std.specs.Prelude.{◌≡◌, Bool, true, false}
use Rattle.lisp_graph.specs.declared.command.Command.{Command}
use Rattle.lisp_graph.specs.declared.command.Command.TheVariants as C
use Rattle.lisp_graph.specs.declared.world.World.{World}
use Rattle.lisp_heap.specs.lisp_meaning.State.{State}

-- a command that replies by a `Reply`: any but `stats` and `dump`
abbrev pub is_replied : Command → Bool
is_replied C.Stats = false
is_replied C.Dump = false
is_replied _ = true

-- a state of a machine of this world: the space and the areas are the world's
pub record IsOf (world : World) (s : State) : Type 0 where
  pub space : s.space ≡ world.space
  pub areas : s.areas ≡ world.areas
