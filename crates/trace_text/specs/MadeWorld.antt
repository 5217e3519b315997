-- The world of the generated input.
use Rattle.std.specs.Prelude.{◌≡◌, ℕ, List, [], ◌∷◌, codes, replicate, Ok}
use Rattle.store_word.specs.declared.space.Space.{Space}
use Rattle.lisp_graph.specs.declared.command.Command.{Command}
use Rattle.lisp_graph.specs.declared.command.Command.TheVariants.{Stats}
use Rattle.lisp_graph.specs.declared.world.AreaRule.{AreaRule}
use Rattle.lisp_graph.specs.declared.world.AreaKind.TheVariants.{Static, Dynamic, Ephemeral}
use Rattle.trace_text.specs.Commands.{Run, End, trace_line}
use Rattle.trace_text.specs.Made.{command_line}

abbrev pub made_space : Space
made_space = record { regions = 64; frames = 64; registers = 16; levels = 3; rate = 4; capacity = replicate 6 0 }

abbrev pub made_areas : List AreaRule
made_areas =
    record { name = codes "perm"; kind = Static; quota = 4000 } ∷ record { name = codes "work"; kind = Dynamic; quota = 20000 }
    ∷ record { name = codes "temp"; kind = Ephemeral; quota = 12000 } ∷ []

-- Each generated line after `trace` means a command of this world, except the last two, which are `stats` and `end`.
pub record MadeLinesAreCommands : Type 0 where
  pub each : (state i : ℕ) → (command : Command) × (trace_line made_space made_areas (command_line state i) ≡ Ok (Run command))
  pub stats : trace_line made_space made_areas (codes "stats") ≡ Ok (Run Stats)
  pub last : trace_line made_space made_areas (codes "end") ≡ Ok End
