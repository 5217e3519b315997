-- What an accepted input is: the lines of its commands, and `end`.
use Rattle.std.specs.Prelude.{◌≡◌, ◌⊎◌, ℕ, ◌≤◌, ◌^◌, List, [], ◌∷◌, ◌++◌, length, true, codes, flat_map, Ok}
use Rattle.std.specs.List.{All}
use Rattle.lisp_graph.specs.declared.world.World.{World}
use Rattle.lisp_graph.specs.Name.{is_name}
use Rattle.line_input.specs.WorldFile.{verdict as world_verdict}
use Rattle.band_run.specs.declared.reading.command.BandCommand.{BandCommand}
use Rattle.band_run.specs.declared.reading.command.BandCommand.TheVariants as C
use Rattle.band_run.specs.Verdict.{verdict}

-- the lines of a command, each with its line feed
abbrev pub command_lines : BandCommand → List ℕ
command_lines C.Open = codes "open" ++ 10 ∷ []
command_lines (C.Save name text) = codes "save " ++ (name ++ 10 ∷ text)
command_lines (C.Load name) = codes "load " ++ (name ++ 10 ∷ [])
command_lines C.List = codes "list" ++ 10 ∷ []

-- the text is that of a world file, and its last line ends with a line feed
pub record IsWholeFile (text : List ℕ) : Type 0 where
  pub world : World
  pub says : world_verdict text ≡ Ok world
  pub front : List ℕ
  pub feed : text ≡ front ++ 10 ∷ []

-- the command's name is valid, and what it saves is a whole world file
abbrev pub IsAllowed : BandCommand → Type 0
IsAllowed (C.Save name text) = (is_name name ≡ true) × IsWholeFile text
IsAllowed (C.Load name) = is_name name ≡ true
IsAllowed _ = Unit {0}

-- The input is the lines of these commands and `end`, with its line feed or without, in at most 2^40 bytes.
pub record Spells (commands : List BandCommand) (input : List ℕ) : Type 0 where
  pub each : All IsAllowed commands
  pub within : length input ≤ 2 ^ 40
  pub feed : List ℕ
  pub last : (feed ≡ 10 ∷ []) ⊎ (feed ≡ [])
  pub is : input ≡ flat_map command_lines commands ++ (codes "end" ++ feed)

-- The law about the fold over lines: an accepted input is a spelling of its commands, and each spelling is accepted.
pub record AcceptsSpellings : Type 0 where
  pub only : (input : List ℕ) (commands : List BandCommand) → verdict input ≡ Ok commands → Spells commands input
  pub all : (input : List ℕ) (commands : List BandCommand) → Spells commands input → verdict input ≡ Ok commands
