-- What a file means to a mode, and what was read of it.
use Rattle.std.specs.Prelude.{◌≡◌, ◌≤◌, ◌^◌, ℕ, List, [], ◌++◌, length, Option, Result, Ok, Err, IfSome, unwrap_or}
use Rattle.std.specs.Result.{result_map_both}
use Rattle.outer_ports.specs.Ports.{Gave}
use Rattle.command_words.specs.declared.mode.FileMode.{FileMode}
use Rattle.command_words.specs.declared.mode.FileMode.TheVariants.{Compile}
use Rattle.lisp_graph.specs.declared.world.World.{World}
use Rattle.line_input.specs.declared.statuses.status.RunError.TheVariants as T
use Rattle.line_input.specs.Statuses.{IsOfLine}
use Rattle.line_input.specs.Verdict as lines
use Rattle.line_input.specs.WorldFile.{file_rules, start, verdict}
use Rattle.sexpr_text.specs.declared.fault.SexprFault.{SexprFault}
use Rattle.sexpr_text.specs.declared.fault.SexprFault.TheVariants as F
use Rattle.sexpr_text.specs.Meaning.{meaning}
use Rattle.file_modes.specs.declared.trouble.FileError.{FileError}
use Rattle.file_modes.specs.declared.trouble.FileError.TheVariants.{Input, Text}

-- the trouble with a text of S-expressions that, for this reason (`fault`), gives no world
abbrev pub trouble_of : SexprFault → FileError
trouble_of F.NoMemory = Input T.Memory
trouble_of fault = Text fault

-- The world of a file that the mode reads, or the trouble with it: what a text of S-expressions means, or what the lines of a world file mean.
abbrev pub world_of : FileMode → List ℕ → Result World FileError
world_of Compile i = result_map_both (λ world. world) trouble_of (meaning i)
world_of mode i = result_map_both (λ world. world) Input (verdict i)

-- the trouble is with the contents of the file
abbrev pub IsOfFile : FileError → Type 0
IsOfFile (Input trouble) = IsOfLine trouble
IsOfFile (Text fault) = Unit {0}

-- all of the file was read, and this is its world
pub record IsWorldOf (mode : FileMode) (i b : List ℕ) (world : World) : Type 0 where
  pub all : b ≡ i
  pub says : world_of mode i ≡ Ok world

-- The bytes b of a file, which may go on, decide nothing yet: a text of S-expressions is within its limit; no line of a world file is refused.
abbrev pub IsUndecided : FileMode → List ℕ → Type 0
IsUndecided Compile b = length b ≤ 2 ^ 40
IsUndecided mode b = lines.IsUndecided file_rules start b

-- the result of reading the file i, of which the source gave b: its world; that the source failed before b decided anything; that memory ran out; the trouble with its contents
abbrev pub Reads : FileMode → List ℕ → List ℕ → Result World FileError → Type 0
Reads mode i b (Ok world) = IsWorldOf mode i b world
Reads mode i b (Err (Input T.Read)) = IsUndecided mode b
Reads mode i b (Err (Input T.Memory)) = Unit {0}
Reads mode i b (Err trouble) = IsOfFile trouble × (world_of mode i ≡ Err trouble)

-- A file that was read: i is the file, and b what the source gave of it. If the source doesn't report what remains, the file is what it gave.
pub record WasRead (mode : FileMode) (left left' : Option (List ℕ)) (result : Result World FileError) : Type 0 where
  pub i : List ℕ
  pub b : List ℕ
  pub input : IfSome left (λ bytes. bytes ≡ i)
  pub gave : Gave left left' b
  pub rest : i ≡ b ++ unwrap_or left' []
  pub reads : Reads mode i b result
