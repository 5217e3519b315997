-- What each mode requests of a world.
use Rattle.std.specs.Prelude.{◌≡◌, ℕ, ◌<◌, ◌≤◌, List, length, map, Result, Ok, Err}
use Rattle.command_words.specs.declared.mode.FileMode.{FileMode}
use Rattle.command_words.specs.declared.mode.FileMode.TheVariants.{Why, Census, Print, Compile}
use Rattle.lisp_graph.specs.declared.world.World.{World}
use Rattle.lisp_graph.specs.Graph.{IsGraph}
use Rattle.lisp_graph.specs.KeyedGraph.{keyed}
use Rattle.lisp_graph.specs.World.{opening}
use Rattle.world_text.specs.Dump.{IsDump}
use Rattle.world_text.specs.Limits.{IsAccepted}
use Rattle.line_input.specs.declared.statuses.status.RunError.{RunError}
use Rattle.line_input.specs.declared.statuses.status.RunError.TheVariants as T
use Rattle.why_held.specs.declared.chain.Why.{Why as Answer}
use Rattle.why_held.specs.declared.rows.CensusRow.{CensusRow}
use Rattle.why_held.specs.Choice.{IsWhy}
use Rattle.why_held.specs.WhyText.{why_text}
use Rattle.why_held.specs.Census.{IsCensus, counted_object}
use Rattle.why_held.specs.CensusText.{census_text}
use Rattle.why_held.specs.Reached.{AreReached, counted_key}
use Rattle.sexpr_print.specs.Spelling.{IsPrint}

-- the text says why an object of the world is held
pub record IsWhyText (world : World) (object : ℕ) (text : List ℕ) : Type 0 where
  pub within : object < length world.objects
  pub answer : Answer
  pub right : IsWhy (opening world) object answer
  pub is : text ≡ why_text answer

-- the text is a census: the rows of all objects of the world, each with the counts of those that the registers reach
pub record IsCensusText (world : World) (text : List ℕ) : Type 0 where
  pub rows : List CensusRow
  pub all : IsCensus (map counted_object world.objects) rows
  pub keys : List ℕ
  pub reached : AreReached (keyed (opening world)) keys
  pub is : text ≡ census_text world.areas (map (counted_key (keyed (opening world))) keys) rows

-- the text is the dump of the world
abbrev pub IsDumpOf : World → List ℕ → Type 0
IsDumpOf world text = IsDump (keyed (opening world)) world.space world.areas text

-- the text that the mode requests of the world
abbrev pub Demands : FileMode → World → List ℕ → Type 0
Demands (Why object) world text = IsWhyText world object text
Demands Census world text = IsCensusText world text
Demands Print world text = IsPrint world text
Demands Compile world text = IsDumpOf world text

-- the mode requests an object that isn't one of the world's
abbrev pub IsMissing : FileMode → World → ℕ → Type 0
IsMissing (Why asked) world object = (asked ≡ object) × (length world.objects ≤ asked)
IsMissing mode world object = ⊥

-- a world that can be dumped: each reference is to one of its objects, each register has a root, and there are at most 6 levels
pub record IsDumpable (world : World) : Type 0 where
  pub graph : IsGraph (opening world)
  pub roots : length world.roots ≡ world.space.registers
  pub levels : world.space.levels ≤ 6

-- a world that the mode can be applied to
abbrev pub IsFor : FileMode → World → Type 0
IsFor Compile world = IsDumpable world
IsFor mode world = IsAccepted world

-- the answer for the world: the text, or that there is no such object; or memory ran out
abbrev pub Answers : FileMode → World → Result (List ℕ) RunError → Type 0
Answers mode world (Ok text) = Demands mode world text
Answers mode world (Err (T.NoObject object)) = IsMissing mode world object
Answers mode world (Err T.Memory) = Unit {0}
Answers mode world (Err _) = ⊥
