-- What is read when the lines of a dump are read again.
use Rattle.std.specs.Prelude.{◌≡◌, ℕ, ◌<◌, ◌≤◌, ◌^◌, pos, negsuc, ⊤, List, [], ◌∷◌, ◌++◌, length, map, flat_map, codes, Bool, true, false, if◌then◌else◌, Result, Ok}
use Rattle.std.specs.List.{All}
use Rattle.trace_text.specs.store_word.declared.space.Space.{Space}
use Rattle.trace_text.specs.lisp_graph.KeyedGraph.{KeyedGraph, keyed}
use Rattle.trace_text.specs.lisp_graph.World.{opening}
use Rattle.trace_text.specs.lisp_graph.declared.walk.Seen.{Seen}
use Rattle.trace_text.specs.lisp_graph.declared.walk.Seen.TheVariants.{Fix, Nil, Cons, Block}
use Rattle.trace_text.specs.lisp_graph.declared.world.AreaRule.{AreaRule}
use Rattle.trace_text.specs.lisp_graph.declared.world.World.{World}
use Rattle.trace_text.specs.lisp_graph.declared.command.Command.TheVariants.{Dump}
use Rattle.trace_text.specs.world_text.declared.fault.WorldFault.{WorldFault}
use Rattle.trace_text.specs.world_text.declared.fault.WorldStep.TheVariants.{TraceBegins, WorldEnds}
use Rattle.trace_text.specs.world_text.declared.reading.reader.Section.TheVariants.{Closed}
use Rattle.trace_text.specs.world_text.declared.reading.reader.WorldReader.{WorldReader}
use Rattle.trace_text.specs.world_text.Next.{◌>>=◌}
use Rattle.trace_text.specs.world_text.Reader.{opening_place}
use Rattle.trace_text.specs.world_text.Closing.{closing_word}
use Rattle.trace_text.specs.world_text.Line.{line_at}
use Rattle.trace_text.specs.world_text.Objects.{quota_in}
use Rattle.trace_text.specs.world_text.Limits.{IsAccepted, charged_in}
use Rattle.trace_text.specs.world_text.Numbering.{fields_of}
use Rattle.trace_text.specs.world_text.Dump.{IsDump, dumped_object, dumped_value}
use Rattle.trace_text.specs.Commands.{Run, End, trace_line}
use Rattle.dump_laws.specs.Loaded.{loaded}

-- Lines

-- the place after these lines, or why the first refused one is refused
unfoldable pub read_from : WorldReader → List (List ℕ) → Result WorldReader WorldFault
read_from place [] = Ok place
read_from place (line ∷ lines) = line_at place line >>= (λ said. read_from said.1 lines)

-- lines, each with its line feed
abbrev pub with_feeds : List (List ℕ) → List ℕ
with_feeds lines = flat_map (λ line. line ++ 10 ∷ []) lines

-- at most 32,768 bytes, of which none is a line feed
pub record IsLine (line : List ℕ) : Type 0 where
  pub short : length line ≤ 32768
  pub graphic : All (λ byte. (32 ≤ byte) × (byte ≤ 126)) line

-- the lines of an input before `trace`, or of a world file before `end-world`, mean this world
pub record SayWorld (file : Bool) (lines : List (List ℕ)) (world : World) : Type 0 where
  pub place : WorldReader
  pub read : read_from (opening_place file) lines ≡ Ok place
  pub closes : line_at place (closing_word file) ≡ Ok (if file then WorldEnds else TraceBegins, record place { part = Closed })
  pub is : place.world ≡ world

-- What a dump needs so that it can be read

-- an integer that a word can spell
abbrev pub IsInteger : Seen → Type 0
IsInteger (Fix (pos number)) = number < 2 ^ 31
IsInteger (Fix (negsuc number)) = number < 2 ^ 31
IsInteger Nil = ⊤
IsInteger (Cons key) = ⊤
IsInteger (Block key) = ⊤

-- the object with this key is within the limits of a machine with this many areas
pub record IsWithin (areas : ℕ) (graph : KeyedGraph) (key : ℕ) : Type 0 where
  pub area : (graph.form key).area < areas
  pub code : (graph.form key).code ≤ 65535
  pub wide : (graph.form key).length ≤ 2047
  pub integers : All IsInteger (fields_of graph key)

-- the world that the lines of the dump mean, if the objects have these numbers
abbrev pub read_world : KeyedGraph → List ℕ → Space → List AreaRule → World
read_world graph keys space areas = record {
  space = space;
  areas = areas;
  objects = loaded (map (dumped_object graph keys) keys);
  roots = map (dumped_value keys) graph.registers;
}

-- The space and the areas are those of an accepted world, the objects are within the limits, and their charges as read fit the quotas.
pub record KeepsLimits (graph : KeyedGraph) (keys : List ℕ) (space : Space) (areas : List AreaRule) : Type 0 where
  pub accepted : (world : World) × IsAccepted world × (world.space ≡ space) × (world.areas ≡ areas)
  pub registers : length graph.registers ≡ space.registers
  pub integers : All IsInteger graph.registers
  pub objects : All (IsWithin (length areas) graph) keys
  pub quotas : (area : ℕ) → area < length areas → charged_in area (read_world graph keys space areas).objects ≤ quota_in areas area

-- The text is a world file. Its lines are accepted, and also as an input's, followed by `trace`, `dump` and `end`; the world that they mean has the same dump, and no other.
pub record IsReadBack (graph : KeyedGraph) (keys : List ℕ) (space : Space) (areas : List AreaRule) (text : List ℕ) : Type 0 where
  pub lines : List (List ℕ)
  pub is : text ≡ with_feeds (lines ++ codes "end-world" ∷ [])
  pub cut : All IsLine lines
  pub short : length text ≤ 2 ^ 30
  pub file : SayWorld true lines (read_world graph keys space areas)
  pub input : SayWorld false lines (read_world graph keys space areas)
  pub dumps : trace_line space areas (codes "dump") ≡ Ok (Run Dump)
  pub ends : trace_line space areas (codes "end") ≡ Ok End
  pub world : IsAccepted (read_world graph keys space areas)
  pub same : IsDump (keyed (opening (read_world graph keys space areas))) space areas text
  pub only : (other : List ℕ) → IsDump (keyed (opening (read_world graph keys space areas))) space areas other → other ≡ text
