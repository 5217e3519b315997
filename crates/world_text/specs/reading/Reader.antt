-- A place between two lines of a world: what the lines so far mean.
use Rattle.std.specs.Prelude.{◌≡◌, ◌<◌, ◌≤◌, List, [], length, Bool, true, false, if◌then◌else◌, Result, Ok, Err, replicate}
use Rattle.lisp_graph.specs.declared.world.AreaRule.{AreaRule}
use Rattle.lisp_graph.specs.declared.world.World.{World}
use Rattle.world_text.specs.declared.reading.reason.Reason.{Reason}
use Rattle.world_text.specs.declared.fault.WorldFault.{WorldFault}
use Rattle.world_text.specs.declared.fault.WorldFault.TheVariants.{Bad, TooSmall, Exhausted, NoMemory}
use Rattle.world_text.specs.declared.fault.WorldStep.{WorldStep}
use Rattle.world_text.specs.declared.fault.WorldStep.TheVariants.{Next, TraceBegins, WorldEnds}
use Rattle.world_text.specs.declared.reading.reader.Section.{Section}
use Rattle.world_text.specs.declared.reading.reader.Section.TheVariants.{Opening, Closed}
use Rattle.world_text.specs.declared.reading.reader.WorldReader.{WorldReader}

-- the world before the first line
abbrev pub no_world : World
no_world = record {
  space = record { regions = 0; frames = 0; registers = 0; levels = 0; rate = 0; capacity = replicate 6 0 };
  areas = [];
  objects = [];
  roots = [];
}

-- the place before the first line of an input, or of a world file
abbrev pub opening_place : Bool → WorldReader
opening_place file = record {
  file = file;
  part = Opening;
  second = false;
  world = no_world;
  charged = replicate 16 0;
  rooted = replicate 256 false;
}

-- the line that closes a world was taken
abbrev pub is_closed : Section → Bool
is_closed Closed = true
is_closed _ = false

-- what the line that led to a place has caused
abbrev pub step_to : WorldReader → WorldStep
step_to place = if is_closed place.part then (if place.file then WorldEnds else TraceBegins) else Next

-- A place that lines lead to is within the limits.
pub record IsReader (place : WorldReader) : Type 0 where
  pub areas : length place.world.areas ≤ 16
  pub registers : place.world.space.registers ≤ 256
  pub levels : place.world.space.levels ≤ 6
  pub roots : length place.world.roots ≡ place.world.space.registers

-- what a line means in its place: what it causes and the place after it, or why it is refused
abbrev pub Said : Type 0
Said = Result (WorldStep × WorldReader) WorldFault

-- a refusal is what the line means, or memory ran out
abbrev pub IsRefusal : WorldFault → Said → Type 0
IsRefusal (Bad reason) said = said ≡ Err (Bad reason)
IsRefusal TooSmall said = said ≡ Err TooSmall
IsRefusal (Exhausted area charged wanted quota) said = said ≡ Err (Exhausted area charged wanted quota)
IsRefusal NoMemory said = Unit {0}

-- if the refusal names an area, it is one of these
abbrev pub NamesArea : List AreaRule → WorldFault → Type 0
NamesArea areas (Exhausted area charged wanted quota) = area < length areas
NamesArea areas _ = Unit {0}

-- An accepted line leads to the place that it means; a refused one changes nothing.
abbrev pub Judged : WorldReader → WorldReader → Result WorldStep WorldFault → Said → Type 0
Judged old new (Ok step) said = said ≡ Ok (step, new)
Judged old new (Err fault) said = (new ≡ old) × IsRefusal fault said

-- a reading of words as a reading of a line: a reason becomes a refusal
abbrev pub bad : {A : Type 0} → Result A Reason → Result A WorldFault
bad (Ok x) = Ok x
bad (Err reason) = Err (Bad reason)
