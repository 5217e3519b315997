-- A line is accepted if and only if it is the spelling of what it means, and that is allowed in its place.
use Rattle.std.specs.Prelude.{◌≡◌, ◌⊎◌, ℕ, ◌+◌, ◌-◌, ◌*◌, ◌<◌, ◌≤◌, List, [], ◌∷◌, ◌++◌, length, Bool, true, false, not, if◌then◌else◌, replicate, slice_set, None, Ok}
use Rattle.std.specs.List.{All}
use Rattle.store_word.specs.declared.space.Space.{Space}
use Rattle.lisp_graph.specs.Name.{is_name}
use Rattle.lisp_graph.specs.Graph.{RefersBelow}
use Rattle.lisp_graph.specs.declared.object.Value.{Value}
use Rattle.lisp_graph.specs.declared.object.Value.TheVariants.{Nil}
use Rattle.lisp_graph.specs.declared.object.Object.{Object}
use Rattle.lisp_graph.specs.declared.world.AreaRule.{AreaRule}
use Rattle.world_text.specs.declared.fault.WorldStep.{WorldStep}
use Rattle.world_text.specs.declared.fault.WorldStep.TheVariants.{Next, TraceBegins, WorldEnds}
use Rattle.world_text.specs.declared.reading.reader.Section.{Section}
use Rattle.world_text.specs.declared.reading.reader.Section.TheVariants.{Opening, Sizing, FirstArea, Areas, Objects, Roots, Closed}
use Rattle.world_text.specs.declared.reading.reader.WorldReader.{WorldReader}
use Rattle.world_text.specs.reading.Numbers.{area_of}
use Rattle.world_text.specs.reading.Header.{room, rule_room}
use Rattle.lisp_graph.specs.Effect.{list_from, pair_of}
use Rattle.world_text.specs.reading.Objects.{block_with, charged_of, quota_of}
use Rattle.world_text.specs.reading.Closing.{has_root}
use Rattle.world_text.specs.reading.Line.{line_at}
use Rattle.world_text.specs.writing.Spelling.{IsWritten, WorldLine, FormatLine, SpaceLine, AreaLine, CapacityLine, ConsLine, BlockLine, RunLine, RootLine, ClosingLine, spelled}
use Rattle.world_text.specs.reading.Limits.{AllRefer}

-- What may be next

-- an area line may be next
abbrev pub takes_area : Section → Bool
takes_area FirstArea = true
takes_area Areas = true
takes_area _ = false

-- an object line may be next: after the area lines in format 1, and after the capacity line in format 2
abbrev pub takes_object : Bool → Section → Bool
takes_object second Areas = not second
takes_object second Objects = true
takes_object second _ = false

-- a root line or the line that closes the world may be next
abbrev pub takes_root : Bool → Section → Bool
takes_root second Roots = true
takes_root second part = takes_object second part

-- the five sizes in their ranges, and no capacities yet
pub record AreSizes (space : Space) : Type 0 where
  pub regions : (5 ≤ space.regions) × (space.regions ≤ 1024)
  pub frames : (32 ≤ space.frames) × (space.frames ≤ 4096)
  pub registers : (1 ≤ space.registers) × (space.registers ≤ 256)
  pub levels : (1 ≤ space.levels) × (space.levels ≤ 6)
  pub rate : space.rate ≤ 16
  pub capacity : space.capacity ≡ replicate 6 0

-- an area of a new name, for which there is room
pub record IsNewArea (place : WorldReader) (rule : AreaRule) : Type 0 where
  pub few : length place.world.areas < 16
  pub name : is_name rule.name ≡ true
  pub fresh : area_of place.world.areas rule.name ≡ None
  pub quota : rule.quota ≤ 1048576
  pub fits : room place.world.space.levels place.world.areas + rule_room place.world.space.levels rule.quota ≤ place.world.space.regions

-- objects of one of the areas with this charge, which its quota still allows
pub record HasQuota (place : WorldReader) (area wanted : ℕ) : Type 0 where
  pub within : area < length place.world.areas
  pub leaves : charged_of place area + wanted ≤ quota_of place area

-- the first line after the objects finds no reference to a missing object
pub record MayClose (place : WorldReader) : Type 0 where
  pub part : takes_root place.second place.part ≡ true
  pub refer : (place.part ≡ Roots) ⊎ AllRefer place.world.objects

-- a root for a register that has none yet
pub record IsNewRoot (place : WorldReader) (register : ℕ) (value : Value) : Type 0 where
  pub within : register < place.world.space.registers
  pub fresh : has_root place register ≡ false
  pub written : IsWritten value
  pub refers : RefersBelow (length place.world.objects) value

-- what the line means is allowed in this place
abbrev pub IsAllowed : WorldReader → WorldLine → Type 0
IsAllowed place (FormatLine second) = place.part ≡ Opening
IsAllowed place (SpaceLine space) = (place.part ≡ Sizing) × AreSizes space
IsAllowed place (AreaLine rule) = (takes_area place.part ≡ true) × IsNewArea place rule
IsAllowed place (CapacityLine numbers) =
    (place.part ≡ Areas) × (place.second ≡ true) × (length numbers ≡ place.world.space.levels) × All (λ number. number ≤ 16777216) numbers
IsAllowed place (ConsLine area car cdr) =
    (takes_object place.second place.part ≡ true) × IsWritten car × IsWritten cdr × HasQuota place area 2
IsAllowed place (BlockLine area code fields) =
    (takes_object place.second place.part ≡ true) × (code ≤ 65535) × (length fields ≤ 2047) × All IsWritten fields × HasQuota place area (length fields + 1)
IsAllowed place (RunLine area cars) =
    (takes_object place.second place.part ≡ true) × (place.second ≡ true) × (1 ≤ length cars) × (length cars ≤ 1024) × All IsWritten cars × HasQuota place area (3 * length cars)
IsAllowed place (RootLine register value) = MayClose place × IsNewRoot place register value
IsAllowed place (ClosingLine file) = MayClose place × (place.file ≡ file)

-- What it causes

-- the place with these objects added, which are charged to an area
abbrev pub with_objects : WorldReader → ℕ → ℕ → List Object → WorldStep × WorldReader
with_objects place area wanted objects =
    (Next, record place { part = Objects; charged = slice_set place.charged area (charged_of place area + wanted); world = record place.world { objects = place.world.objects ++ objects } })

-- what the line causes, and the place after it
abbrev pub outcome : WorldReader → WorldLine → WorldStep × WorldReader
outcome place (FormatLine second) = (Next, record place { part = Sizing; second = second })
outcome place (SpaceLine space) = (Next, record place { part = FirstArea; world = record place.world { space = space; roots = replicate space.registers Nil } })
outcome place (AreaLine rule) = (Next, record place { part = Areas; world = record place.world { areas = place.world.areas ++ rule ∷ [] } })
outcome place (CapacityLine numbers) = (Next, record place { part = Objects; world = record place.world { space = record place.world.space { capacity = numbers ++ replicate (6 - length numbers) 0 } } })
outcome place (ConsLine area car cdr) = with_objects place area 2 (pair_of area car cdr ∷ [])
outcome place (BlockLine area code fields) = with_objects place area (length fields + 1) (block_with area code fields ∷ [])
outcome place (RunLine area cars) = with_objects place area (3 * length cars) (list_from area (length place.world.objects) cars)
outcome place (RootLine register value) = (Next, record place { part = Roots; world = record place.world { roots = slice_set place.world.roots register value }; rooted = slice_set place.rooted register true })
outcome place (ClosingLine file) = (if file then WorldEnds else TraceBegins, record place { part = Closed })

-- the text spells a line that is allowed here; the line causes this step, and leads to this place
pub record Says (place : WorldReader) (text : List ℕ) (step : WorldStep) (next : WorldReader) : Type 0 where
  pub line : WorldLine
  pub allowed : IsAllowed place line
  pub is : text ≡ spelled place.world.areas line
  pub brings : outcome place line ≡ (step, next)

-- The law above the order of the tests: a line is accepted if and only if it means something.
pub record AcceptsSpellings (place : WorldReader) : Type 0 where
  pub only : (text : List ℕ) (step : WorldStep) (next : WorldReader) → line_at place text ≡ Ok (step, next) → Says place text step next
  pub all : (text : List ℕ) (step : WorldStep) (next : WorldReader) → Says place text step next → line_at place text ≡ Ok (step, next)
