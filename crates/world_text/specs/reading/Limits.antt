-- What is known of the places that accepted lines lead to, and of a world whose lines are closed.
use Rattle.std.specs.Prelude.{◌≡◌, ℕ, ◌<◌, ◌≤◌, List, [], length, Bool, true, false, Some, ◌==◌, if◌then◌else◌, replicate, sum_by}
use Rattle.std.specs.List.{All}
use Rattle.lisp_graph.specs.Name.{is_name}
use Rattle.lisp_graph.specs.Graph.{PartsReferBelow, RefersBelow, width}
use Rattle.lisp_graph.specs.World.{IsCharge, IsSpace, IsWorld}
use Rattle.lisp_graph.specs.declared.object.Object.{Object}
use Rattle.lisp_graph.specs.declared.world.AreaRule.{AreaRule}
use Rattle.lisp_graph.specs.declared.world.World.{World}
use Rattle.world_text.specs.declared.reading.reader.Section.{Section}
use Rattle.world_text.specs.declared.reading.reader.Section.TheVariants.{Opening, Sizing, FirstArea, Objects, Roots, Closed}
use Rattle.world_text.specs.declared.reading.reader.WorldReader.{WorldReader}
use Rattle.world_text.specs.reading.Numbers.{area_of}
use Rattle.world_text.specs.reading.Reader.{IsReader}
use Rattle.world_text.specs.reading.Header.{room}
use Rattle.world_text.specs.reading.Objects.{charged_of, quota_in, quota_of}
use Rattle.world_text.specs.writing.Spelling.{name_of}

-- each area is found by its name
pub record AreNamed (areas : List AreaRule) : Type 0 where
  pub names : (area : ℕ) → area < length areas → is_name (name_of areas area) ≡ true
  pub found : (area : ℕ) → area < length areas → area_of areas (name_of areas area) ≡ Some area

-- what the objects of an area are charged together
abbrev pub charged_in : ℕ → List Object → ℕ
charged_in area objects = sum_by (λ object. if object.area == area then object.charge else 0) objects

-- an object in one of this many areas, with the charge of its kind
pub record IsPlaced (areas : ℕ) (object : Object) : Type 0 where
  pub within : object.area < areas
  pub charge : IsCharge object.body object.charge
  pub wide : width object.body ≤ 2047

-- each reference in the objects is to one of them
abbrev pub AllRefer : List Object → Type 0
AllRefer objects = All (λ object. PartsReferBelow (length objects) object.body) objects

-- What was read, in each part

abbrev pub has_space : Section → Bool
has_space Opening = false
has_space Sizing = false
has_space _ = true

abbrev pub has_areas : Section → Bool
has_areas Opening = false
has_areas Sizing = false
has_areas FirstArea = false
has_areas _ = true

abbrev pub has_objects : Section → Bool
has_objects Objects = true
has_objects Roots = true
has_objects Closed = true
has_objects _ = false

-- the objects were tested for references to missing ones
abbrev pub has_roots : Section → Bool
has_roots Roots = true
has_roots Closed = true
has_roots _ = false

-- A place that accepted lines lead to.
pub record IsReached (place : WorldReader) : Type 0 where
  pub limits : IsReader place
  pub space : has_space place.part ≡ true → IsSpace place.world.space
  pub capacities : length place.world.space.capacity ≡ 6
  pub some : has_areas place.part ≡ true → 1 ≤ length place.world.areas
  pub none : has_areas place.part ≡ false → place.world.areas ≡ []
  pub room : room place.world.space.levels place.world.areas ≤ place.world.space.regions
  pub quotas : All (λ rule. rule.quota ≤ 1048576) place.world.areas
  pub named : AreNamed place.world.areas
  pub slots : length place.charged ≡ 16
  pub bare : has_objects place.part ≡ false → (place.world.objects ≡ []) × (place.charged ≡ replicate 16 0)
  pub accounts : (area : ℕ) → area < 16 → charged_of place area ≡ charged_in area place.world.objects
  pub leaves : (area : ℕ) → area < length place.world.areas → charged_of place area ≤ quota_of place area
  pub objects : All (IsPlaced (length place.world.areas)) place.world.objects
  pub roots : All (RefersBelow (length place.world.objects)) place.world.roots
  pub refer : has_roots place.part ≡ true → AllRefer place.world.objects

-- A world whose lines were accepted is within the limits, its areas have different names and room, and its objects are within the quotas.
pub record IsAccepted (world : World) : Type 0 where
  pub limits : IsWorld world
  pub capacities : length world.space.capacity ≡ 6
  pub named : AreNamed world.areas
  pub room : room world.space.levels world.areas ≤ world.space.regions
  pub quotas : (area : ℕ) → area < length world.areas → charged_in area world.objects ≤ quota_in world.areas area
