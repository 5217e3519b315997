-- What a dump keeps of a walk while it numbers objects, so that each cons is read once.
use Rattle.std.specs.Prelude.{◌≡◌, ℕ, ◌≤◌, List, ◌++◌, if◌then◌else◌, Option, Some, None, drop, length, map}
use Rattle.std.specs.List.{All}
use Rattle.lisp_graph.specs.KeyedGraph.{KeyedGraph, Shows, cons_at}
use Rattle.lisp_graph.specs.declared.object.Value.{Value}
use Rattle.lisp_graph.specs.declared.object.Object.{Object}
use Rattle.lisp_graph.specs.declared.walk.Seen.{Seen}
use Rattle.lisp_graph.specs.declared.walk.SeenCons.{SeenCons}
use Rattle.world_text.specs.declared.writing.visit.VisitedObjects.{VisitedObjects}
use Rattle.lisp_graph.specs.declared.world.AreaRule.{AreaRule}
use Rattle.world_text.specs.writing.File.{object_lines_of, text_of}
use Rattle.world_text.specs.writing.Numbering.{AllVisited, IsNumbering, Visited, Walked, fields_of, seen_as}
use Rattle.world_text.specs.writing.Dump.{dumped_object, dumped_value}

-- a cons is kept as the walk shows it
abbrev pub kept_of : KeyedGraph → ℕ → Option SeenCons
kept_of graph key = if graph.cons key then Some (cons_at graph key) else None

-- both parts of a cons are shown correctly
abbrev pub ShowsParts : KeyedGraph → Option SeenCons → Type 0
ShowsParts graph (Some cons) = Shows graph cons.car × Shows graph cons.cdr
ShowsParts graph None = Unit {0}

-- the objects that have numbers are known, and so is what each cons among those that wait contains
pub record AreVisits (graph : KeyedGraph) (visits : VisitedObjects) : Type 0 where
  pub known : All (λ key. Shows graph (seen_as (graph.cons key) key)) visits.keys
  pub within : visits.taken ≤ length visits.keys
  pub waiting : visits.waiting ≡ drop visits.taken (map (kept_of graph) visits.keys)
  pub shown : All (ShowsParts graph) visits.waiting

-- more keys get numbers, and those before keep theirs
pub record Grows (keys all : List ℕ) : Type 0 where
  pub later : List ℕ
  pub is : all ≡ keys ++ later

-- a value is visited: it has its number, and keeps it when others get one; no object is taken
pub record IsVisit (graph : KeyedGraph) (seen : Seen) (old new : VisitedObjects) (value : Value) : Type 0 where
  pub visited : Visited graph old.keys seen new.keys
  pub visits : AreVisits graph new
  pub same : new.taken ≡ old.taken
  pub is : (all : List ℕ) → Grows new.keys all → value ≡ dumped_value all seen

-- values are visited, one after another
pub record AreVisited (graph : KeyedGraph) (seen : List Seen) (old new : VisitedObjects) (values : List Value) : Type 0 where
  pub visited : AllVisited graph old.keys seen new.keys
  pub visits : AreVisits graph new
  pub shown : All (Shows graph) seen
  pub same : new.taken ≡ old.taken
  pub is : (all : List ℕ) → Grows new.keys all → values ≡ map (dumped_value all) seen

-- an object is visited
pub record IsDumped (graph : KeyedGraph) (key : ℕ) (old new : VisitedObjects) (object : Object) : Type 0 where
  pub visited : AllVisited graph old.keys (fields_of graph key) new.keys
  pub visits : AreVisits graph new
  pub shown : All (Shows graph) (fields_of graph key)
  pub is : (all : List ℕ) → Grows new.keys all → object ≡ dumped_object graph all key

-- the objects that have numbers are visited, until all that are reached have one
pub record AreDumped (graph : KeyedGraph) (old new : VisitedObjects) (objects : List Object) : Type 0 where
  pub visited : Walked graph old.keys 0 new.keys
  pub visits : AreVisits graph new
  pub shown : All (λ key. All (Shows graph) (fields_of graph key)) new.keys
  pub is : objects ≡ map (dumped_object graph new.keys) new.keys

-- the objects that have numbers are visited, until all that are reached have one, and their lines are written after this text. (Six parameters: the graph with its areas, and the visited objects and the text, each before and after; they are separate values.)
pub record WritesObjects (graph : KeyedGraph) (areas : List AreaRule) (old new : VisitedObjects) (before after : List ℕ) : Type 0 where
  pub objects : List Object
  pub dumped : AreDumped graph old new objects
  pub text : after ≡ before ++ text_of areas (object_lines_of 0 0 objects)

-- the objects in the order of their numbers, and the registers, as a dump writes them
pub record IsWalk (graph : KeyedGraph) (keys : List ℕ) (objects : List Object) (registers : List Value) : Type 0 where
  pub numbering : IsNumbering graph keys
  pub known : All (λ key. Shows graph (seen_as (graph.cons key) key)) keys
  pub objects_are : objects ≡ map (dumped_object graph keys) keys
  pub registers_are : registers ≡ map (dumped_value keys) graph.registers
  pub fields_shown : All (λ key. All (Shows graph) (fields_of graph key)) keys
  pub registers_shown : All (Shows graph) graph.registers
