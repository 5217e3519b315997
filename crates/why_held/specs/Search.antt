-- What a search of a graph has found, from the registers on, level by level.
use Rattle.std.specs.Prelude.{◌≡◌, ℕ, suc, ◌+◌, ◌≤◌, List, [], ◌∷◌, ◌++◌, length, true, Option, Some, None, IsSome, sum_by, flat_map}
use Rattle.std.specs.List.{Contains}
use Rattle.lisp_graph.specs.declared.object.Value.{Value}
use Rattle.lisp_graph.specs.declared.object.Body.{Body}
use Rattle.lisp_graph.specs.declared.object.Body.TheVariants.{Cons, Block}
use Rattle.lisp_graph.specs.declared.object.Object.{Object}
use Rattle.lisp_graph.specs.Graph.{Graph, object_at, refers_in, body_refers}
use Rattle.why_held.specs.declared.search.Search.{Search}
use Rattle.why_held.specs.Chains.{depth_at}

-- Parts

-- the values in the parts of an object, in their order
abbrev pub parts_of : Body → List Value
parts_of (Cons car cdr) = car ∷ cdr ∷ []
parts_of (Block code fields) = fields

-- those of the objects with these names
abbrev pub all_parts : List Object → List ℕ → List Value
all_parts objects names = flat_map (λ name. parts_of (object_at objects name).body) names

-- What was found

-- 1 for an object that was found
abbrev pub one_where : Option ℕ → ℕ
one_where None = 0
one_where (Some depth) = 1

-- how many objects were found
abbrev pub found_in : List (Option ℕ) → ℕ
found_in depths = sum_by one_where depths

-- an object was found by the later of two lists of depths
abbrev pub IsNew : List (Option ℕ) → List (Option ℕ) → ℕ → Type 0
IsNew old new object = (depth_at old object ≡ None) × IsSome (depth_at new object)

-- the objects to which these values refer are found; those that weren't found before get this depth
pub record Finds (depth : ℕ) (values : List Value) (old new : Search) : Type 0 where
  pub size : length new.depths ≡ length old.depths
  pub kept : (object before : ℕ) → depth_at old.depths object ≡ Some before → depth_at new.depths object ≡ Some before
  pub finds : (object : ℕ) → refers_in object values ≡ true → IsSome (depth_at new.depths object)
  pub deep : (object : ℕ) → IsNew old.depths new.depths object → depth_at new.depths object ≡ Some depth
  pub only : (object : ℕ) → IsNew old.depths new.depths object → refers_in object values ≡ true
  pub added : List ℕ
  pub grows : new.found ≡ old.found ++ added
  pub lists : (object : ℕ) → IsNew old.depths new.depths object → Contains added object
  pub listed : (object : ℕ) → Contains added object → IsNew old.depths new.depths object
  pub counts : length added + found_in old.depths ≡ found_in new.depths

-- Depths by their neighbours

-- a depth of at most this
abbrev pub IsWithin : ℕ → Option ℕ → Type 0
IsWithin most None = ⊥
IsWithin most (Some depth) = depth ≤ most

-- the objects to which these values refer have a depth of at most this
abbrev pub AreWithin : List (Option ℕ) → ℕ → List Value → Type 0
AreWithin depths most values = (object : ℕ) → refers_in object values ≡ true → IsWithin most (depth_at depths object)

-- a reference in this object leads at most one deeper
abbrev pub IsNextWithin : List Object → List (Option ℕ) → ℕ → Type 0
IsNextWithin objects depths from = (to depth : ℕ) → depth_at depths from ≡ Some depth → body_refers to (object_at objects from).body ≡ true → IsWithin (suc depth) (depth_at depths to)

-- this is so for each object
abbrev pub AreNextWithin : List Object → List (Option ℕ) → Type 0
AreNextWithin objects depths = (from : ℕ) → IsNextWithin objects depths from

-- the objects in the registers have depth 0, and a reference leads at most one deeper
pub record AreBounds (graph : Graph) (depths : List (Option ℕ)) : Type 0 where
  pub roots : AreWithin depths 0 graph.registers
  pub next : AreNextWithin graph.objects depths

-- this is so, and a register refers to each object that has a depth, or an object that is one less deep does
pub record AreLevels (graph : Graph) (depths : List (Option ℕ)) : Type 0 where
  pub each : length depths ≡ length graph.objects
  pub bounds : AreBounds graph depths
  pub first : (object : ℕ) → depth_at depths object ≡ Some 0 → refers_in object graph.registers ≡ true
  pub before : (to depth : ℕ) → depth_at depths to ≡ Some (suc depth)
      → (from : ℕ) × (depth_at depths from ≡ Some depth) × (body_refers to (object_at graph.objects from).body ≡ true)
