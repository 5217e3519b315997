-- Which of the shortest chains is the answer: it is chosen backwards, from the object to the register.
use Rattle.std.specs.Prelude.{◌≡◌, ℕ, suc, ◌<◌, List, [], ◌∷◌, Bool, true, false, ◌==◌, ◌&&◌, Option, Some, ⊤}
use Rattle.lisp_graph.specs.declared.object.Value.TheVariants.{Ref}
use Rattle.lisp_graph.specs.declared.object.Body.{Body}
use Rattle.lisp_graph.specs.declared.object.Object.{Object}
use Rattle.lisp_graph.specs.Graph.{Graph, object_at, value_at, is_ref, body_refers}
use Rattle.lisp_graph.specs.KeyedGraph.{part_of}
use Rattle.why_held.specs.declared.chain.Part.{Part}
use Rattle.why_held.specs.declared.chain.Part.TheVariants.{Root, Car, Cdr, Field}
use Rattle.why_held.specs.declared.chain.Hop.{Hop}
use Rattle.why_held.specs.declared.chain.Held.{Held}
use Rattle.why_held.specs.declared.chain.Held.TheVariants.{Path, Free}
use Rattle.why_held.specs.declared.chain.Why.{Why}
use Rattle.why_held.specs.Chains.{AreDepths, IsHeld, depth_at, value_in}

-- the least number that passes the test
abbrev pub IsFirst : (ℕ → Bool) → ℕ → Type 0
IsFirst test number = (test number ≡ true) × ((less : ℕ) → less < number → test less ≡ false)

-- the place of a part among those of its object: the car before the cdr, and the fields in their order
abbrev pub place_of : Part → ℕ
place_of (Root register) = register
place_of Car = 0
place_of Cdr = 1
place_of (Field index) = index

-- the first part of an object that refers to another one
pub record IsFirstPart (body : Body) (to : ℕ) (part : Part) : Type 0 where
  pub stands : value_in body part ≡ Ref to
  pub first : IsFirst (λ place. is_ref to (part_of body place)) (place_of part)

-- the first depth is one less than the second
abbrev pub is_one_less : Option ℕ → Option ℕ → Bool
is_one_less (Some less) (Some more) = suc less == more
is_one_less _ _ = false

-- an object that is one less deep refers to another
abbrev pub is_nearer : List Object → List (Option ℕ) → ℕ → ℕ → Bool
is_nearer objects depths to from = is_one_less (depth_at depths from) (depth_at depths to) && body_refers to (object_at objects from).body

-- a reference is from the lowest numbered object that is one less deep, and from the first of its parts that refer to the object
pub record IsFirstReference (objects : List Object) (depths : List (Option ℕ)) (from : ℕ) (hop : Hop) : Type 0 where
  pub object : IsFirst (is_nearer objects depths hop.to) from
  pub part : IsFirst (λ place. is_ref hop.to (part_of (object_at objects from).body place)) (place_of hop.part)

-- this is so for each of these references, which follow one another
abbrev pub AreFirstReferences : List Object → List (Option ℕ) → ℕ → List Hop → Type 0
AreFirstReferences objects depths from [] = ⊤
AreFirstReferences objects depths from (hop ∷ hops) = IsFirstReference objects depths from hop × AreFirstReferences objects depths hop.to hops

-- the lowest register that refers to the first object, and after it such references
abbrev pub IsChosen : Graph → List (Option ℕ) → List Hop → Type 0
IsChosen graph depths [] = ⊥
IsChosen graph depths (hop ∷ hops) =
    IsFirst (λ register. is_ref hop.to (value_at graph.registers register)) (place_of hop.part) × AreFirstReferences graph.objects depths hop.to hops

abbrev pub IsChosenPath : Graph → List (Option ℕ) → Held → Type 0
IsChosenPath graph depths (Path hops) = IsChosen graph depths hops
IsChosenPath graph depths Free = ⊤

-- Why an object is held: a shortest chain to it or that there is none, which chain that is, and the depths of all objects.
pub record IsWhy (graph : Graph) (object : ℕ) (why : Why) : Type 0 where
  pub held : IsHeld graph object why.held
  pub chosen : IsChosenPath graph why.depths why.held
  pub depths : AreDepths graph why.depths
