-- Chains of references: a register that refers to an object, and references from object to object.
use Rattle.std.specs.Prelude.{◌≡◌, ℕ, ◌-◌, ◌<◌, ◌≤◌, List, [], ◌∷◌, length, Option, Some, None, slice_index_or}
use Rattle.lisp_graph.specs.declared.object.Value.{Value}
use Rattle.lisp_graph.specs.declared.object.Value.TheVariants.{Nil, Ref}
use Rattle.lisp_graph.specs.declared.object.Body.{Body}
use Rattle.lisp_graph.specs.declared.object.Body.TheVariants.{Cons, Block}
use Rattle.lisp_graph.specs.declared.object.Object.{Object}
use Rattle.lisp_graph.specs.Graph.{Graph, object_at, value_at}
use Rattle.why_held.specs.declared.chain.Part.{Part}
use Rattle.why_held.specs.declared.chain.Part.TheVariants.{Root, Car, Cdr, Field}
use Rattle.why_held.specs.declared.chain.Hop.{Hop}
use Rattle.why_held.specs.declared.chain.Held.{Held}
use Rattle.why_held.specs.declared.chain.Held.TheVariants.{Path, Free}

-- Chains

-- the value in a part of an object; nil if it has no such part
abbrev pub value_in : Body → Part → Value
value_in (Cons car cdr) Car = car
value_in (Cons car cdr) Cdr = cdr
value_in (Block code fields) (Field index) = value_at fields index
value_in body part = Nil

-- the value in the register that is named
abbrev pub register_value : List Value → Part → Value
register_value registers (Root register) = value_at registers register
register_value registers part = Nil

-- the part of one object that the hop names refers to the object to which the hop leads
abbrev pub Refers : List Object → ℕ → Hop → Type 0
Refers objects from hop = value_in (object_at objects from).body hop.part ≡ Ref hop.to

-- references, each from a part of the object reached so far, lead from one object to another
abbrev pub Leads : List Object → ℕ → List Hop → ℕ → Type 0
Leads objects from [] to = from ≡ to
Leads objects from (hop ∷ hops) to = Refers objects from hop × Leads objects hop.to hops to

-- A chain to an object: a register that refers to an object, followed by references that lead from it to the object.
abbrev pub IsChain : Graph → List Hop → ℕ → Type 0
IsChain graph [] object = ⊥
IsChain graph (hop ∷ hops) object = (register_value graph.registers hop.part ≡ Ref hop.to) × Leads graph.objects hop.to hops object

-- Depths

-- the length of a chain: how many references follow the register
abbrev pub references : List Hop → ℕ
references hops = length hops - 1

-- a chain to an object, and no chain to it is shorter
pub record IsShortest (graph : Graph) (hops : List Hop) (object : ℕ) : Type 0 where
  pub chain : IsChain graph hops object
  pub least : (others : List Hop) → IsChain graph others object → references hops ≤ references others

-- no chain leads to the object
abbrev pub IsFree : Graph → ℕ → Type 0
IsFree graph object = (hops : List Hop) → IsChain graph hops object → ⊥

-- the depth of an object is the length of its shortest chain; it has none if it has no chain
abbrev pub HasDepth : Graph → ℕ → Option ℕ → Type 0
HasDepth graph object None = IsFree graph object
HasDepth graph object (Some depth) = (hops : List Hop) × IsShortest graph hops object × (references hops ≡ depth)

-- the depth of an object in a list of depths
abbrev pub depth_at : List (Option ℕ) → ℕ → Option ℕ
depth_at depths object = slice_index_or depths object None

-- the depths of all objects, in the order of their numbers
pub record AreDepths (graph : Graph) (depths : List (Option ℕ)) : Type 0 where
  pub each : length depths ≡ length graph.objects
  pub right : (object : ℕ) → object < length graph.objects → HasDepth graph object (depth_at depths object)

-- a shortest chain to the object, or `Free` if there is none
abbrev pub IsHeld : Graph → ℕ → Held → Type 0
IsHeld graph object (Path hops) = IsShortest graph hops object
IsHeld graph object Free = IsFree graph object
