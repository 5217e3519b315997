-- The places that refer to objects, and which objects are shared.
use Rattle.std.specs.Prelude.{ℕ, List, [], ◌∷◌, ◌++◌, Bool, ◌==◌, ◌&&◌, nat_lt, count_by, flat_map}
use Rattle.std.specs.List.{list_any}
use Rattle.lisp_graph.specs.Graph.{Graph, is_ref, object_at}
use Rattle.lisp_graph.specs.KeyedGraph.{is_cons}
use Rattle.lisp_graph.specs.declared.object.Value.{Value}
use Rattle.lisp_graph.specs.declared.object.Body.{Body}
use Rattle.lisp_graph.specs.declared.object.Body.TheVariants.{Cons, Block}
use Rattle.lisp_graph.specs.declared.object.Object.{Object}

-- what an object holds: the car and the cdr, or the fields
abbrev pub parts : Body → List Value
parts (Cons car cdr) = car ∷ cdr ∷ []
parts (Block code fields) = fields

-- what the registers and the objects with these names hold
abbrev pub held : Graph → List ℕ → List Value
held graph names = graph.registers ++ flat_map (λ name. parts (object_at graph.objects name).body) names

-- An object is shared if more than one of these values refers to it.
abbrev pub is_shared : List Value → ℕ → Bool
is_shared values name = nat_lt 1 (count_by (is_ref name) values)

-- the object is one of these
abbrev pub is_among : List ℕ → ℕ → Bool
is_among names name = list_any (λ other. name == other) names

-- a cons of this area and charge
abbrev pub is_cons_like : ℕ → ℕ → Object → Bool
is_cons_like area charge object = is_cons object.body && object.area == area && object.charge == charge
