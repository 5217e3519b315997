-- What a walk shows: a graph whose objects are found by keys.
use Rattle.std.specs.Prelude.{◌≡◌, ℕ, ◌==◌, nat_lt, List, length, map, Bool, true, false, if◌then◌else◌}
use Rattle.lisp_graph.specs.declared.object.Value.{Value}
use Rattle.lisp_graph.specs.declared.object.Value.TheVariants as V
use Rattle.lisp_graph.specs.declared.object.Body.{Body}
use Rattle.lisp_graph.specs.declared.object.Body.TheVariants as B
use Rattle.lisp_graph.specs.declared.object.Object.{Object}
use Rattle.lisp_graph.specs.declared.walk.Seen.{Seen}
use Rattle.lisp_graph.specs.declared.walk.Seen.TheVariants.{Fix, Nil, Cons, Block}
use Rattle.lisp_graph.specs.declared.walk.Form.{Form}
use Rattle.lisp_graph.specs.declared.walk.SeenCons.{SeenCons}
use Rattle.lisp_graph.specs.Graph.{Graph, object_at, value_at, width}

-- the registers' values, and the objects: which keys they have, which of them are conses, the form of each, and its fields
pub record KeyedGraph : Type 0 where
  pub registers : List Seen
  pub has : ℕ → Bool
  pub cons : ℕ → Bool
  pub form : ℕ → Form
  pub field : ℕ → ℕ → Seen

-- A value is shown correctly: its key is that of an object, and of the kind that is shown; a cons has two fields and code 0.
abbrev pub Shows : KeyedGraph → Seen → Type 0
Shows graph (Cons key) = (graph.has key ≡ true) × ((graph.form key).length ≡ 2) × ((graph.form key).code ≡ 0) × (graph.cons key ≡ true)
Shows graph (Block key) = (graph.has key ≡ true) × (graph.cons key ≡ false)
Shows graph Nil = Unit {0}
Shows graph (Fix number) = Unit {0}

-- the cons with this key: its area and charge, and its two fields
abbrev pub cons_at : KeyedGraph → ℕ → SeenCons
cons_at graph key = record { area = (graph.form key).area; charge = (graph.form key).charge; car = graph.field key 0; cdr = graph.field key 1 }

-- A graph as a walk shows it: an object's key is its name

-- a cons and a block by their key
abbrev pub seen_body : ℕ → Body → Seen
seen_body key (B.Cons car cdr) = Cons key
seen_body key (B.Block code fields) = Block key

-- a value by the key of its object
abbrev pub keyed_value : List Object → Value → Seen
keyed_value objects (V.Fix number) = Fix number
keyed_value objects V.Nil = Nil
keyed_value objects (V.Ref name) = seen_body name (object_at objects name).body

-- whether an object is a cons
abbrev pub is_cons : Body → Bool
is_cons (B.Cons car cdr) = true
is_cons (B.Block code fields) = false

-- the code of a block, and 0 for a cons
abbrev pub code_of : Body → ℕ
code_of (B.Cons car cdr) = 0
code_of (B.Block code fields) = code

-- what a walk shows of an object
abbrev pub form_of : Object → Form
form_of object = record { area = object.area; code = code_of object.body; length = width object.body; charge = object.charge }

-- a part of an object: of a cons the car, then the cdr
abbrev pub part_of : Body → ℕ → Value
part_of (B.Cons car cdr) index = if index == 0 then car else cdr
part_of (B.Block code fields) index = value_at fields index

-- a graph whose keys are names
abbrev pub keyed : Graph → KeyedGraph
keyed graph = record {
  registers = map (keyed_value graph.objects) graph.registers;
  has = λ key. nat_lt key (length graph.objects);
  cons = λ key. is_cons (object_at graph.objects key).body;
  form = λ key. form_of (object_at graph.objects key);
  field = λ key index. keyed_value graph.objects (part_of (object_at graph.objects key).body index);
}
