-- What words show to one who follows forwards and knows of no name: a graph whose names are addresses.
use Rattle.std.specs.Prelude.{ℕ, zero, suc, ◌+◌, ◌==◌, if◌then◌else◌, List, length, map, Option, Some, None, Bool}
use Rattle.std.specs.List.{range_with_len}
use Rattle.store_word.specs.Words.{Parts}
use Rattle.store_word.specs.declared.word.Content.{Content}
use Rattle.store_word.specs.declared.word.Content.TheVariants.{Fixnum, List as ListAt, Struct as StructAt, Header}
use Rattle.lisp_graph.specs.declared.object.Value.{Value}
use Rattle.lisp_graph.specs.declared.object.Value.TheVariants as V
use Rattle.lisp_graph.specs.declared.object.Body.{Body}
use Rattle.lisp_graph.specs.declared.object.Body.TheVariants.{Cons, Block}
use Rattle.lisp_graph.specs.declared.object.Object.{Object}
use Rattle.lisp_graph.specs.declared.walk.Form.{Form}
use Rattle.lisp_graph.specs.declared.walk.SeenCons.{SeenCons}
use Rattle.lisp_graph.specs.declared.walk.Seen.{Seen}
use Rattle.lisp_graph.specs.Graph.{Graph, object_at, refers_in, width}
use Rattle.lisp_graph.specs.KeyedGraph.{KeyedGraph, is_cons, keyed, keyed_value, form_of, part_of}
use Rattle.mem_port.specs.Store.{Store}
use Rattle.area_space.specs.Table.{Table}
use Rattle.lisp_ground.specs.lisp_meaning.Image.{region}
use Rattle.lisp_ground.specs.lisp_meaning.Reach.{closure}
use Rattle.obj_layout.specs.Forwards.{word_at, forward_of}
use Rattle.obj_layout.specs.Shapes.{charge_at}
use Rattle.lisp_ground.specs.Image.{ground_image}
use Rattle.lisp_ground.specs.Leading.{car_in, cdr_in}

-- Places

abbrev pub onward : Option ℕ → ℕ → (ℕ → ℕ) → ℕ
onward None at rest = at
onward (Some next) at rest = rest next

-- the address to which at most this number of forwards lead
unfoldable pub led : ℕ → List Parts → ℕ → ℕ
led zero words at = at
led (suc n) words at = onward (forward_of (word_at words at).content) at (led n words)

-- the place to which an address leads
abbrev pub place_of : List Parts → ℕ → ℕ
place_of words at = led 12 words at

-- What is at a place

-- a value by the place of its object
abbrev pub value_in : List Parts → Content → Value
value_in words (Fixnum i) = V.Fix i
value_in words (ListAt a) = V.Ref (place_of words a)
value_in words (StructAt a) = V.Ref (place_of words a)
value_in words _ = V.Nil

-- a block by its header, else a cons
abbrev pub body_by : List Parts → ℕ → Content → Body
body_by words at (Header code count) = Block code (map (λ i. value_in words (word_at words (suc at + i)).content) (range_with_len 0 count))
body_by words at _ = Cons (value_in words (car_in words at)) (value_in words (cdr_in words at))

abbrev pub object_in : Store → Table → ℕ → Object
object_in m t at = record { area = (region (ground_image m t) at).area; charge = charge_at m.words at; body = body_by m.words at (word_at m.words at).content }

-- The graph

-- an object at each address
abbrev pub objects_in : Store → Table → List Object
objects_in m t = map (object_in m t) (range_with_len 0 (length m.words))

-- and these registers
abbrev pub address_graph : Store → Table → List Parts → Graph
address_graph m t registers = record {
  registers = map (λ (w : Parts). value_in m.words w.content) registers;
  objects = objects_in m t;
}

-- the addresses that the registers lead to
abbrev pub is_reached : Store → Table → List Parts → ℕ → Bool
is_reached m t registers = closure (address_graph m t registers).objects (λ a. refers_in a (address_graph m t registers).registers)

-- what a walk shows: the objects that the registers reach, by their places
abbrev pub shown_by : Store → Table → List Parts → KeyedGraph
shown_by m t registers = record (keyed (address_graph m t registers)) { has = is_reached m t registers }

-- What a walk returns of it

-- a word
abbrev pub told : Store → Table → Content → Seen
told m t content = keyed_value (objects_in m t) (value_in m.words content)

-- the object at a place
abbrev pub form_in : Store → Table → ℕ → Form
form_in m t at = form_of (object_at (objects_in m t) at)

-- a part of it: for a cons the car, then the cdr; for a block a field
abbrev pub field_in : Store → Table → ℕ → ℕ → Seen
field_in m t at index = keyed_value (objects_in m t) (part_of (object_at (objects_in m t) at).body index)

-- how many parts it has
abbrev pub parts_in : Store → Table → ℕ → ℕ
parts_in m t at = width (object_at (objects_in m t) at).body

-- whether it is a cons, and the whole cons
abbrev pub is_cons_in : Store → Table → ℕ → Bool
is_cons_in m t at = is_cons (object_at (objects_in m t) at).body

abbrev pub cons_in : Store → Table → ℕ → SeenCons
cons_in m t at = record { area = (form_in m t at).area; charge = (form_in m t at).charge; car = field_in m t at 0; cdr = field_in m t at 1 }

-- The words of a part

-- the content of a part of what begins with this content at a place
abbrev pub part_in : List Parts → ℕ → ℕ → Content → Content
part_in words at index (Header code count) = (word_at words (suc at + index)).content
part_in words at index _ = if index == 0 then car_in words at else cdr_in words at

-- the code of the object that begins with this content, and how many parts it has
abbrev pub code_in : Content → ℕ
code_in (Header code count) = code
code_in _ = 0

abbrev pub count_in : Content → ℕ
count_in (Header code count) = count
count_in _ = 2
