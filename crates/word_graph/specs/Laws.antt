-- What the words of a ground show of the objects that it represents.
use Rattle.std.specs.Prelude.{◌≡◌, ℕ, ◌<◌, ◌≤◌, ◌&&◌, ◌==◌, List, length, get_or, slice_get, map, true, Some, IsTrue}
use Rattle.store_word.specs.Words.{Parts, null_word}
use Rattle.store_word.specs.declared.word.Content.{Content}
use Rattle.store_word.specs.declared.space.Space.{Space}
use Rattle.lisp_graph.specs.declared.object.Value.{Value}
use Rattle.lisp_graph.specs.declared.object.Value.TheVariants as V
use Rattle.lisp_graph.specs.declared.object.Body.{Body}
use Rattle.lisp_graph.specs.declared.object.Body.TheVariants.{Cons, Block}
use Rattle.lisp_graph.specs.declared.object.Object.{Object}
use Rattle.lisp_graph.specs.declared.world.AreaRule.{AreaRule}
use Rattle.lisp_graph.specs.KeyedGraph.{keyed, Shows}
use Rattle.mem_port.specs.Store.{Store, StoresNothing}
use Rattle.area_space.specs.Table.{Table}
use Rattle.lisp_ground.specs.lisp_meaning.State.{State, in_use, is_held, object}
use Rattle.lisp_ground.specs.lisp_meaning.State as M
use Rattle.lisp_ground.specs.lisp_meaning.Flip.{graph_of}
use Rattle.lisp_ground.specs.lisp_meaning.Roles.{RoleMap, name_or, value_of}
use Rattle.lisp_ground.specs.lisp_meaning.Units.{lowest}
use Rattle.obj_layout.specs.Forwards.{Leads}
use Rattle.lisp_ground.specs.GroundInvariant.{GroundInvariant}
use Rattle.lisp_ground.specs.lisp_meaning.Interpretation.{Interpretation, interpretation}
use Rattle.world_text.specs.Numbering.{is_numbered}
use Rattle.world_text.specs.Dump.{IsDump}
use Rattle.dump_laws.specs.Renamed.{IsRenamed, HasSameCharges}
use Rattle.word_graph.specs.Shown.{led, value_in, object_in, is_reached, shown_by, told}
use Rattle.word_graph.specs.Placed.{MeanValues, CanWalk, CanSee, HasObject}

-- Objects by their places

-- a value with a place for each name
abbrev pub placed : (ℕ → ℕ) → Value → Value
placed at (V.Fix i) = V.Fix i
placed at V.Nil = V.Nil
placed at (V.Ref n) = V.Ref (at n)

abbrev pub placed_body : (ℕ → ℕ) → Body → Body
placed_body at (Cons car cdr) = Cons (placed at car) (placed at cdr)
placed_body at (Block code fields) = Block code (map (placed at) fields)

abbrev pub placed_object : (ℕ → ℕ) → Object → Object
placed_object at o = record o { body = placed_body at o.body }

-- forwards are followed to the address to which they lead
abbrev pub LeadsThere : Type 0
LeadsThere = (words : List Parts) (fuel count at to : ℕ) → Leads words count at to → count ≤ fuel → led fuel words at ≡ to

-- a word's value is shown by the place of its object
abbrev pub ValuesArePlaces : Type 0
ValuesArePlaces = (m : Store) (t : Table) (it : Interpretation) → GroundInvariant m t it
    → (c : Content) (v : Value) → value_of it.map.role c ≡ Some v → value_in m.words c ≡ placed it.map.at v

-- at its place a held object is shown: its area, its charge and its parts
abbrev pub ObjectsArePlaces : Type 0
ObjectsArePlaces = (m : Store) (t : Table) (it : Interpretation) → GroundInvariant m t it
    → (n : ℕ) → in_use it.store n → object_in m t (it.map.at n) ≡ placed_object it.map.at (object it.store n)

-- each address that is reached is the place of a held object
abbrev pub ReachedAreHeld : Type 0
ReachedAreHeld = (m : Store) (t : Table) (it : Interpretation) (registers : List Parts) (values : List Value)
    → GroundInvariant m t it → MeanValues it.map registers values
    → (a : ℕ) → IsTrue (is_reached m t registers a) → ((n : ℕ) × in_use it.store n × (it.map.at n ≡ a))

-- By any map by which a ground represents objects, its words show these objects by their places, and what the registers reach is held.
pub record WordsShowObjects : Type 0 where
  pub leads : LeadsThere
  pub values : ValuesArePlaces
  pub objects : ObjectsArePlaces
  pub reached : ReachedAreHeld

-- What a walk requires

-- there is the same number of registers; each can be seen, and is shown as the graph has it
pub record RegistersAreTold : Type 0 where
  pub count : (m : Store) (t : Table) (registers : List Parts) → length (shown_by m t registers).registers ≡ length registers
  pub can : (m : Store) (t : Table) (registers : List Parts) → CanWalk m t registers → (r : ℕ) → r < length registers → CanSee m t (get_or registers r null_word).content
  pub is : (m : Store) (t : Table) (registers : List Parts) (r : ℕ) → r < length registers → slice_get (shown_by m t registers).registers r ≡ Some (told m t (get_or registers r null_word).content)

-- an object is at each key, below the end of the memory
pub record KeysAreObjects : Type 0 where
  pub can : (m : Store) (t : Table) (registers : List Parts) → CanWalk m t registers → (key : ℕ) → (shown_by m t registers).has key ≡ true → HasObject m t key
  pub inside : (m : Store) (t : Table) (registers : List Parts) → CanWalk m t registers → (key : ℕ) → (shown_by m t registers).has key ≡ true → key < length m.words

-- what a register or a part of an object with a key refers to has a key, and is of the kind that is shown
pub record ReachedShow : Type 0 where
  pub registers : (m : Store) (t : Table) (registers : List Parts) → CanWalk m t registers → (r : ℕ) → r < length registers → Shows (shown_by m t registers) (told m t (get_or registers r null_word).content)
  pub fields : (m : Store) (t : Table) (registers : List Parts) → CanWalk m t registers → (key : ℕ) → (shown_by m t registers).has key ≡ true → (index : ℕ)
      → Shows (shown_by m t registers) ((shown_by m t registers).field key index)

-- if nothing is stored the graph is the same,
abbrev pub ReadsShowTheSame : Type 0
ReadsShowTheSame = (m m' : Store) (t : Table) (registers : List Parts) → StoresNothing m m' → shown_by m' t registers ≡ shown_by m t registers

-- and a walk over it is possible, for any marks of its pages
abbrev pub WalksGoOn : Type 0
WalksGoOn = (m m' : Store) (t : Table) (registers : List Parts) → m'.words ≡ m.words → m'.levels ≡ m.levels → m'.top ≡ m.top → CanWalk m t registers → CanWalk m' t registers

-- What a walk over registers and what they reach requires, and what it may return.
pub record WordsShowReached : Type 0 where
  pub registers : RegistersAreTold
  pub keys : KeysAreObjects
  pub shows : ReachedShow
  pub same : ReadsShowTheSame
  pub on : WalksGoOn

-- The graph of a state

-- the least name whose object is held and is at the address
abbrev pub name_of : RoleMap → M.Store → ℕ → ℕ
name_of k s a = name_or (lowest (λ n. is_held s n && (k.at n == a)) (length s.objects))

-- The graph shown is that of a state that the ground and the registers represent, with other names, and with the same charges.
pub record WalkShowsState : Type 0 where
  pub renamed : (m : Store) (t : Table) (registers : List Parts) (k : RoleMap) (s : State) → GroundInvariant m t (interpretation k s) → MeanValues k registers s.registers
      → (keys : List ℕ) → ((key : ℕ) → is_numbered keys key ≡ true → (shown_by m t registers).has key ≡ true) → IsRenamed (name_of k s.store) keys (shown_by m t registers) (keyed (graph_of s))
  pub charges : (m : Store) (t : Table) (registers : List Parts) (k : RoleMap) (s : State) → GroundInvariant m t (interpretation k s) → MeanValues k registers s.registers
      → (keys : List ℕ) → ((key : ℕ) → is_numbered keys key ≡ true → (shown_by m t registers).has key ≡ true) → HasSameCharges (name_of k s.store) keys (shown_by m t registers) (keyed (graph_of s))

-- so a dump of what is shown is a dump of the state
abbrev pub DumpIsOfState : Type 0
DumpIsOfState = (m : Store) (t : Table) (registers : List Parts) (k : RoleMap) (s : State) → GroundInvariant m t (interpretation k s) → MeanValues k registers s.registers
    → (space : Space) (areas : List AreaRule) (text : List ℕ) → IsDump (shown_by m t registers) space areas text → IsDump (keyed (graph_of s)) space areas text

-- The graph that the words show is that of each state that they represent, and so is its dump.
pub record WalksShowStates : Type 0 where
  pub state : WalkShowsState
  pub dump : DumpIsOfState
