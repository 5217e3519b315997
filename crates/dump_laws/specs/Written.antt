-- A dump of a world, as a function of the world.
use Rattle.std.specs.Prelude.{ℕ, zero, suc, ◌+◌, ◌^◌, List, [], ◌∷◌, ◌++◌, slice_get, Option, Some, None, if◌then◌else◌}
use Rattle.trace_text.specs.lisp_graph.declared.walk.Seen.{Seen}
use Rattle.trace_text.specs.lisp_graph.declared.walk.Seen.TheVariants.{Cons, Block}
use Rattle.trace_text.specs.lisp_graph.declared.world.World.{World}
use Rattle.trace_text.specs.lisp_graph.KeyedGraph.{KeyedGraph, keyed}
use Rattle.trace_text.specs.lisp_graph.World.{opening}
use Rattle.trace_text.specs.world_text.Numbering.{is_numbered, next_cons, fields_of}
use Rattle.trace_text.specs.world_text.Dump.{dump_of}

-- the keys; if the cdr is a cons without a number, then those after it is numbered
abbrev pub onto_next : Option ℕ → List ℕ → (ℕ → List ℕ) → List ℕ
onto_next None keys rest = keys
onto_next (Some next) keys rest = rest next

-- a cons and at most this many along its cdrs are numbered
unfoldable pub chained : ℕ → KeyedGraph → List ℕ → ℕ → List ℕ
chained zero graph keys key = keys
chained (suc n) graph keys key = onto_next (next_cons (keys ++ key ∷ []) (graph.field key 1)) (keys ++ key ∷ []) (chained n graph (keys ++ key ∷ []))

-- a value is visited
abbrev pub visited : ℕ → KeyedGraph → List ℕ → Seen → List ℕ
visited n graph keys (Cons key) = if is_numbered keys key then keys else chained n graph keys key
visited n graph keys (Block key) = if is_numbered keys key then keys else keys ++ key ∷ []
visited n graph keys _ = keys

unfoldable pub all_visited : ℕ → KeyedGraph → List ℕ → List Seen → List ℕ
all_visited n graph keys [] = keys
all_visited n graph keys (value ∷ values) = all_visited n graph (visited n graph keys value) values

abbrev pub at_key : Option ℕ → List ℕ → (ℕ → List ℕ) → List ℕ
at_key None keys rest = keys
at_key (Some key) keys rest = rest key

-- the fields of the numbered objects are visited, of at most this many
unfoldable pub walked : ℕ → ℕ → KeyedGraph → List ℕ → ℕ → List ℕ
walked zero n graph keys number = keys
walked (suc left) n graph keys number = at_key (slice_get keys number) keys (λ key. walked left n graph (all_visited n graph keys (fields_of graph key)) (number + 1))

-- the keys in the order of their numbers, if they are at most n
abbrev pub numbered : ℕ → KeyedGraph → List ℕ
numbered n graph = walked n n graph (all_visited n graph [] graph.registers) 0

-- the text of the dump of a world that reaches fewer than 2^32 objects
abbrev pub dumped : World → List ℕ
dumped w = dump_of (keyed (opening w)) (numbered (2 ^ 32) (keyed (opening w))) w.space w.areas
