-- The graph that a store holds.
use Rattle.std.specs.Prelude.{ℕ, List, Option, Some, None}
use Rattle.std.specs.Option.{option_map}
use Rattle.std.specs.Borrow.{Bor}
use Rattle.lisp_graph.specs.declared.object.Value.{Value}
use Rattle.lisp_graph.specs.declared.object.Object.{Object}
use Rattle.lisp_graph.specs.declared.store.Store.{Store}
use Rattle.lisp_graph.specs.Graph.{Graph}
use Rattle.lisp_graph.specs.Effect.{when_block, when_cons}

-- its registers and its objects
abbrev pub graph_of : Store → Graph
graph_of store = record { registers = store.registers; objects = store.objects }

-- the name, the car and the cdr of the cons that a value refers to, if it does
abbrev pub found_cons : List Object → Value → Option (ℕ × Value × Value)
found_cons objects value = when_cons objects value (λ name car cdr. Some (name, car, cdr)) None

-- the name, the code and the fields of the block that a value refers to, if it does
abbrev pub found_block : List Object → Value → Option (ℕ × ℕ × List Value)
found_block objects value = when_block objects value (λ name code fields. Some (name, code, fields)) None

-- the same, with the list in place of the borrowed list
abbrev pub block_copied : Option (ℕ × ℕ × Bor (List Value)) → Option (ℕ × ℕ × List Value)
block_copied found = option_map {U = ℕ × ℕ × List Value} (λ block. (block.0, block.1, block.2.now)) found
