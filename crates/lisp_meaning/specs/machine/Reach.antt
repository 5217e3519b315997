-- Which names are reachable from a set of names.
use Rattle.std.specs.Prelude.{ℕ, zero, suc, ◌<◌, Bool, ◌&&◌, ◌||◌, List, length, IsTrue}
use Rattle.lisp_graph.specs.declared.object.Object.{Object}
use Rattle.lisp_graph.specs.Graph.{Graph, object_at, refers_in, body_refers}
use Rattle.lisp_meaning.specs.machine.Maps.{some_below}

-- each name in a register, and each name in an object of the set, is in the set
pub record Closed (g : Graph) (set : ℕ → Bool) : Type 0 where
  pub from_registers : (n : ℕ) → IsTrue (refers_in n g.registers) → IsTrue (set n)
  pub from_objects : (m n : ℕ) → m < length g.objects → IsTrue (set m) → IsTrue (body_refers n (object_at g.objects m).body) → IsTrue (set n)

-- the set, and the names in its objects
abbrev pub one_more : List Object → (ℕ → Bool) → (ℕ → Bool)
one_more objects set = λ n. set n || some_below (λ m. set m && body_refers n (object_at objects m).body) (length objects)

-- the set after this many rounds
unfoldable pub closure_after : ℕ → List Object → (ℕ → Bool) → (ℕ → Bool)
closure_after zero objects set = set
closure_after (suc k) objects set = one_more objects (closure_after k objects set)

-- the set after one round for each object
abbrev pub closure : List Object → (ℕ → Bool) → (ℕ → Bool)
closure objects set = closure_after (length objects) objects set
