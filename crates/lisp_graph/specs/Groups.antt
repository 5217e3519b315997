-- Groups of conses: each can be laid out as one compact list, in consecutive words.
use Rattle.std.specs.Prelude.{ℕ, ◌+◌, List, [], ◌∷◌, Bool, true, false, ◌==◌, ◌&&◌, nat_le, if◌then◌else◌, Option, Some, None, option_map}
use Rattle.lisp_graph.specs.declared.object.Value.{Value}
use Rattle.lisp_graph.specs.declared.object.Value.TheVariants.{Nil}
use Rattle.lisp_graph.specs.declared.object.Body.{Body}
use Rattle.lisp_graph.specs.declared.object.Body.TheVariants.{Cons, Block}
use Rattle.lisp_graph.specs.declared.object.Object.{Object}
use Rattle.lisp_graph.specs.Graph.{is_ref}

abbrev pub is_nil : Value → Bool
is_nil Nil = true
is_nil _ = false

-- a cons whose cdr passes the test
abbrev pub has_cdr : (Value → Bool) → Body → Bool
has_cdr test (Cons car cdr) = test cdr
has_cdr test (Block code fields) = false

-- a cons of this area and of charge 3 whose cdr passes the test
abbrev pub is_cell : ℕ → (Value → Bool) → Object → Bool
is_cell area test object = object.area == area && object.charge == 3 && has_cdr test object.body

-- how many of these objects, numbered from `number` on, there are up to the tail of a list: the cdr of each refers to the next, and that of the tail is nil
abbrev pub to_tail : ℕ → ℕ → List Object → Option ℕ
to_tail area number [] = None
to_tail area number (object ∷ objects) =
    if is_cell area is_nil object then Some 1
    else if is_cell area (is_ref (number + 1)) object then option_map (λ count. count + 1) (to_tail area (number + 1) objects)
    else None

-- how many objects the group has that begins here: at most 1,024 up to a tail, or none
abbrev pub group_size : Option ℕ → ℕ
group_size None = 0
group_size (Some count) = if nat_le count 1024 then count else 0

-- the size of the group that begins at each of these objects
abbrev pub sizes_of : ℕ → List Object → List ℕ
sizes_of number [] = []
sizes_of number (object ∷ objects) = group_size (to_tail object.area number (object ∷ objects)) ∷ sizes_of (number + 1) objects
