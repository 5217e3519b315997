-- What the lines of a dump mean of the objects: everything except the charge of a cons outside the groups.
use Rattle.std.specs.Prelude.{ℕ, zero, suc, ◌+◌, ◌-◌, List, [], ◌∷◌, length}
use Rattle.trace_text.specs.lisp_graph.declared.object.Body.{Body}
use Rattle.trace_text.specs.lisp_graph.declared.object.Body.TheVariants.{Cons, Block}
use Rattle.trace_text.specs.lisp_graph.declared.object.Object.{Object}
use Rattle.trace_text.specs.lisp_graph.Groups.{group_size, to_tail}

-- what an object with a line of its own is charged
abbrev pub own_charge : Body → ℕ
own_charge (Cons car cdr) = 2
own_charge (Block code fields) = length fields + 1

-- the first object of a group of this size, or one with a line of its own
abbrev pub load_first : ℕ → Object → Object
load_first zero object = record object { charge = own_charge object.body }
load_first (suc more) object = object

-- these objects as their lines mean them, numbered from this one on; the first `skip` are in an earlier line
abbrev pub loaded_from : ℕ → ℕ → List Object → List Object
loaded_from skip number [] = []
loaded_from (suc skip) number (object ∷ objects) = object ∷ loaded_from skip (number + 1) objects
loaded_from zero number (object ∷ objects) =
    let size = group_size (to_tail object.area number (object ∷ objects)) in
    load_first size object ∷ loaded_from (size - 1) (number + 1) objects

-- the objects as the lines of a dump mean them
abbrev pub loaded : List Object → List Object
loaded objects = loaded_from 0 0 objects
