-- Runs of conses, one after another.
use Rattle.std.proofs.Common.{◌≡◌, ℕ, suc, List, [], ◌∷◌, ◌++◌, length, arith, append_assoc, length-append}
use Rattle.lisp_graph.specs.declared.object.Value.{Value}
use Rattle.lisp_graph.specs.declared.object.Object.{Object}
use Rattle.lisp_graph.specs.Effect.{cell_of, link, list_from}

-- one cons more
pub run_more : (area : ℕ) (objects : List Object) (car : Value) (cars : List Value)
    → (objects ++ cell_of area car (link (length objects) cars) ∷ []) ++ list_from area (length (objects ++ cell_of area car (link (length objects) cars) ∷ [])) cars
    ≡ objects ++ list_from area (length objects) (car ∷ cars)
unfolding list_from
run_more area objects car cars =
    let one : Object = cell_of area car (link (length objects) cars) in
    let e : length (objects ++ one ∷ []) ≡ suc (length objects) = omega (arith, length-append objects (one ∷ [])) in
    rw e (append_assoc objects (one ∷ []) (list_from area (suc (length objects)) cars))
