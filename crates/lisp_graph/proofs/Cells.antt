-- The conses of a list, one after another.
use Rattle.std.proofs.Common.{◌≡◌, ℕ, suc, ◌+◌, ◌-◌, ◌<◌, ◌≤◌, List, [], ◌∷◌, ◌++◌, length, get_or, map, drop, arith, add-one, append_assoc, append-nil, length-drop, drop-cons}
use Rattle.std.specs.Prelude.{if◌then◌else◌, ◌==◌}
use Rattle.std.proofs.lemmas.Grind.{common_steps}
use Rattle.std.proofs.lemmas.List.{drop_all, length-map}
use Rattle.lisp_graph.specs.declared.object.Value.{Value}
use Rattle.lisp_graph.specs.declared.object.Value.TheVariants as V
use Rattle.lisp_graph.specs.declared.object.Object.{Object}
use Rattle.lisp_graph.specs.Effect.{cell_of, link, list_from}

-- the cdr refers to the next cons, if values remain
link-left : (name left : ℕ) (values : List Value) → left ≡ length values → link name values ≡ (if left == 0 then V.Nil else V.Ref (name + 1))
link-left name left [] e = grind arith
link-left name left (value ∷ values) e = grind arith

-- one cons is added
pub list_from_more : (area i left : ℕ) (objects more : List Object) (items : List ℕ) (f : ℕ → Value) → i < length items → left ≡ length items - i - 1
    → more ≡ objects ++ cell_of area (f (get_or items i 0)) (if left == 0 then V.Nil else V.Ref (length objects + 1)) ∷ []
    → more ++ list_from area (length more) (map f (drop (i + 1) items)) ≡ objects ++ list_from area (length objects) (map f (drop i items))
unfolding list_from
list_from_more area i left objects more items f l e m =
    let rest = drop (i + 1) items in
    let step : drop i items ≡ get_or items i 0 ∷ rest = rw (add-one, drop-cons items i 0) in
    let count : length more ≡ suc (length objects) = grind (arith, common_steps, m) in
    let cdr : link (length objects) (map f rest) ≡ (if left == 0 then V.Nil else V.Ref (length objects + 1)) =
    link-left (length objects) left (map f rest) (omega (arith, length-map rest f, length-drop (i + 1) items)) in
    rw (step, count, m, cdr, append_assoc)

-- no value remains
pub list_from_all : (area i : ℕ) (objects : List Object) (items : List ℕ) (f : ℕ → Value) → length items ≤ i
    → objects ++ list_from area (length objects) (map f (drop i items)) ≡ objects
unfolding list_from
list_from_all area i objects items f l = rw (drop_all i items l) (append-nil objects)
