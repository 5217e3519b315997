-- The objects of a world, in cells.
use Rattle.std.proofs.Common.{◌≡◌, ℕ, ◌%◌, ◌^◌, ◌≤◌, ◌++◌, List, [], ◌∷◌, length, map, refl, ap, arith, length-append}
use Rattle.std.specs.List.{All}
use Rattle.std.proofs.lemmas.List.{get_or_append_left}
use Rattle.std.proofs.lemmas.List.Elements.{All-head, All-tail, All-weaker}
use Rattle.lisp_graph.specs.declared.object.Value.{Value}
use Rattle.lisp_graph.specs.declared.object.Body.TheVariants as B
use Rattle.lisp_graph.specs.declared.objects.Shape.{Shape}
use Rattle.lisp_graph.specs.declared.objects.Shape.TheVariants as S
use Rattle.lisp_graph.specs.declared.objects.Cell.{Cell}
use Rattle.lisp_graph.specs.Objects.{HasShape, IsCell, object_in, shaped_body}

-- More blocks

still_body : (blocks more : List (List Value)) (shape : Shape) (first second : ℕ) → HasShape (length blocks) shape first
    → shaped_body (blocks ++ more) shape first second ≡ shaped_body blocks shape first second
still_body blocks more (S.Cons car cdr) first second h = refl
still_body blocks more S.Block first second h = ap (B.Block (second % 2 ^ 16)) (get_or_append_left blocks more [] first h)

still_object : (blocks more : List (List Value)) (cell : Cell) → IsCell (length blocks) cell → object_in (blocks ++ more) cell ≡ object_in blocks cell
still_object blocks more cell h =
    ap (λ body. record { area = cell.area; charge = cell.charge; body = body }) (still_body blocks more cell.shape cell.first cell.second h)

still_objects : (blocks more : List (List Value)) (cells : List Cell) → All (IsCell (length blocks)) cells → map (object_in (blocks ++ more)) cells ≡ map (object_in blocks) cells
still_objects blocks more [] h = refl
still_objects blocks more (cell ∷ cells) h =
    rw (still_object blocks more cell (All-head (IsCell (length blocks)) cell cells h), still_objects blocks more cells (All-tail (IsCell (length blocks)) cell cells h)) refl

still_shape : (m n : ℕ) → m ≤ n → (shape : Shape) (first : ℕ) → HasShape m shape first → HasShape n shape first
still_shape m n l (S.Cons car cdr) first h = tt
still_shape m n l S.Block first h = omega arith

still_cells : (m n : ℕ) → m ≤ n → (cells : List Cell) → All (IsCell m) cells → All (IsCell n) cells
still_cells m n l cells h = All-weaker (IsCell m) (IsCell n) (λ cell. still_shape m n l cell.shape cell.first) cells h

-- the same objects, with more blocks
pub objects_stay : (blocks new : List (List Value)) (cells : List Cell) → ((more : List (List Value)) × (new ≡ blocks ++ more)) → All (IsCell (length blocks)) cells
    → map (object_in new) cells ≡ map (object_in blocks) cells
objects_stay blocks new cells grows h = rw grows.1 (still_objects blocks grows.0 cells h)

-- the cells are cells of the list with more blocks
pub cells_stay : (blocks new : List (List Value)) (cells : List Cell) → ((more : List (List Value)) × (new ≡ blocks ++ more)) → All (IsCell (length blocks)) cells
    → All (IsCell (length new)) cells
cells_stay blocks new cells grows h = rw grows.1 (still_cells (length blocks) (length (blocks ++ grows.0)) (omega (arith, length-append blocks grows.0)) cells h)
