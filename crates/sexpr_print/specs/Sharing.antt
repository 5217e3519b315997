-- The references to each object, counted up to two.
use Rattle.std.specs.Prelude.{◌≡◌, ℕ, zero, suc, ◌<◌, Bool, true, false, List, ◌++◌, length, count_by, slice_index_or}
use Rattle.lisp_graph.specs.Graph.{is_ref}
use Rattle.lisp_graph.specs.declared.object.Value.{Value}
use Rattle.sexpr_print.specs.declared.sharing.References.{References}
use Rattle.sexpr_print.specs.declared.sharing.References.TheVariants.{No, One, Many}

-- this many references
abbrev pub references : ℕ → References
references zero = No
references (suc zero) = One
references (suc (suc more)) = Many

-- and one more
abbrev pub one_more : References → References
one_more No = One
one_more One = Many
one_more Many = Many

abbrev pub is_many : References → Bool
is_many No = false
is_many One = false
is_many Many = true

-- the references to the object with this name
abbrev pub references_at : List References → ℕ → References
references_at counts name = slice_index_or counts name No

-- for each object, how many of these values refer to it
abbrev pub AreCounted : List Value → List References → Type 0
AreCounted values counts = (name : ℕ) → name < length counts → references_at counts name ≡ references (count_by (is_ref name) values)

-- these values are counted too
pub record Counts (added : List Value) (old new : List References) : Type 0 where
  pub more : (values : List Value) → AreCounted values old → AreCounted (values ++ added) new
  pub size : length new ≡ length old
