-- The objects that were printed, with their labels.
use Rattle.std.specs.Prelude.{◌≡◌, ℕ, zero, suc, ◌<◌, ◌+◌, ◌^◌, Bool, true, false, List, length, count_by, slice_index, Option, Some, None, if◌then◌else◌}
use Rattle.lisp_graph.specs.KeyedGraph.{keyed}
use Rattle.lisp_graph.specs.World.{opening}
use Rattle.lisp_graph.specs.declared.world.World.{World}
use Rattle.world_text.specs.Numbering.{IsNumbering}
use Rattle.sexpr_print.specs.declared.sharing.References.{References}
use Rattle.sexpr_print.specs.Places.{held, is_among, is_shared}
use Rattle.sexpr_print.specs.Printing.{label_of}
use Rattle.sexpr_print.specs.Sharing.{is_many, references_at}

-- the objects to which there is more than one reference
abbrev pub shared_in : List References → ℕ → Bool
shared_in counts name = is_many (references_at counts name)

-- an object has more than one counted reference if and only if more than one register or part of a reached object refers to it
pub record CountsReached (world : World) (counts : List References) : Type 0 where
  pub names : List ℕ
  pub reached : IsNumbering (keyed (opening world)) names
  pub shared : shared_in counts ≡ is_shared (held (opening world) names)
  pub size : length counts ≡ length world.objects

-- the references to each object, and the names of the objects that were printed, in their order
pub record Marks : Type 0 where
  pub counts : List References
  pub names : List ℕ

abbrev pub marks_of : List References → List ℕ → Marks
marks_of counts names = record { counts = counts; names = names }

-- the label of an object that was printed
abbrev pub label_in : Marks → ℕ → Option ℕ
label_in marks name = if is_among marks.names name then Some (label_of (shared_in marks.counts) marks.names name) else None

-- the label that an object gets if it is shared
abbrev pub new_label : Marks → ℕ → Option ℕ
new_label marks name = if shared_in marks.counts name then Some (count_by (shared_in marks.counts) marks.names) else None

-- the label that an entry of the table means: none at 0, or else one less than the entry
abbrev pub entry_label : ℕ → Option ℕ
entry_label zero = None
entry_label (suc label) = Some label

abbrev pub is_unmarked : ℕ → Bool
is_unmarked zero = true
is_unmarked (suc label) = false

-- each object that was printed has its label, and no other has one
pub record AreLabelled (marks : Marks) (entries : List ℕ) (label : ℕ) : Type 0 where
  pub few : length entries < 2 ^ 32
  pub size : length entries ≡ length marks.counts
  pub given : (name : ℕ) → name < length entries → entry_label (slice_index entries name) ≡ label_in marks name
  pub next : label ≡ count_by (shared_in marks.counts) marks.names
  pub room : length marks.names + count_by is_unmarked entries ≡ length marks.counts
