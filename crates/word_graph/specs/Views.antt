-- What this crate's contracts state about grounds, in terms of their views.
use Rattle.std.specs.Prelude.{ℕ, Bool}
use Rattle.area_space.specs.View.{GroundView}
use Rattle.lisp_graph.specs.declared.walk.Form.{Form}
use Rattle.lisp_graph.specs.declared.walk.Seen.{Seen}
use Rattle.lisp_graph.specs.declared.walk.SeenCons.{SeenCons}
use Rattle.store_word.specs.declared.word.Content.{Content}
use Rattle.word_graph.specs.Placed as placed
use Rattle.word_graph.specs.Shown as shown

abbrev pub CanSee : GroundView → Content → Type 0
CanSee v = placed.CanSee v.mem.store v.table

abbrev pub HasObject : GroundView → ℕ → Type 0
HasObject v = placed.HasObject v.mem.store v.table

abbrev pub field_in : GroundView → ℕ → ℕ → Seen
field_in v = shown.field_in v.mem.store v.table

abbrev pub form_in : GroundView → ℕ → Form
form_in v = shown.form_in v.mem.store v.table

abbrev pub is_cons_in : GroundView → ℕ → Bool
is_cons_in v = shown.is_cons_in v.mem.store v.table

abbrev pub cons_in : GroundView → ℕ → SeenCons
cons_in v = shown.cons_in v.mem.store v.table

abbrev pub parts_in : GroundView → ℕ → ℕ
parts_in v = shown.parts_in v.mem.store v.table

abbrev pub told : GroundView → Content → Seen
told v = shown.told v.mem.store v.table
