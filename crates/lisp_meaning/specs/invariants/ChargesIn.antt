-- Charges and spare words of the names in certain classes, and the words of husks there, as sums.
use Rattle.std.specs.Prelude.{ℕ, Bool, true, false, ◌&&◌, length}
use Rattle.lisp_graph.specs.Totals.{total, if_true}
use Rattle.lisp_meaning.specs.machine.State.{Store, object, is_held}
use Rattle.lisp_meaning.specs.reading.Classes.{Class, class_at, in_class}
use Rattle.lisp_meaning.specs.invariants.Roles.{AsBlock, Role, Cell, HuskWord, Relaid, RoleMap}

-- the charge of a name that is held, if the name and its class pass; otherwise 0
abbrev pub charge_in : Store → (ℕ → ℕ) → (ℕ → Class) → (ℕ → Class → Bool) → ℕ → ℕ
charge_in s at regions passes n = if_true (is_held s n && passes n (class_at regions (at n))) (object s n).charge

-- the charges of the names that pass, each with its class
abbrev pub charges_in : Store → (ℕ → ℕ) → (ℕ → Class) → (ℕ → Class → Bool) → ℕ
charges_in s at regions passes = total (charge_in s at regions passes) (length s.objects)

abbrev pub is_cell : Role → Bool
is_cell (Cell n i) = true
is_cell _ = false

-- the two words that a cell may need when it is relocated, if its name is held and passes with its class
abbrev pub spare_in : Store → RoleMap → (ℕ → Class) → (ℕ → Class → Bool) → ℕ → ℕ
spare_in s k regions passes n = if_true (is_held s n && (passes n (class_at regions (k.at n)) && is_cell (k.role (k.at n)))) 2

-- two words for each cell whose name passes
abbrev pub spares_in : Store → RoleMap → (ℕ → Class) → (ℕ → Class → Bool) → ℕ
spares_in s k regions passes = total (spare_in s k regions passes) (length s.objects)

-- a word of a husk: the forward to a block that grew, or a NULL word after it
abbrev pub is_of_husk : Role → Bool
is_of_husk (HuskWord first) = true
is_of_husk (Relaid AsBlock n) = true
is_of_husk _ = false

-- 1 for a word of a husk in the live class of an area and a level, otherwise 0
abbrev pub husk_word_in : RoleMap → (ℕ → Class) → ℕ → ℕ → ℕ → ℕ
husk_word_in k regions area level a = if_true (is_of_husk (k.role a) && in_class area level a (class_at regions a)) 1
