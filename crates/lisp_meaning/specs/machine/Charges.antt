-- What areas and levels are charged.
use Rattle.std.specs.Prelude.{ℕ, suc, ◌+◌, Bool, false, ◌&&◌, nat_eq, length, Option, Some, None}
use Rattle.lisp_graph.specs.Totals.{total, if_true}
use Rattle.lisp_meaning.specs.machine.State.{Condemned, aim_of, Store, State, object, is_held}

-- the charges of the names that pass
abbrev pub charges : Store → (ℕ → Bool) → ℕ
charges s passes = total (λ n. if_true (passes n) (object s n).charge) (length s.objects)

abbrev pub per_area : Store → ℕ → ℕ → Bool
per_area s a n = nat_eq (object s n).area a

-- the charges of the area's held names, its husks at all levels, and the husks that a running collection condemned
abbrev pub account : ℕ → Store → Condemned → ℕ → ℕ
account top s aim a = charges s (λ n. is_held s n && per_area s a n) + total (s.husks a) (suc top) + aim.gone a

abbrev pub account_now : State → ℕ → ℕ
account_now s a = account s.space.levels s.store (aim_of s.phase) a

abbrev pub is_level : ℕ → Option ℕ → Bool
is_level level None = false
is_level level (Some l) = nat_eq l level

-- the charges of the held names of a level and its husks, in all areas
abbrev pub level_total : State → ℕ → ℕ
level_total s level = charges s.store (λ n. is_level level (s.store.held n)) + total (λ a. s.store.husks a level) (length s.areas)
