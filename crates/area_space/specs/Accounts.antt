-- What classes, areas and levels are charged, in words.
use Rattle.std.specs.Prelude.{ℕ, ◌+◌, slice_index}
use Rattle.lisp_graph.specs.Totals.{total}
use Rattle.area_space.specs.Sums.{block, both}
use Rattle.area_space.specs.Table.{Table, areas_of, levels_of, slot_of, live}

-- the charges and the husks of a class
abbrev pub debt : Table → ℕ → ℕ
debt t class = slice_index t.charges class + slice_index t.husks class

-- the account of an area: the charges and the husks of its classes, old ones included
abbrev pub account_of : Table → ℕ → ℕ
account_of t area = block (both (debt t)) (levels_of t) area

-- the charges and the husks of the live classes of a level, in all areas
abbrev pub level_total : Table → ℕ → ℕ
level_total t level = total (λ area. debt t (live (slot_of t area level))) (areas_of t)
