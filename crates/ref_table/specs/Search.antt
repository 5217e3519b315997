-- The search for a page by its levels.
use Rattle.std.specs.Prelude.{ℕ, nat_le, if◌then◌else◌, Option, Some, None, List}
use Rattle.store_word.specs.declared.levels.Levels.{Levels}
use Rattle.ref_table.specs.Sets.{set_at, do_meet}
use Rattle.ref_table.specs.Tree.{Tree, Leaf, Fork, below}

-- the first of two pages, if there is one; otherwise the second
abbrev pub or_else : Option ℕ → Option ℕ → Option ℕ
or_else None other = other
or_else (Some page) other = Some page

-- the first page in order, from one on, whose levels meet the given ones
abbrev pub found_from : List Levels → ℕ → ℕ → Tree → Option ℕ
found_from sets from levels Leaf = None
found_from sets from levels (Fork l p r) =
    if do_meet (below sets (Fork l p r)) levels
    then (if nat_le from p then or_else (found_from sets from levels l) (if do_meet (set_at sets p) levels then Some p else found_from sets from levels r) else found_from sets from levels r)
    else None
