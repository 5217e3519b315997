use Rattle.std.proofs.Common.{◌<◌, ℕ, subst, sym, ◌∙◌}
use Rattle.area_space.specs.Inside.{table_of}
use Rattle.area_space.specs.Table.{Table, lists_of, IsUnclassed}
use Rattle.area_space.proofs.FreeSets.{first_is_lowest, none_is_free, some_unless}
use Rattle.area_space.proofs.table.RegionTable.lowest_free.Goals as goal

pub returns : goal.returns
returns c =
    rw (← c.self.view_is) (let f = first_is_lowest c.self.inside.free (lists_of (table_of c.self.inside)) c.unwrap.result c.self.invariant.free_is (sym c.lowest.ensures ∙ c.unwrap.ensures) in
    record { in_range = f.0; free = f.1; lowest = f.2 })

pub unwrap-requires : goal.unwrap-requires
unwrap-requires c = some_unless c.lowest.result λ absent.
    let no = none_is_free c.self.inside.free (lists_of (table_of c.self.inside)) c.self.invariant.free_is (sym c.lowest.ensures ∙ absent) in
    c.requires (subst (λ (t : Table). (r : ℕ) → r < t.regions → IsUnclassed t r → ⊥) c.self.view_is no)
