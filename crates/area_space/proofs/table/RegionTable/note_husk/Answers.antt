use Rattle.std.proofs.Common.{◌≤◌, ℕ, slice_index, subst, sym, ap, ◌∙◌}
use Rattle.area_space.proofs.table.RegionTable.note_husk.Goals as goal
use Rattle.area_space.specs.Charges.{husked}
use Rattle.area_space.specs.Table.{live}

pub add_husk-requires-clause-at_most : goal.add_husk-requires-clause-at_most
add_husk-requires-clause-at_most c =
    let e = c.requires.in_range in
    let is = c.slot_at-slot.ensures.value e.0 e.1 in
    subst (λ (s : ℕ). c.args.words ≤ slice_index c.args.self.now.charges (live s)) (sym is) (c.requires.at_most e.0 e.1)

pub returns-clause-after : goal.returns-clause-after
returns-clause-after c = λ slot m. c.add_husk.ensures.after ∙ ap (λ (s : ℕ). husked c.args.self.now (live s) c.args.words) (c.slot_at-slot.ensures.value slot m)
