use Rattle.std.proofs.Common.{◌≡◌, ◌-◌, length, ap, ◌∙◌, arith}
use Rattle.std.proofs.lemmas.List.{with_items_is}
use mir.Val.{bool_byte}
use Rattle.ref_table.proofs.Invariant.{row_counted, kept_indexed, removed_kept}
use Rattle.ref_table.proofs.table.RefTable.forget.Goals as goal

pub overflow_sub-self : goal.overflow_sub-self
overflow_sub-self c =
    let low = rw (← c.self.view_is) at c.requires in
    let n = rw c.deref.ensures.value at c.has_row.ensures in
    rw (c.from.ensures ∙ ap bool_byte n) (row_counted c.self.inside.sets.items c.args.page c.self.inside.count low c.self.invariant.counted)

pub invariant_of-self : goal.invariant_of-self
invariant_of-self c =
    let low = rw (← c.self.view_is) at c.requires in
    let f = rw (c.deref_mut.ensures.value, c.deref_mut-2.ensures.value) at c.remove_row-self-inside.ensures in
    let n = rw c.deref.ensures.value at c.has_row.ensures in
    let s : length c.remove_row-self-inside.new.sets ≡ c.self.inside.sets.len = omega arith in
    let b : length c.remove_row-self-inside.new.branches ≡ c.self.inside.branches.len = omega arith in
    rw (with_items_is c.self.inside.sets c.remove_row-self-inside.new.sets s, with_items_is c.self.inside.branches c.remove_row-self-inside.new.branches b)
    (removed_kept _ _ _ _ _ _ _ _ c.args.page low c.self.invariant f.sound f.sets (ap (λ k. c.self.inside.count - k) (c.from.ensures ∙ ap bool_byte n)))

pub returns-clause-sound : goal.returns-clause-sound
returns-clause-sound c =
    let low = rw (← c.self.view_is) at c.requires in
    let f = rw (c.deref_mut.ensures.value, c.deref_mut-2.ensures.value) at c.remove_row-self-inside.ensures in
    let n = rw c.deref.ensures.value at c.has_row.ensures in
    let s : length c.remove_row-self-inside.new.sets ≡ c.self.inside.sets.len = omega arith in
    let b : length c.remove_row-self-inside.new.branches ≡ c.self.inside.branches.len = omega arith in
    rw (with_items_is c.self.inside.sets c.remove_row-self-inside.new.sets s, with_items_is c.self.inside.branches c.remove_row-self-inside.new.branches b)
    (kept_indexed _ _ _ (c.self.inside.count - c.from.result)
    (removed_kept _ _ _ _ _ _ _ _ c.args.page low c.self.invariant f.sound f.sets (ap (λ k. c.self.inside.count - k) (c.from.ensures ∙ ap bool_byte n))))
