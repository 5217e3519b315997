use Rattle.std.proofs.Common.{not, ◌≡◌, List, ◌+◌, length, ap, ◌∙◌, arith, slice_set}
use Rattle.std.proofs.lemmas.List.{with_items_is, set-set}
use mir.Val.{bool_byte}
use Rattle.store_word.specs.declared.levels.Levels.{Levels}
use Rattle.ref_table.specs.Sets.{no_levels}
use Rattle.ref_table.specs.Table.{Table}
use Rattle.ref_table.proofs.Invariant.{count_fits, kept_indexed, inserted_kept, emptied}
use Rattle.ref_table.proofs.table.RefTable.note.Goals as goal

pub overflow_add-self : goal.overflow_add-self
overflow_add-self c =
    let room = count_fits _ _ _ _ (not c.is_empty.result) c.self.invariant in
    omega arith

pub invariant_of-self : goal.invariant_of-self
invariant_of-self c =
    let kept = c.self.invariant in
    let was : c.self.inside.sets.items ≡ slice_set c.args.self.now.sets c.args.page no_levels = ap (λ (v : Table). v.sets) c.self.view_is ∙ c.forget.ensures.sets in
    let there = emptied c.args.self.now.sets _ c.args.page c.requires was in
    let f = rw (c.deref_mut.ensures.value, c.deref_mut-2.ensures.value) at c.insert_row-self-inside.ensures in
    let s : length c.insert_row-self-inside.new.sets ≡ c.self.inside.sets.len = omega arith in
    let b : length c.insert_row-self-inside.new.branches ≡ c.self.inside.branches.len = omega arith in
    rw (with_items_is c.self.inside.sets c.insert_row-self-inside.new.sets s, with_items_is c.self.inside.branches c.insert_row-self-inside.new.branches b)
    (inserted_kept _ _ _ _ _ _ _ _ c.args.page c.args.levels there.1 there.0 kept f.sound f.sets (ap (λ k. c.self.inside.count + k) (c.from.ensures ∙ ap (λ b. bool_byte (not b)) (c.is_empty.ensures tt))))

pub returns-clause-sets : goal.returns-clause-sets
returns-clause-sets c =
    let was : c.self.inside.sets.items ≡ slice_set c.args.self.now.sets c.args.page no_levels = ap (λ (v : Table). v.sets) c.self.view_is ∙ c.forget.ensures.sets in
    let f = rw (c.deref_mut.ensures.value, c.deref_mut-2.ensures.value) at c.insert_row-self-inside.ensures in
    let s : length c.insert_row-self-inside.new.sets ≡ c.self.inside.sets.len = omega arith in
    rw (with_items_is c.self.inside.sets c.insert_row-self-inside.new.sets s)
    (f.sets ∙ ap (λ (ss : List Levels). slice_set ss c.args.page c.args.levels) was ∙ set-set _ c.args.page _ c.args.levels)

pub returns-clause-sound : goal.returns-clause-sound
returns-clause-sound c =
    let kept = c.self.invariant in
    let was : c.self.inside.sets.items ≡ slice_set c.args.self.now.sets c.args.page no_levels = ap (λ (v : Table). v.sets) c.self.view_is ∙ c.forget.ensures.sets in
    let there = emptied c.args.self.now.sets _ c.args.page c.requires was in
    let f = rw (c.deref_mut.ensures.value, c.deref_mut-2.ensures.value) at c.insert_row-self-inside.ensures in
    let s : length c.insert_row-self-inside.new.sets ≡ c.self.inside.sets.len = omega arith in
    let b : length c.insert_row-self-inside.new.branches ≡ c.self.inside.branches.len = omega arith in
    rw (with_items_is c.self.inside.sets c.insert_row-self-inside.new.sets s, with_items_is c.self.inside.branches c.insert_row-self-inside.new.branches b)
    (kept_indexed _ _ _ (c.self.inside.count + c.from.result)
    (inserted_kept _ _ _ _ _ _ _ _ c.args.page c.args.levels there.1 there.0 kept f.sound f.sets (ap (λ k. c.self.inside.count + k) (c.from.ensures ∙ ap (λ b. bool_byte (not b)) (c.is_empty.ensures tt)))))
