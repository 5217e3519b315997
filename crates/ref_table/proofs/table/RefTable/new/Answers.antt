use Rattle.std.proofs.Common.{ap, ◌∙◌, ℕ}
use Rattle.std.specs.Prelude.{replicate}
use Rattle.store_word.specs.declared.levels.Levels.{Levels}
use Rattle.ref_table.proofs.Invariant.{kept_indexed, fresh_kept}
use Rattle.ref_table.proofs.table.RefTable.new.Goals as goal

pub invariant_of-result : goal.invariant_of-result
invariant_of-result c =
    fresh_kept c.args.pages _ _ c.requires
    (c.in_ok-sets.ensures.items_if_clones_equal (λ y e. e) ∙ ap (λ (n : ℕ). replicate c.args.pages (let s : Levels = record { 0 = n } in s)) (c.empty.ensures tt))
    (c.in_ok-branches.ensures.items_if_clones_equal (λ y e. e) ∙ ap (replicate c.args.pages) c.none.ensures)

pub returns-clause-sound : goal.returns-clause-sound
returns-clause-sound c =
    kept_indexed _ _ _ 0 (fresh_kept c.args.pages _ _ c.requires
    (c.in_ok-sets.ensures.items_if_clones_equal (λ y e. e) ∙ ap (λ (n : ℕ). replicate c.args.pages (let s : Levels = record { 0 = n } in s)) (c.empty.ensures tt))
    (c.in_ok-branches.ensures.items_if_clones_equal (λ y e. e) ∙ ap (replicate c.args.pages) c.none.ensures))
