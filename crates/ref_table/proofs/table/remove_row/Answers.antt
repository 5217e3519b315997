use Rattle.std.proofs.Common.{sym, ◌∙◌, length}
use Rattle.ref_table.proofs.Invariant.{write_empty}
use Rattle.ref_table.proofs.Rows.{part_of, low_of, removed_tree}
use Rattle.ref_table.proofs.table.remove_row.Goals as goal

pub returns-clause-sound : goal.returns-clause-sound
returns-clause-sound c = λ t h.
    removed_tree c.args.sets.now _ c.args.branches.now _ _ _ c.args.page t c.requires (sym c.has_row.ensures ∙ c.if-not-has_row.false) (write_empty c.args.sets.now c.args.page c.empty-2.result (c.empty-2.ensures tt)) h
    (c.remove-root.ensures 0 (length c.args.sets.now) t h.root_is (part_of _ _ _ t h) (low_of _ _ _ t h))
