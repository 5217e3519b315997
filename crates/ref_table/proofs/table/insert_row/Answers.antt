use Rattle.std.proofs.Common.{sym, ◌∙◌, arith, length, refl}
use Rattle.std.proofs.lemmas.Bool.{eqb-false}
use Rattle.ref_table.proofs.Rows.{low_of, inserted_stands, inserted_tree}
use Rattle.ref_table.proofs.table.insert_row.Goals as goal

pub returns-clause-sound : goal.returns-clause-sound
returns-clause-sound c = λ t h.
    inserted_tree c.args.sets.now _ c.args.branches.now _ _ _ c.args.page c.args.levels t c.requires.page c.requires.absent (eqb-false _ _ (sym (c.is_empty.ensures tt) ∙ c.if-is_empty.false)) refl h
    (c.insert.ensures 0 (length c.args.sets.now) t h.root_is (inserted_stands _ _ _ _ c.args.page c.args.levels t c.requires.page c.requires.absent refl h) (low_of _ _ _ t h) (omega arith) c.requires.page)
