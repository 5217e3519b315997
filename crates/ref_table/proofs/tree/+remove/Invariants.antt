use Rattle.ref_table.proofs.tree.+remove.Given as goal

abbrev pub decreases-remove : goal.decreases-remove
decreases-remove l = l.depth
