use Rattle.ref_table.proofs.tree.+rest.Given as goal

abbrev pub decreases-rest : goal.decreases-rest
decreases-rest l = l.depth
