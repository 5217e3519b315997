use Rattle.ref_table.proofs.tree.+first.Given as goal

abbrev pub decreases-first : goal.decreases-first
decreases-first l = l.depth
