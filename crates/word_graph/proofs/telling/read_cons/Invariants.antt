use Rattle.word_graph.proofs.telling.read_cons.Given as goal

-- the ledger of the counter is the one that the blank opens
abbrev pub ghosts-cons_over : goal.ghosts-cons_over
ghosts-cons_over g a = record { name = a.blank.name; parts = a.blank.parts }
