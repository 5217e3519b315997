use Rattle.word_graph.proofs.telling.read_word.Given as goal

-- the ledger of the counter is the one that the blank opens
abbrev pub ghosts-value_over : goal.ghosts-value_over
ghosts-value_over g a = record { name = a.blank.name; parts = a.blank.parts }
