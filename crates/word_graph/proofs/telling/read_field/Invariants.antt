use Rattle.word_graph.proofs.telling.read_field.Given as goal

-- the ledger of the counter is the one that the blank opens
abbrev pub ghosts-field_over : goal.ghosts-field_over
ghosts-field_over g a = record { name = a.blank.name; parts = a.blank.parts }
