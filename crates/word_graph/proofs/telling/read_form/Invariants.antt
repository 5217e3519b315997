use Rattle.word_graph.proofs.telling.read_form.Given as goal

-- the ledger of the counter is the one that the blank opens
abbrev pub ghosts-form_over : goal.ghosts-form_over
ghosts-form_over g a = record { name = a.blank.name; parts = a.blank.parts }
