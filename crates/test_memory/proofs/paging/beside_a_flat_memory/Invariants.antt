use Rattle.test_memory.proofs.paging.beside_a_flat_memory.Given as goal

-- the ledger of the counter is the one that the blank opens
abbrev pub ghosts-run : goal.ghosts-run
ghosts-run g a = record { name = a.blank.name; parts = a.blank.parts }
