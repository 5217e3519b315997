use Rattle.test_collect.proofs.tests.over_a_flat_memory.Given as goal

-- the ledger of the counter is the one that the blank opens
abbrev pub ghosts-run : goal.ghosts-run
ghosts-run g a = record { name = a.blank.name; parts = a.blank.parts }
