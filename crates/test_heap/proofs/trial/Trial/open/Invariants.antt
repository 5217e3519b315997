use Rattle.test_heap.proofs.trial.Trial.open.Given as goal

-- the ledger of the counter is the one that the blank opens
abbrev pub ghosts-load : goal.ghosts-load
ghosts-load g a = record { name = a.blank.name; parts = a.blank.parts }
