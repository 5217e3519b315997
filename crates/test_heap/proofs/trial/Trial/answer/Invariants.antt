use Rattle.test_heap.proofs.trial.Trial.answer.Given as goal

-- the ledger of the counter is the one that the blank opens
abbrev pub ghosts-run_command : goal.ghosts-run_command
ghosts-run_command g a = record { name = a.blank.name; parts = a.blank.parts }
