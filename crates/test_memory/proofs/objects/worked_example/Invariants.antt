use Rattle.test_memory.proofs.objects.worked_example.Given as goal

-- the ledger of the counter is the one that the blank opens
abbrev pub ghosts-script : goal.ghosts-script
ghosts-script g a = record { name = a.blank.name; parts = a.blank.parts }
