use Rattle.test_ground.proofs.transports.tests.run_paged.Given as goal

-- the ledger of the counter is the one that the blank opens
abbrev pub ghosts-run : goal.ghosts-run
ghosts-run g a = record { name = a.blank.name; parts = a.blank.parts }
