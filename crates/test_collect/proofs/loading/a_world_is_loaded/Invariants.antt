use Rattle.test_collect.proofs.loading.a_world_is_loaded.Given as goal

-- the ledger of the counter is the one that the blank opens
abbrev pub ghosts-run : goal.ghosts-run
ghosts-run g a = record { name = a.blank.name; parts = a.blank.parts }
