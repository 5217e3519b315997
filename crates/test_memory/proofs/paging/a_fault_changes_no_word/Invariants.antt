use Rattle.test_memory.proofs.paging.a_fault_changes_no_word.Given as goal

-- the ledger of the counter is the one that the blank opens
abbrev pub ghosts-run : goal.ghosts-run
ghosts-run g a = record { name = a.blank.name; parts = a.blank.parts }
