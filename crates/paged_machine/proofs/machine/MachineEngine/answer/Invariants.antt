use Rattle.paged_machine.proofs.machine.MachineEngine.answer.Given as goal

-- the ledger of the counter is the one that the blank opens
abbrev pub ghosts-run_request : goal.ghosts-run_request
ghosts-run_request g a = record { name = a.blank.name; parts = a.blank.parts }
