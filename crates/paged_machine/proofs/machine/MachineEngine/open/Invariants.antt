use Rattle.paged_machine.proofs.machine.MachineEngine.open.Given as goal

-- the ledger of the counter is the one that the blank opens
abbrev pub ghosts-load_world : goal.ghosts-load_world
ghosts-load_world g a = record { name = a.blank.name; parts = a.blank.parts }
