use Rattle.std.specs.Prelude.{Some}
use Rattle.lisp_heap.proofs.heap.Heap.dump.Given as goal

-- the walk begins with this heap
abbrev pub ghosts-dump_from : goal.ghosts-dump_from
ghosts-dump_from g a = record { start = Some a.heap }
