use Rattle.test_memory.specs.Example.{IsExample}
use Rattle.test_memory.proofs.objects.runs.Given as goal

-- the example is unchanged
abbrev pub invariant-loop-at : goal.invariant-loop-at
invariant-loop-at g l = IsExample (g.M.Memory.seen l.mem).words
