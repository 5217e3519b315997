use Rattle.std.proofs.Common.{◌≡◌, ◌^◌, ◌<◌}
use Rattle.heap_collect.specs.Silent.{full_bits}
use Rattle.heap_collect.proofs.silent.full_levels.Given as goal

-- the full levels so far
abbrev pub invariant-loop-index : goal.invariant-loop-index
invariant-loop-index l = record {
  is : l.bits ≡ full_bits l.table l.space l.index;
  small : l.bits < 2 ^ l.index;
}
