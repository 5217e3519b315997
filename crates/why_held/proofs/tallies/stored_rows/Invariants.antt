use Rattle.std.proofs.Common.{◌≡◌, ◌++◌, map}
use Rattle.why_held.specs.Tallies.{row_of}
use Rattle.why_held.proofs.tallies.stored_rows.Given as goal

abbrev pub invariant-loop-kind : goal.invariant-loop-kind
invariant-loop-kind l = l.rows ++ map row_of l.kind-iterator ≡ map row_of l.tallies.entries
