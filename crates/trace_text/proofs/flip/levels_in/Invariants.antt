use Rattle.std.proofs.Common.{◌≡◌, ◌≤◌, length}
use Rattle.std.specs.List.{slice_split}
use Rattle.trace_text.specs.Commands.{is_comma, levels_from}
use Rattle.trace_text.proofs.flip.levels_in.Given as goal

abbrev pub invariant-loop-end : goal.invariant-loop-end
invariant-loop-end l = (levels_from l.top l.last l.levels.0 (slice_split is_comma l.rest) ≡ levels_from l.top 0 0 (slice_split is_comma l.word)) × (l.last ≤ 6) × (length l.rest ≤ length l.word)

abbrev pub decreases-loop-end : goal.decreases-loop-end
decreases-loop-end l = length l.rest
