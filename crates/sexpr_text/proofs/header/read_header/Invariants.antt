use Rattle.std.proofs.Common.{◌≤◌, ◌+◌, length}
use Rattle.sexpr_text.specs.Meaning.{header, second_place}
use Rattle.sexpr_text.proofs.HeaderLines.{LinesGo}
use Rattle.sexpr_text.proofs.header.read_header.Given as goal

abbrev pub invariant-loop-rest : goal.invariant-loop-rest
invariant-loop-rest l =
    LinesGo (header (length l.fn.text) second_place 2 l.fn.text) l.builder l.line l.rest × (l.line + length l.rest ≤ 2 + length l.fn.text)

abbrev pub decreases-loop-rest : goal.decreases-loop-rest
decreases-loop-rest l = length l.rest
