use Rattle.std.proofs.Common.{◌≡◌, ◌≤◌, ◌+◌, ℕ, List, length}
use Rattle.lisp_graph.specs.declared.world.AreaRule.{AreaRule}
use Rattle.sexpr_text.specs.Pieces.{pieces_from}
use Rattle.sexpr_text.proofs.pieces.skip_white.Given as goal

abbrev pub invariant-loop-byte : goal.invariant-loop-byte
invariant-loop-byte l =
    ((areas : List AreaRule) (past : ℕ) → pieces_from areas past 0 l.line l.rest ≡ pieces_from areas past 0 l.fn.first l.fn.text)
    × (l.line + length l.rest ≤ l.fn.first + length l.fn.text)

abbrev pub decreases-loop-byte : goal.decreases-loop-byte
decreases-loop-byte l = length l.rest
