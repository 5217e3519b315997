use Rattle.std.proofs.Common.{◌≡◌, ◌++◌, drop}
use Rattle.why_held.specs.CensusText.{AddUp, lines_with}
use Rattle.why_held.proofs.listing.push_rows.Given as goal

abbrev pub invariant-loop-row : goal.invariant-loop-row
invariant-loop-row l = record {
  lines : l.text ++ lines_with l.areas (drop l.row-index l.rows) l.reached ≡ l.fn.text ++ lines_with l.areas l.rows l.fn.reached;
  adds_up : AddUp (drop l.row-index l.rows) l.reached;
}
