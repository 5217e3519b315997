use Rattle.trace_text.proofs.LineMeanings.{line_only}
use Rattle.trace_text.proofs.AcceptedSpellings.{line_all}
use Rattle.trace_text.proofs.read.lines_are_spelled.Goals as goal

pub returns : goal.returns
returns c space areas limits named = record {
  only = λ text said. line_only space areas text said limits named;
  all = λ text said. line_all space areas text said limits named;
}
