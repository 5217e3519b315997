use Rattle.std.proofs.Common.{◌≡◌, ◌-◌, ◌^◌, true}
use Rattle.outer_ports.specs.Ports.{IsAtEnd}
use Rattle.line_input.specs.Verdict.{IsPlace}
use Rattle.line_input.proofs.ReaderInvariant.{Going}
use Rattle.line_input.proofs.judging.read.judge_lines.Given as goal

abbrev pub invariant-loop-found : goal.invariant-loop-found
invariant-loop-found g l = record {
  going : Going g.J.LineJudge.rules l.fn.judge (g.S.Source.left l.fn.source) (g.S.Source.left l.source) l.place l.reader;
  place : IsPlace l.place;
  end : l.reader.ended ≡ true → IsAtEnd (g.S.Source.left l.source);
  source : g.S.Source.faults l.source ≡ g.S.Source.faults l.fn.source;
}

abbrev pub decreases-loop-found : goal.decreases-loop-found
decreases-loop-found g l = 2 ^ 40 - l.place.bytes
