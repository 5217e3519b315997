use Rattle.std.proofs.Common.{◌≡◌, ◌-◌, ◌^◌, true}
use Rattle.outer_ports.specs.Ports.{IsAtEnd}
use Rattle.line_input.specs.Verdict.{IsPlace}
use Rattle.line_input.specs.WorldFile.{file_rules, start}
use Rattle.line_input.proofs.ReaderInvariant.{Going}
use Rattle.file_modes.proofs.read.judge_world.Given as goal

abbrev pub invariant-loop-cons : goal.invariant-loop-cons
invariant-loop-cons g l = record {
  going : Going file_rules start (g.S.Source.left l.fn.source) (g.S.Source.left l.source) l.place l.reader;
  place : IsPlace l.place;
  end : l.reader.ended ≡ true → IsAtEnd (g.S.Source.left l.source);
  source : g.S.Source.faults l.source ≡ g.S.Source.faults l.fn.source;
}

abbrev pub decreases-loop-cons : goal.decreases-loop-cons
decreases-loop-cons g l = 2 ^ 40 - l.place.bytes
