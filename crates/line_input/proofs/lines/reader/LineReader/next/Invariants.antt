use Rattle.std.proofs.Common.{◌≡◌, ◌⊎◌, ◌≤◌, ◌+◌, ◌-◌, ◌++◌, ℕ, List, [], take, length, true, cond}
use Rattle.outer_ports.specs.Ports.{Gave, IsAtEnd}
use Rattle.line_input.specs.Reader.{no_feed, without_latest}
use Rattle.line_input.proofs.lines.reader.LineReader.next.Given as goal

abbrev pub invariant-loop-found : goal.invariant-loop-found
invariant-loop-found g l = record {
  given : (piece : List ℕ) × Gave (g.S.Source.left l.fn.source) (g.S.Source.left l.source) piece × (l.self.bytes ≡ l.fn.self.bytes ++ piece) × (l.fn.self.ended ≡ true → piece ≡ []);
  latest : ((l.self.bytes ≡ l.fn.self.bytes) × (g.S.Source.last l.source ≡ g.S.Source.last l.fn.source)) ⊎ (no_feed (without_latest (g.S.Source.last l.source) l.self.bytes) ≡ true);
  end : l.self.ended ≡ true → IsAtEnd (g.S.Source.left l.source);
  once : l.fn.self.ended ≡ true → l.self.ended ≡ true;
  quiet : g.S.Source.faults l.source ≡ g.S.Source.faults l.fn.source;
  within : l.seen ≤ length l.self.bytes;
  none : no_feed (take l.seen l.self.bytes) ≡ true;
}

abbrev pub decreases-loop-found : goal.decreases-loop-found
decreases-loop-found g l = (32769 - length l.self.bytes) + cond l.self.ended 0 1
