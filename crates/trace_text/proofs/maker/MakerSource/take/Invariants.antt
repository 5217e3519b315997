use Rattle.std.proofs.Common.{◌≡◌, ◌-◌, ◌≤◌, ◌++◌, take, length}
use Rattle.trace_text.specs.Made.{left_of}
use Rattle.trace_text.proofs.maker.MakerSource.take.Given as goal

abbrev pub invariant-loop-self : goal.invariant-loop-self
invariant-loop-self l = record {
  fits : l.count ≤ length l.into;
  given : left_of l.fn.self.line l.fn.self.at l.fn.self.count l.fn.self.state l.fn.self.next l.fn.self.lines
      ≡ take l.count l.into ++ left_of l.self.line l.self.at l.self.count l.self.state l.self.next l.self.lines;
}

abbrev pub decreases-loop-self : goal.decreases-loop-self
decreases-loop-self l = length l.into - l.count
