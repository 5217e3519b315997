use Rattle.std.proofs.Common.{◌≡◌, ◌+◌, take, drop}
use Rattle.line_input.proofs.lines.buffer.shift.Given as goal

abbrev pub invariant-loop-at : goal.invariant-loop-at
invariant-loop-at l =
    (take l.at l.buffer ≡ take l.at (drop l.start l.fn.buffer))
    × (drop (l.start + l.at) l.buffer ≡ drop (l.start + l.at) l.fn.buffer)
