use Rattle.std.proofs.Common.{ℕ, ◌<◌, get_or}
use Rattle.store_word.specs.Words.{null_word}
use Rattle.mem_port.proofs.reading.words_before.Given as goal

-- no word so far is wanted
abbrev pub invariant-loop-i : goal.invariant-loop-i
invariant-loop-i g l = (k : ℕ) → k < l.i → g.T.WordTest.wanted l.test (get_or l.words k null_word) → ⊥
