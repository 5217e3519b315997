use Rattle.std.proofs.Common.{ℕ, ◌≤◌, ◌↔◌}
use Rattle.store_word.specs.Sets.{HasLevel}
use Rattle.mem_port.proofs.TagLaws.{HasBelow}
use Rattle.mem_port.proofs.tags.levels_on.Given as goal

-- the set has the levels of the words so far
abbrev pub invariant-loop-word : goal.invariant-loop-word
invariant-loop-word l = (level : ℕ) → 1 ≤ level → HasLevel l.set.0 level ↔ HasBelow l.words l.levels l.word-index level
