use Rattle.std.proofs.Common.{ℕ, ◌≡◌, ◌<◌, Some, slice_get}
use Rattle.store_word.specs.Words.{Parts}
use Rattle.mem_port.specs.Store.{level_of_word}
use Rattle.mem_port.proofs.tags.has_ephemeral.Given as goal

-- no word so far has an address of level 1 or more
abbrev pub invariant-loop-word : goal.invariant-loop-word
invariant-loop-word l = (k : ℕ) (word : Parts) → k < l.word-index → slice_get l.words k ≡ Some word → level_of_word l.levels word ≡ 0
