use Rattle.std.proofs.Common.{◌≡◌, ◌≤◌, ◌<◌, true, drop, length, Some, None}
use Rattle.std.specs.Prelude.{if◌then◌else◌}
use Rattle.world_text.specs.reading.Words.{is_well_formed, words_of}
use Rattle.world_text.proofs.reading_laws.WordCount.{counted}
use Rattle.world_text.proofs.reading.words.word_count.Given as goal

abbrev pub invariant-loop-byte : goal.invariant-loop-byte
invariant-loop-byte l =
    (counted l.in_word l.count (drop l.byte-index l.text) ≡ (if is_well_formed l.text then Some (length (words_of l.text)) else None))
    × (l.count ≤ l.byte-index)
    × (l.in_word ≡ true → 0 < l.count)
