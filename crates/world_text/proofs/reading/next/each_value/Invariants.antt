use Rattle.std.proofs.Common.{◌≡◌, ◌+◌, length}
use Rattle.world_text.specs.reading.Words.{words_of}
use Rattle.world_text.specs.reading.Next.{a_value, each}
use Rattle.world_text.proofs.reading_laws.EachLemmas.{with_read}
use Rattle.world_text.proofs.reading.next.each_value.Given as goal

abbrev pub invariant-loop-rest : goal.invariant-loop-rest
invariant-loop-rest l =
    (with_read l.values (each a_value (words_of l.rest)) ≡ each a_value (words_of l.text)) × (length l.values + length (words_of l.rest) ≡ length (words_of l.text))

abbrev pub decreases-loop-rest : goal.decreases-loop-rest
decreases-loop-rest l = length (words_of l.rest)
