use Rattle.std.proofs.Common.{◌≡◌, ℕ, ◌+◌, ◌-◌, ◌++◌, List, length}
use Rattle.std.specs.Prelude.{replicate}
use Rattle.world_text.specs.reading.Words.{words_of}
use Rattle.world_text.specs.reading.Next.{a_number, each}
use Rattle.world_text.proofs.reading_laws.EachLemmas.{with_read}
use Rattle.world_text.proofs.reading.header_words.capacity_in.Given as goal

abbrev pub invariant-loop-rest : goal.invariant-loop-rest
invariant-loop-rest l = record {
  numbers : List ℕ;
  so_far : l.capacity ≡ numbers ++ replicate (6 - length numbers) 0;
  level : l.level ≡ length numbers;
  reads : with_read numbers (each (a_number 0 16777216) (words_of l.rest)) ≡ each (a_number 0 16777216) (words_of l.text);
  few : l.level + length (words_of l.rest) ≡ length (words_of l.text);
}

abbrev pub decreases-loop-rest : goal.decreases-loop-rest
decreases-loop-rest l = length (words_of l.rest)
