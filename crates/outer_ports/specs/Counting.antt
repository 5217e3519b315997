-- How counts of lines grow.
use Rattle.std.specs.Prelude.{ℕ, ◌+◌, ◌-◌, ◌^◌, min, List, [], ◌∷◌, ◌++◌, take, ◌==◌, ◌||◌, Bool, true, false, bytes_eq, if◌then◌else◌, codes}
use Rattle.outer_ports.specs.declared.sinks.tally.Tally.{Tally}
use Rattle.outer_ports.specs.Lines.{Counted, first_word}

-- the next 64-bit count if the test holds, otherwise the same count
abbrev pub next_count_if : Bool → ℕ → ℕ
next_count_if holds count = min (count + (if holds then 1 else 0)) (2 ^ 64 - 1)

-- the counts after one more line, which has this first word
abbrev pub with_word : Tally → List ℕ → Tally
with_word tally word = record {
  replies = next_count_if true tally.replies;
  exhausted = next_count_if (bytes_eq word (codes "exhausted")) tally.exhausted;
  wrong_type = next_count_if (bytes_eq word (codes "wrong-type")) tally.wrong_type;
  reclaimed = next_count_if (bytes_eq word (codes "reclaimed")) tally.reclaimed;
  fault = next_count_if (bytes_eq word (codes "fault")) tally.fault;
}

-- the counts after one more line
abbrev pub with_line : Tally → List ℕ → Tally
with_line tally line = with_word tally (first_word line)

-- whether a line begins with the first byte of one of the four words
abbrev pub may_be_counted : List ℕ → Bool
may_be_counted [] = false
may_be_counted (byte ∷ bytes) = byte == 101 || byte == 119 || byte == 114 || byte == 102

-- the counts after one more line, which begins with none of the four words
abbrev pub with_other : Tally → Tally
with_other tally = record {
  replies = next_count_if true tally.replies;
  exhausted = next_count_if false tally.exhausted;
  wrong_type = next_count_if false tally.wrong_type;
  reclaimed = next_count_if false tally.reclaimed;
  fault = next_count_if false tally.fault;
}

-- the counts after one more line, which begins with `exhausted`
abbrev pub with_exhausted : Tally → Tally
with_exhausted tally = record {
  replies = next_count_if true tally.replies;
  exhausted = next_count_if true tally.exhausted;
  wrong_type = next_count_if false tally.wrong_type;
  reclaimed = next_count_if false tally.reclaimed;
  fault = next_count_if false tally.fault;
}

-- the counts after one more line, which begins with `wrong-type`
abbrev pub with_wrong_type : Tally → Tally
with_wrong_type tally = record {
  replies = next_count_if true tally.replies;
  exhausted = next_count_if false tally.exhausted;
  wrong_type = next_count_if true tally.wrong_type;
  reclaimed = next_count_if false tally.reclaimed;
  fault = next_count_if false tally.fault;
}

-- the state after more bytes of the line that has begun
abbrev pub with_rest : Counted → List ℕ → Counted
with_rest counted bytes = record counted { begun = take 11 (counted.begun ++ bytes) }

-- the state after the last bytes of the line that has begun, and its line feed
abbrev pub with_end : Counted → List ℕ → Counted
with_end counted bytes = record { tally = with_line counted.tally (take 11 (counted.begun ++ bytes)); begun = [] }
