-- The summary of an exercise: six lines.
use Rattle.std.specs.Prelude.{ℕ, List, [], ◌∷◌, ◌++◌, codes, decimal}
use Rattle.outer_ports.specs.declared.sinks.tally.Tally.{Tally}

-- a word and a count
abbrev pub count_line : List ℕ → ℕ → List ℕ
count_line word count = word ++ codes " " ++ decimal count ++ 10 ∷ []

-- how many commands were generated, how many reply lines they have, and how many of these begin with each of four words
abbrev pub summary : ℕ → Tally → List ℕ
summary count tally =
    count_line (codes "commands") count ++ count_line (codes "replies") tally.replies ++ count_line (codes "exhausted") tally.exhausted
    ++ count_line (codes "wrong-type") tally.wrong_type ++ count_line (codes "reclaimed") tally.reclaimed ++ count_line (codes "fault") tally.fault
