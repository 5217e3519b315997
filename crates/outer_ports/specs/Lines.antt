-- The lines of a text, and how many of them begin with a word.
use Rattle.std.specs.Prelude.{ℕ, ◌-◌, ◌^◌, min, List, [], length, take, slice_index_or, ◌==◌, Bool, bytes_eq, codes, count_by}
use Rattle.std.specs.List.{slice_split, before_first}
use Rattle.outer_ports.specs.declared.sinks.tally.Tally.{Tally}

-- the parts between the line feeds: the last one has begun, and the others are whole lines
abbrev pub parts_of : List ℕ → List (List ℕ)
parts_of text = slice_split (λ byte. byte == 10) text

-- all parts except the last
abbrev pub whole_lines : List ℕ → List (List ℕ)
whole_lines text = take (length (parts_of text) - 1) (parts_of text)

-- the last part, which is empty after a line feed
abbrev pub begun_line : List ℕ → List ℕ
begun_line text = slice_index_or (parts_of text) (length (parts_of text) - 1) []

-- what precedes the first space
abbrev pub first_word : List ℕ → List ℕ
first_word line = before_first (λ byte. byte == 32) line

-- how many lines pass the test, in a 64-bit count, which saturates
abbrev pub line_count : (List ℕ → Bool) → List (List ℕ) → ℕ
line_count test lines = min (count_by test lines) (2 ^ 64 - 1)

-- the line's first word is this one
abbrev pub begins_with : List ℕ → List ℕ → Bool
begins_with word line = bytes_eq (first_word line) word

-- all lines, and those whose first word is one of the four
abbrev pub tally_of : List (List ℕ) → Tally
tally_of lines = record {
  replies = min (length lines) (2 ^ 64 - 1);
  exhausted = line_count (begins_with (codes "exhausted")) lines;
  wrong_type = line_count (begins_with (codes "wrong-type")) lines;
  reclaimed = line_count (begins_with (codes "reclaimed")) lines;
  fault = line_count (begins_with (codes "fault")) lines;
}

-- what a counting sink keeps: the counts of the whole lines, and the first bytes of the line that has begun
pub record Counted : Type 0 where
  pub tally : Tally
  pub begun : List ℕ

-- the state of a counting sink that was given this text; eleven bytes decide whether the first word is one of the four
abbrev pub counted_of : List ℕ → Counted
counted_of text = record { tally = tally_of (whole_lines text); begun = take 11 (begun_line text) }
