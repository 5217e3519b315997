-- The lines of a list of bytes.
use Rattle.std.specs.Prelude.{ℕ, ◌+◌, List, [], ◌∷◌, length, Bool, true, false, ◌==◌, if◌then◌else◌}

-- a line: its bytes without the line feed, and whether it has a line feed
pub record Line : Type 0 where
  pub text : List ℕ
  pub whole : Bool

-- the lines after one more byte in front of the first line
abbrev pub onto : ℕ → List Line → List Line
onto byte [] = record { text = byte ∷ []; whole = false } ∷ []
onto byte (line ∷ lines) = record { text = byte ∷ line.text; whole = line.whole } ∷ lines

-- the bytes, cut at each line feed; a last piece without a line feed is a line if it isn't empty
abbrev pub lines_of : List ℕ → List Line
lines_of [] = []
lines_of (byte ∷ bytes) = if byte == 10 then record { text = []; whole = true } ∷ lines_of bytes else onto byte (lines_of bytes)

-- how many bytes a line has, its line feed included
abbrev pub size_of : Line → ℕ
size_of line = length line.text + (if line.whole then 1 else 0)

-- the lines that have a line feed
abbrev pub whole_lines : List Line → List Line
whole_lines [] = []
whole_lines (line ∷ lines) = if line.whole then line ∷ whole_lines lines else whole_lines lines
