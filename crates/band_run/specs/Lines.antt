-- What a line that isn't part of a file means. The reasons are tested in this order.
use Rattle.std.specs.Prelude.{◌≡◌, ℕ, List, length, drop, true, ◌==◌, if◌then◌else◌, bytes_eq, codes, Result, Ok, Err}
use Rattle.lisp_graph.specs.Name.{is_name}
use Rattle.world_text.specs.declared.reading.reason.Reason.{Reason}
use Rattle.world_text.specs.declared.reading.reason.Reason.TheVariants.{BadLine, UnknownCommand, WrongCount, BadName}
use Rattle.world_text.specs.Words.{first_word, is_well_formed, words_of}
use Rattle.world_text.specs.Next.{◌>>=◌}
use Rattle.band_run.specs.declared.reading.line.BandLine.{BandLine}
use Rattle.band_run.specs.declared.reading.line.BandLine.TheVariants as L

-- Each line has `count` words; `words` are those after the first.

-- the meaning of a line of one word
abbrev pub alone : ℕ → BandLine → Result BandLine Reason
alone count line = if count == 1 then Ok line else Err WrongCount

-- the name in a line of two words
abbrev pub name_in : ℕ → List (List ℕ) → Result (List ℕ) Reason
name_in count words = if count == 2 then (if is_name (first_word words) then Ok (first_word words) else Err BadName) else Err WrongCount

-- the meaning of a line with this first word
unfoldable pub line_in : List ℕ → ℕ → List (List ℕ) → Result BandLine Reason
line_in head count words =
    if bytes_eq head (codes "open") then alone count L.Open
    else if bytes_eq head (codes "save") then (do
      name ← name_in count words
      Ok (L.Save name))
    else if bytes_eq head (codes "load") then (do
      name ← name_in count words
      Ok (L.Load name))
    else if bytes_eq head (codes "list") then alone count L.List
    else if bytes_eq head (codes "end") then alone count L.End
    else Err UnknownCommand

-- The meaning of a line.
abbrev pub band_line : List ℕ → Result BandLine Reason
band_line text = if is_well_formed text then line_in (first_word (words_of text)) (length (words_of text)) (drop 1 (words_of text)) else Err BadLine

-- if the line has a name, the name is valid
abbrev pub IsNamed : BandLine → Type 0
IsNamed (L.Save name) = is_name name ≡ true
IsNamed (L.Load name) = is_name name ≡ true
IsNamed _ = Unit {0}
